use Rattle.std.proofs.Common.{◌∙◌, ◌++◌, ap, sym}
use Rattle.hub_story.specs.ByClock.{is_clock}
use Rattle.hub_story_text.specs.Explained.{cells_of}
use Rattle.hub_story_text.specs.Paint.{coloured_line, shown_colour}
use Rattle.hub_story_text.proofs.Chains.{one-more}
use Rattle.hub_story_text.proofs.explained.put_painted_line.Goals as goal

pub returns : goal.returns
returns c =
    let e = c.args.explained.now in
    let line = c.args.line.now in
    let before = c.args.out.now.items in
    let first = c.in_ok-extend_from_slice.ensures.items ∙ ap (λ l. before ++ l) c.text.ensures in
    let second = one-more before _ _ _ _ first c.in_ok-put_told_cells.ensures in
    one-more before _ _ _ _ second c.in_ok-extend_from_slice-2.ensures.items
    ∙ ap (λ colour. before ++ coloured_line colour (cells_of e line))
    (sym c.in-Some.is ∙ c.shown_colour.ensures ∙ ap (shown_colour e.paint (is_clock e.clock line.entry.now.pid)) c.requires.line.end)
