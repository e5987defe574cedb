use Rattle.std.proofs.Common.{refl}
use Rattle.std.proofs.lemmas.Result.{on_ok_weaker}
use Rattle.hub_story.specs.Lives.{is_turn}
use Rattle.hub_story.specs.Outlines.{ends_late}
use Rattle.hub_story.specs.Partners.{is_made}
use Rattle.hub_story.proofs.Outlined.{kept-more}
use Rattle.hub_story.proofs.outline.Outline.note.Goals as goal

pub returns : goal.returns
returns c =
    let es = c.args.entries.now in
    let t = c.args.told.now in
    on_ok_weaker c.keep_late.result
    (λ ended before was. record {
      moves = c.in_ok-note.ensures before was.moves;
      made = kept-more (λ t. is_made t.event.what) before t _ _ _ was.made c.is_made.ensures c.in_ok-keep_if.ensures;
      turns = kept-more (is_turn es) before t _ _ _ was.turns c.is_turn.ensures c.in_ok-keep_if-2.ensures;
      ended = kept-more ends_late before t _ _ _ was.ended refl ended;
    })
    c.keep_late.ensures
