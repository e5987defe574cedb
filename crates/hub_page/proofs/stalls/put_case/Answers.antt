use Rattle.std.proofs.Common.{◌≡◌, ◌∙◌, ap}
use Rattle.hub_base.specs.Ready.{port_of}
use Rattle.hub_story.specs.LastMoves.{known_of}
use Rattle.hub_page.specs.Line.{entries_of}
use Rattle.hub_page.specs.Stalls.{until}
use Rattle.hub_page.proofs.stalls.put_case.Goals as goal

pub returns : goal.returns
returns c =
    let line = c.args.stall.now.line.now in
    let known = known_of (entries_of line) (until line) in
    let there : c.at-there.result ≡ known (port_of c.args.case.now) =
    c.at-there.ensures ∙ c.requires.past.seen.last.known c.port.result ∙ ap known c.port.ensures in
    rw there at c.put_waiting.ensures
