use Rattle.std.proofs.Common.{◌≡◌, ◌∙◌, ◌+◌, ap, refl}
use Rattle.hub_base.specs.Ready.{port_of}
use Rattle.hub_story.specs.LastMoves.{known_of}
use Rattle.hub_story.specs.Levels.{told_by}
use Rattle.hub_picture.proofs.waiters.waits_for.Goals as goal

pub returns : goal.returns
returns c =
    let standing = c.args.standing.now in
    let moves = standing.moves.now in
    let told = told_by (standing.step + 1) moves.told.now in
    let there : c.at-there.result ≡ known_of moves.entries.now told (port_of c.args.case) =
    c.at-there.ensures ∙ c.requires.known c.port.result ∙ ap (known_of moves.entries.now told) c.port.ensures in
    rw (c.whom.ensures, there) refl
