use Rattle.std.proofs.Common.{◌∙◌, Some, ap, filter, refl, sym}
use Rattle.hub_story.specs.Outlines.{ends_late}
use Rattle.hub_story.specs.Told.{end_of, told}
use Rattle.hub_story.proofs.Late.{end-by}
use Rattle.hub_story.proofs.late_ends.LateEnds.end.Goals as goal

pub returns-in-Some : goal.returns-in-Some
returns-in-Some c j so below is =
    end-by j.head j.entries c.args.place c.args.came.now (Some c.in-Some.end) (end_of (filter ends_late (told j.head j.entries)) c.args.place) is
    (sym c.in-Some.is ∙ c.own_end.ensures) refl

pub returns-in-None : goal.returns-in-None
returns-in-None c j so below is =
    end-by j.head j.entries c.args.place c.args.came.now _ _ is (sym c.in-None.is ∙ c.own_end.ensures)
    (c.at.ensures ∙ so.places.each c.args.place below ∙ ap (λ l. end_of l c.args.place) so.ended)
