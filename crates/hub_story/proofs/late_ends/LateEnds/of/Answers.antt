use Rattle.hub_story.proofs.late_ends.LateEnds.of.Goals as goal

pub returns : goal.returns
returns c all is = record { ended = is; places = c.in_ok-places.ensures }
