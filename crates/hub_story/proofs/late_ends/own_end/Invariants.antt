use Rattle.std.proofs.Common.{◌≡◌, drop}
use Rattle.hub_story.specs.Told.{end_of}
use Rattle.hub_story.proofs.late_ends.own_end.Given as goal

abbrev pub invariant-loop-told : goal.invariant-loop-told
invariant-loop-told l = end_of (drop l.told-index l.came) l.place ≡ end_of l.came l.place
