-- Who is outside the hub in the end, but for the clock: in one line, if anybody is.
use Rattle.std.specs.Prelude.{ℕ, ◌+◌, List, [], ◌∷◌, ◌++◌, codes, decimal, Option, None, Some}
use Rattle.std.specs.List.{flat_map}
use Rattle.hub_base.specs.declared.value.Pid.{Pid}
use Rattle.hub_base.specs.Entry.{Entry}
use Rattle.hub_story.specs.declared.outside.Outsider.{Outsider}
use Rattle.hub_story.specs.declared.told.Told.{Told}
use Rattle.hub_story.specs.Outside.{outside}
use Rattle.hub_story.specs.Waiting.{still_waiting}
use Rattle.hub_story.specs.ByClock.{other_outsiders}

abbrev pub last_words : Option ℕ → List ℕ
last_words None = codes ", never called"
last_words (Some place) = codes ", last at step " ++ decimal (place + 1)

-- behind these words a process, and its last step
abbrev pub outsider_words : List ℕ → Outsider → List ℕ
outsider_words words o = words ++ codes "P" ++ decimal o.pid.0 ++ last_words o.last

abbrev pub outside_line : List Outsider → List ℕ
outside_line [] = []
outside_line (o ∷ os) = outsider_words (codes "outside the hub: ") o ++ flat_map (outsider_words (codes "; ")) os ++ codes "\n"

-- of so many processes
abbrev pub outside_text : Option Pid → List Entry → List Told → ℕ → List ℕ
outside_text clock es all procs = outside_line (other_outsiders clock (outside es all (still_waiting all) procs))
