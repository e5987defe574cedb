-- The checkpoint of a state: a short journal that leads to a state alike.
use Rattle.std.specs.Prelude.{◌≡◌, ◌+◌, ◌*◌, ◌≤◌, ℕ, false, List, [], ◌∷◌, ◌++◌, map, filter, length, if◌then◌else◌}
use Rattle.std.specs.List.{range_with_len}
use Rattle.hub_base.specs.declared.case.Case.TheVariants.{Send}
use Rattle.hub_base.specs.Entry.{Entry}
use Rattle.hub_base.specs.declared.head.Head.{Head}
use Rattle.hub_base.specs.declared.limits.TheConstants.{MOST_CAP, MOST_PORTS}
use Rattle.hub_base.specs.declared.value.Value.{Value}
use Rattle.hub_base.specs.Head.{AreOf}
use Rattle.hub_base.specs.Lines.{by, call}
use Rattle.hub_base.specs.Notation.{port, make, close, exit}
use Rattle.hub_base.specs.State.{State, Channel, OpenCall, buffer_of}
use Rattle.hub_base.specs.Steps.{has_gone}
use Rattle.hub_base.specs.Runs.{state, kept}
use Rattle.hub_base.specs.Text.{steps_of}
use Rattle.hub_laws.specs.Journals.{IsLegal}
use Rattle.hub_chapters.specs.Alike.{Alike}

-- process 0 sends the value on port n
abbrev pub send_again : ℕ → Value → Entry
send_again n v = by 0 (call (Send (port n) v ∷ []) false 0)

-- process 0 makes port n, sends what the buffer holds, oldest first, and closes the port where it is closed
abbrev pub port_again : ℕ → Channel → List Entry
port_again n c = make 0 c.cap ∷ map (send_again n) (buffer_of c) ++ (if c.closed then close 0 n ∷ [] else [])

-- the ports from number n on
abbrev pub ports_again : ℕ → List Channel → List Entry
ports_again n [] = []
ports_again n (c ∷ cs) = port_again n c ++ ports_again (n + 1) cs

-- the numbers of the processes that have exited, ascending
abbrev pub exited : State → List ℕ
exited s = filter (has_gone s) (range_with_len 0 s.head.procs)

-- the process makes its open call again
abbrev pub call_again : OpenCall → Entry
call_again c = record { pid = c.pid; step = call c.cases false 0 }

-- the ports, then the exits, then the open calls in order of arrival
abbrev pub checkpoint : State → List Entry
checkpoint s = ports_again 1 s.channels ++ map exit (exited s) ++ map call_again s.parked

-- the most entries of a checkpoint that are no exits
abbrev pub most_steps : Head → ℕ
most_steps h = MOST_PORTS * (MOST_CAP + 2) + h.procs

-- of each run: the checkpoint of its state
pub record CheckpointLaw (h : Head) (es : List Entry) : Type 0 where
  pub legal : IsLegal h (checkpoint (state h es))
  pub alike : Alike (state h (checkpoint (state h es))) (state h es)
  -- it is no longer than the run's journal, exits left aside
  pub steps : steps_of (checkpoint (state h es)) ≤ steps_of (kept h es)
  pub few_steps : steps_of (checkpoint (state h es)) ≤ most_steps h
  pub short : length (checkpoint (state h es)) ≤ most_steps h + h.procs
  -- and of the run's edition
  pub fits : AreOf h.edition es → AreOf h.edition (checkpoint (state h es))

-- states alike have one checkpoint
abbrev pub OneCheckpoint : Head → List Entry → List Entry → Type 0
OneCheckpoint h es fs = Alike (state h es) (state h fs) → checkpoint (state h es) ≡ checkpoint (state h fs)
