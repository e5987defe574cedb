-- The clock of a journal: the process by which calls time out. It waits on port 0 while no call has a deadline, and cancels calls whose
-- deadlines have passed. A journal does not say which process that is, so it is known by what it does.
use Rattle.std.specs.Prelude.{ℕ, ◌-◌, ◌==◌, ◌&&◌, ◌||◌, nat_lt, not, Bool, true, false, List, [], ◌∷◌, count_by, if◌then◌else◌}
use Rattle.std.specs.Prelude.{Option, None, Some}
use Rattle.std.specs.List.{list_any}
use Rattle.hub_base.specs.declared.value.Pid.{Pid}
use Rattle.hub_base.specs.declared.case.Case.{Case}
use Rattle.hub_base.specs.declared.case.Case.TheVariants.{Recv}
use Rattle.hub_base.specs.declared.head.Head.{Head}
use Rattle.hub_base.specs.Entry.{Entry, Step}
use Rattle.hub_base.specs.declared.entry.Step.TheVariants.{Make, Call, Close, Cancel, Start, Reopen}
use Rattle.hub_base.specs.Head.{has_cancel}
use Rattle.hub_base.specs.Reading.{is_exit}
use Rattle.hub_story.specs.declared.clock.Kind.{Kind}
use Rattle.hub_story.specs.declared.clock.Kind.TheVariants.{NilReceive, CancelStep, Other}

-- nothing but one receive on port 0
abbrev pub is_nil_receive : List Case → Bool
is_nil_receive (Recv p ∷ []) = p.0 == 0
is_nil_receive cases = false

-- the step is of this kind; an exit is of none
abbrev pub is_of_kind : Kind → Step → Bool
is_of_kind NilReceive (Call cases default word) = not default && is_nil_receive cases.items
is_of_kind CancelStep (Cancel q) = true
is_of_kind Other (Make cap) = true
is_of_kind Other (Call cases default word) = default || not (is_nil_receive cases.items)
is_of_kind Other (Close p) = true
is_of_kind Other (Start q) = true
is_of_kind Other (Reopen p cap) = true
is_of_kind kind other = false

-- process n makes such a step
abbrev pub is_made : Kind → ℕ → Entry → Bool
is_made kind n e = (e.pid.0 == n) && is_of_kind kind e.step

-- it makes one or more of these
abbrev pub makes_some : Kind → ℕ → List Entry → Bool
makes_some kind n es = list_any (is_made kind n) es

-- process n makes the first step
abbrev pub makes_first : ℕ → List Entry → Bool
makes_first n [] = false
makes_first n (e ∷ es) = e.pid.0 == n

-- process n makes the step, which is no exit
abbrev pub is_step_of : ℕ → Entry → Bool
is_step_of n e = (e.pid.0 == n) && not (is_exit e.step)

-- how many steps process n makes, its exit left aside
abbrev pub steps_made : ℕ → List Entry → ℕ
steps_made n es = count_by (is_step_of n) es

-- process n waits on port 0, and does nothing else but cancel and exit; and it makes the first step of all, or more than one
abbrev pub keeps_time : ℕ → List Entry → Bool
keeps_time n es = makes_some NilReceive n es && not (makes_some Other n es) && (makes_first n es || nat_lt 1 (steps_made n es))

-- the clock of a journal, if it has one: from the second edition on the last of several processes, where it does that
abbrev pub clock_of : Head → List Entry → Option Pid
clock_of h es =
    if has_cancel h.edition && nat_lt 1 h.procs && keeps_time (h.procs - 1) es then Some (record { 0 = h.procs - 1 }) else None
