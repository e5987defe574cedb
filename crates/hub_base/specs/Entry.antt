-- An entry and its step, as they are in a journal: whoever holds the cases of a call, they are a list.
use Rattle.arrayvec.specs.ArrayVec.{ArrayVec}
use Rattle.hub_base.specs.declared.case.Case.{Case}
use Rattle.hub_base.specs.declared.entry.Step as step
use Rattle.hub_base.specs.declared.entry.Step.TheVariants.{Make, Call, Close, Exit, Cancel, Start, Reopen}
use Rattle.hub_base.specs.declared.entry.Entry as entry

abbrev pub Step : Type 0
Step = step.Step (ArrayVec Case)

abbrev pub Entry : Type 0
Entry = entry.Entry (ArrayVec Case)

-- the step has these cases, where it is a call
abbrev pub with_cases : {C D : Type 0} → step.Step C → D → step.Step D
with_cases (Make cap) cases = Make cap
with_cases (Call own default word) cases = Call cases default word
with_cases (Close p) cases = Close p
with_cases Exit cases = Exit
with_cases (Cancel q) cases = Cancel q
with_cases (Start q) cases = Start q
with_cases (Reopen p cap) cases = Reopen p cap
