use Rattle.std.proofs.Common.{◌≡◌, ℕ, List, [], ap, sym, subst, refl, ◌∙◌, ◌++◌, codes, decimal, append-nil}
use Rattle.std.specs.Prelude.{Result}
use Rattle.std.specs.Global.{Vec}
use Rattle.hub_base.specs.Entry.{Step}
use Rattle.hub_base.specs.Lines.{call_fields, step_fields}
use Rattle.hub_text.specs.Writing.{Appends, spaced}
use Rattle.hub_text.proofs.writer.put_step.Goals as goal

-- a word and a number, which are the fields of a step
worded : {E : Type 0} {old new : Vec ℕ} {result : Result (Unit {0}) E} {step is : Step} {read : ℕ} (word : List ℕ) (n : ℕ) → step ≡ is → read ≡ n
    → spaced (step_fields is) ≡ word ++ (decimal n ++ []) → Appends old new (word ++ decimal read) result
    → Appends old new (spaced (step_fields step)) result
worded {old = old} {new = new} {result = result} word n same number spelled done =
    subst (λ text. Appends old new text result)
    (ap (λ t. word ++ t) (ap decimal number ∙ sym (append-nil (decimal n))) ∙ sym spelled ∙ ap (λ s. spaced (step_fields s)) (sym same)) done

pub returns-in-Make : goal.returns-in-Make
returns-in-Make c = worded (codes " make ") c.in-Make.cap c.in-Make.is c.into.ensures refl c.put_before_number.ensures

pub returns-in-Call : goal.returns-in-Call
returns-in-Call c =
    subst (λ text. Appends c.args.out.now c.put_call.new.out text c.put_call.result)
    (ap (λ cs. spaced (call_fields cs c.in-Call.default c.in-Call.word)) c.as_slice.ensures.cases
    ∙ ap (λ s. spaced (step_fields s)) (sym c.in-Call.is)) c.put_call.ensures

pub returns-in-Close : goal.returns-in-Close
returns-in-Close c = worded (codes " close ") c.in-Close.port.0 c.in-Close.is c.into-in-Close.ensures refl c.put_before_number-in-Close.ensures

pub returns-in-Exit : goal.returns-in-Exit
returns-in-Exit c =
    subst (λ text. Appends c.args.out.now c.put.new.out text c.put.result)
    (ap (λ s. spaced (step_fields s)) (sym c.in-Exit.is)) c.put.ensures.appends

pub returns-in-Start : goal.returns-in-Start
returns-in-Start c = worded (codes " start ") c.in-Start.pid.0 c.in-Start.is c.into-in-Start.ensures refl c.put_before_number-in-Start.ensures

pub returns-in-Cancel : goal.returns-in-Cancel
returns-in-Cancel c = worded (codes " cancel ") c.in-Cancel.pid.0 c.in-Cancel.is c.into-in-Cancel.ensures refl c.put_before_number-in-Cancel.ensures
