use Rattle.std.proofs.Common.{◌≡◌, ℕ, Bool, true, List, ap, sym, ◌∙◌, Ok, Err}
use Rattle.std.specs.Prelude.{if◌then◌else◌}
use Rattle.hub_base.specs.declared.case.Case.{Case}
use Rattle.hub_base.specs.declared.limits.TheConstants.{GREATEST_PID, GREATEST_WORD}
use Rattle.hub_base.specs.declared.read_fault.Kind.TheVariants.{BadNumber}
use Rattle.hub_base.specs.Lines.{◌>>=◌, numeral, choose, spelled, by, call}
use Rattle.hub_text.proofs.Spelled.{no-short-form}
use Rattle.hub_text.proofs.selects.choose.Goals as goal

chosen : (pid word : List ℕ) (p w : ℕ) (cases : List Case) (fine default : Bool) → numeral GREATEST_PID pid ≡ Ok p → numeral GREATEST_WORD word ≡ Ok w
    → fine ≡ true → spelled cases default w ≡ Ok (call cases default w)
    → choose pid word (if fine then Ok cases else Err BadNumber) default ≡ Ok (by p (call cases default w))
chosen pid word p w cases fine default process numbered is_fine spells =
    let kept = if fine then Ok cases else Err BadNumber in
    ap (λ r. r >>= λ pid. numeral GREATEST_WORD word >>= λ word. kept >>= λ cases. spelled cases default word >>= λ step. Ok (by pid step)) process
    ∙ ap (λ r. r >>= λ word. kept >>= λ cases. spelled cases default word >>= λ step. Ok (by p step)) numbered
    ∙ ap (λ fine. (if fine then Ok cases else Err BadNumber) >>= λ cases. spelled cases default w >>= λ step. Ok (by p step)) is_fine
    ∙ ap (λ r. r >>= λ step. Ok (by p step)) spells

pub returns : goal.returns
returns c =
    chosen c.args.pid.now c.args.word.now c.in_ok-pid.pid c.in_ok-word.word c.args.cases.items c.args.fine c.args.default
    (sym c.process.ensures ∙ c.in_ok-pid.was) (sym c.numeral.ensures.value ∙ c.in_ok-word.was) c.if-not-fine.false
    (no-short-form c.args.cases.items c.len.result c.args.default c.in_ok-word.word c.len.ensures.value c.else-len-eq1.either)
