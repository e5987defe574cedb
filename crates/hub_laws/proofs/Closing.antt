-- A close, one open call at a time: what a loop that ends the oldest call on the port has done.
use Rattle.hub_laws.proofs.Prelude.{arith, ◌≡◌, true, false, List, [], ◌∷◌, refl, sym, Option, Some, None, ◌==◌, not, filter, list_any, filter_map, option_map}
use Rattle.hub_laws.proofs.Prelude.{is_some, Pid, Port, first_with, Placed, Ending, or_else, lowest, is_on, without, OpenCall, fired, closing_event}
use Rattle.hub_laws.proofs.Prelude.{closing_outcome, Apart, is_among}
use Rattle.hub_laws.proofs.Calls.{lowest-some}
use Rattle.hub_laws.proofs.Leaving.{without_head}

-- the open calls with no case on the port
abbrev pub off_port : Port → List OpenCall → List OpenCall
off_port p calls = filter (λ call. not (list_any (is_on p) call.cases)) calls

-- the heads that are passed over, and that end

stays : (p : Port) (call : OpenCall) (calls : List OpenCall) → false ≡ list_any (is_on p) call.cases → off_port p (call ∷ calls) ≡ call ∷ off_port p calls
stays p call calls on = rw (sym on) refl

keeps : (pid : Pid) (call : OpenCall) (calls : List OpenCall) → (call.pid.0 == pid.0) ≡ false → without pid (call ∷ calls) ≡ call ∷ without pid calls
keeps pid call calls e = rw e refl

-- the oldest one's event comes first, and the others' are those of the calls without it
abbrev pub NextOf : Port → List OpenCall → Ending → Type 0
NextOf p calls e =
    (filter_map (closing_event p) calls ≡ fired e.pid e.at.index (closing_outcome e.at.case) ∷ filter_map (closing_event p) (without e.pid calls))
    × (off_port p (without e.pid calls) ≡ off_port p calls)
    × (is_among e.pid.0 calls ≡ true)

-- what is left to close, where `o` is the oldest call with a case on the port
pub record ClosesNext (p : Port) (calls : List OpenCall) (o : Option Ending) : Type 0 where
  pub none : o ≡ None → (filter_map (closing_event p) calls ≡ []) × (off_port p calls ≡ calls)
  pub next : (e : Ending) → o ≡ Some e → NextOf p calls e

next_here : (p : Port) (call : OpenCall) (calls : List OpenCall) (a : Placed) → Some a ≡ lowest (is_on p) call.cases
    → true ≡ list_any (is_on p) call.cases → is_among call.pid.0 calls ≡ false → NextOf p (call ∷ calls) (record { pid = call.pid; at = a })
next_here p call calls a at on apart = grind (arith, without_head)

next_by : (p : Port) (call : OpenCall) (calls : List OpenCall) (o : Option Placed) → o ≡ lowest (is_on p) call.cases →
    is_some o ≡ list_any (is_on p) call.cases → is_among call.pid.0 calls ≡ false → ClosesNext p calls (first_with (is_on p) calls) →
    ClosesNext p (call ∷ calls) (or_else (option_map (λ c. record { pid = call.pid; at = c }) o) (first_with (is_on p) calls))
next_by p call calls None at on apart rest = grind arith
next_by p call calls (Some a) at on apart rest = grind (arith, next_here p call calls a)

pub closes-next : (p : Port) (calls : List OpenCall) → Apart calls → ClosesNext p calls (first_with (is_on p) calls)
closes-next p [] a = record { none = λ e. (refl, refl); next = λ e h. cc }
closes-next p (call ∷ calls) a = grind (arith, next_by p call calls (lowest (is_on p) call.cases), lowest-some 0 (is_on p) call.cases, closes-next p calls a.1)
