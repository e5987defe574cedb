-- What is known of a case that fires, and of the call that it meets.
use Rattle.hub_laws.proofs.Prelude.{◌≡◌, Bool, true, List, [], ◌∷◌, ◌++◌, ap, ◌∙◌, Option, ◌+◌, length, eqb-true, length-append, is_some, Case, Send, Recv}
use Rattle.hub_laws.proofs.Prelude.{Port, Value, is_recv_on, first_with, is_send_on, Ending, Channel, OpenCall, some_call}
use Rattle.hub_laws.proofs.Calls.{first-some}
use Rattle.hub_laws.proofs.Ports.{same_port}

-- a call is found just where some call has such a case
pub some_first : (test : Case → Bool) (calls : List OpenCall) (o : Option Ending) → o ≡ first_with test calls → is_some o ≡ some_call test calls
some_first test calls o is = ap (λ x. is_some x) is ∙ first-some test calls

abbrev pub longer : (v : Value) (c : Channel) → length (c.sent ++ v ∷ []) ≡ length c.sent + 1
longer v c = length-append c.sent (v ∷ [])

-- what a case is, by its test
pub is_send : (p : Port) (c : Case) → is_send_on p c ≡ true → (v : Value) × (c ≡ Send p v)
is_send p (Send q v) e = (v, ap (λ (r : Port). Send r v) (same_port q p (eqb-true q.0 p.0 e)))
is_send p (Recv q) e = cc

pub is_recv : (p : Port) (c : Case) → is_recv_on p c ≡ true → c ≡ Recv p
is_recv p (Send q v) e = cc
is_recv p (Recv q) e = ap (λ (r : Port). Recv r) (same_port q p (eqb-true q.0 p.0 e))
