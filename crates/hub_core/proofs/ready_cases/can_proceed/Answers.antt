use Rattle.std.proofs.Common.{◌≡◌, ◌∙◌, Bool, false, nat_lt, ap, refl, sym}
use Rattle.std.specs.Prelude.{◌||◌, ◌==◌, is_some}
use Rattle.std.proofs.lemmas.Bool.{ne_eqb}
use Rattle.hub_base.specs.declared.value.Port.{Port}
use Rattle.hub_base.specs.declared.value.Value.{Value}
use Rattle.hub_base.specs.declared.case.Case.{Case}
use Rattle.hub_base.specs.declared.case.Case.TheVariants.{Send, Recv}
use Rattle.hub_base.specs.Ready.{port_of}
use Rattle.hub_parts.specs.Records.{Lists}
use Rattle.hub_parts.specs.Lists.{port_at}
use Rattle.hub_core.specs.ListReady.{can_on, receiver_on, sender_on, len_on}
use Rattle.hub_core.proofs.ready_cases.can_proceed.Goals as goal

-- what a send asks
send_asked : (b : Lists) (k : Case) (p : Port) (v : Value) (closed receiver room : Bool) → k ≡ Send p v
    → (p.0 == 0) ≡ false → closed ≡ (port_at b p).closed → receiver ≡ is_some (receiver_on b p) → room ≡ nat_lt (len_on b p) (port_at b p).cap
    → ((closed || receiver) || room) ≡ can_on b k
send_asked b k p v closed receiver room is made c r m = rw (is, made, ← c, ← r, ← m) refl

-- what a receive asks
recv_asked : (b : Lists) (k : Case) (p : Port) (closed sender some : Bool) → k ≡ Recv p
    → (p.0 == 0) ≡ false → closed ≡ (port_at b p).closed → sender ≡ is_some (sender_on b p) → some ≡ nat_lt 0 (len_on b p)
    → ((sender || some) || closed) ≡ can_on b k
recv_asked b k p closed sender some is made c s m = rw (is, made, ← c, ← s, ← m) refl

pub returns-in-Send : goal.returns-in-Send
returns-in-Send c =
    let b = c.args.board.now in
    let p = c.port-port.result in
    let v = c.in-Send.field-1 in
    let here : p ≡ c.in-Send.field-0 = c.port-port.ensures ∙ ap port_of c.in-Send.is in
    let is : c.args.case.now ≡ Send p v = c.in-Send.is ∙ ap (λ q. Send q v) (sym here) in
    let room : nat_lt c.len-len.result c.cap.result ≡ nat_lt (len_on b p) (port_at b p).cap =
    ap (λ n. nat_lt n c.cap.result) c.len-len.ensures.len ∙ ap (nat_lt (len_on b p)) c.cap.ensures in
    send_asked b c.args.case.now p v _ _ _ is (ne_eqb p.0 0 c.if-port-eq0.false) c.closed.ensures c.waiting.ensures room

pub returns-in-Recv : goal.returns-in-Recv
returns-in-Recv c =
    let b = c.args.board.now in
    let p = c.port-port.result in
    let here : p ≡ c.in-Recv.field-0 = c.port-port.ensures ∙ ap port_of c.in-Recv.is in
    let is : c.args.case.now ≡ Recv p = c.in-Recv.is ∙ ap Recv (sym here) in
    recv_asked b c.args.case.now p _ _ _ is (ne_eqb p.0 0 c.if-port-eq0.false) c.closed-in-Recv.ensures c.waiting-in-Recv.ensures
    (ap (nat_lt 0) c.len-len.ensures.len)
