use Rattle.std.proofs.Common.{◌≡◌, ℕ, ◌+◌, length, [], sym, ap, ◌∙◌, subst, rules}
use Rattle.hub_live.specs.Prelude.{name_of, AreSeats}
use Rattle.hub_live.proofs.Laters.{push_seat}
use Rattle.hub_live.proofs.blank.seats_of.Goals as goal

pub loop-pid-preserved : goal.loop-pid-preserved
loop-pid-preserved c =
    let i = c.loop-pid.invariant in
    let e = c.in_ok-push.ensures in
    let d = c.in_ok-token.ensures in
    let name = name_of c.args.table.now.shared.table_id c.args.table.now.shared.key in
    let pid : c.loop-pid.pid ≡ 0 + length c.loop-pid.seats.items = search rules in
    let is : c.of.result ≡ record { hub = name; pid = record { 0 = 0 + length c.loop-pid.seats.items }; seen = [] } =
    c.of.ensures
    ∙ (c.of-inner.ensures ∙ (λ j. record { hub = name_of (d.table j) (d.seat j).0.terms; pid = record { 0 = pid j }; seen = (d.seat j).0.seen })) in
    (e.len ∙ ap (λ (n : ℕ). n + 1) i.0, subst (AreSeats name 0) (sym e.items) (push_seat name 0 c.loop-pid.seats.items c.of.result i.1 is))
