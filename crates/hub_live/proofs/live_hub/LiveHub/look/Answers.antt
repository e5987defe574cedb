use Rattle.std.proofs.Common.{◌≡◌, ◌<◌, ◌≤◌, ◌∙◌, Some, sym, ap, subst, arith}
use Rattle.hub_live.specs.Prelude.{MOST_PORTS, mark, read_back, IsIdle, seat_of}
use Rattle.hub_live.proofs.Marks.{no_port, mark-tells}
use Rattle.hub_live.proofs.Laters.{later_self, seat_opened, has_seen, Looking, looking}
use Rattle.hub_live.proofs.live_hub.LiveHub.look.Given.{Over}
use Rattle.hub_live.proofs.live_hub.LiveHub.look.Goals as goal
use Rattle.hub_live.proofs.live_hub.LiveHub.look.Goals.{After-look, then-port-eq0-via-then-port-eq0, then-port-eq0-via-else-port-eq0+then-port-gt-MOST_PORTS}

pub returns-then-port-eq0-clause-later : goal.returns-then-port-eq0-clause-later
returns-then-port-eq0-clause-later g c = later_self c.args.seat.now c.pid-pid.ensures.idle

pub returns-then-port-eq0-clause-counts : goal.returns-then-port-eq0-clause-counts
returns-then-port-eq0-clause-counts g c =
    let out : 0 < c.args.port.0 → c.args.port.0 ≤ MOST_PORTS → ⊥ = λ lo hi. elim c.then-port-eq0.branch [
      | then-port-eq0-via-then-port-eq0 w ↦ omega (arith, w.if-port-eq0)
      | then-port-eq0-via-else-port-eq0+then-port-gt-MOST_PORTS w ↦ omega (arith, w.if-port-gt-MOST_PORTS)
    ] in
    sym (no_port c.args.seat.now.hub.terms.head c.args.seat.now.seen c.args.port out)

seen : (g : Over) (c : After-look g) → Looking c.args.seat.now (seat_of c.seat-inside.inside.0.0.pid (Some c.look.new.token))
seen g c =
    let mine = seat_opened c.requires c.seat-inside.invariant (ap (λ s. s.inner) c.seat-inside.view_is ∙ c.seat.view_is) c.in-Some.is in
    looking (subst IsIdle c.seat.view_is c.seat.invariant) (has_seen mine c.look.ensures.token c.look.ensures.sees.sees)

pub invariant_of-seat-2 : goal.invariant_of-seat-2
invariant_of-seat-2 g c = (seen g c).later.idle

pub returns-clause-later : goal.returns-clause-later
returns-clause-later g c = (seen g (goal.at.returns-clause-later g c).After-look).later

pub returns-clause-same : goal.returns-clause-same
returns-clause-same g c = (seen g (goal.at.returns-clause-same g c).After-look).same

pub returns-clause-counts : goal.returns-clause-counts
returns-clause-counts g c =
    let w = c.look.new.token.me.0 in
    let history = (seen g (goal.at.returns-clause-counts g c).After-look).later.idle.history in
    let number : c.from.result ≡ c.args.port.0 = c.from.ensures in
    let terms = c.look.ensures.sees.sees.terms in
    let some : 0 < c.from.result = omega arith in
    let is : c.look.result ≡ mark w.terms.head w.seen c.args.port.0 =
    ◌∙◌ {b = mark c.in-Some.mine.me.0.terms.head w.seen c.from.result} (c.look.ensures.mark some) (λ i. mark (sym terms i).head w.seen (number i)) in
    c.read_back.ensures ∙ ap read_back is ∙ mark-tells w.terms.head w.seen c.args.port history.legal history.few
