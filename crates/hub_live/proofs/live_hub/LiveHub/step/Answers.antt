use Rattle.std.proofs.Common.{◌≡◌, ◌∙◌, Ok, ap, subst, sym}
use Rattle.hub_live.specs.Prelude.{Entry, Pid, SeatView, ServesSeat, Step}
use Rattle.hub_live.proofs.Laters.{Answered, answered}
use Rattle.hub_live.proofs.live_hub.LiveHub.step.Given.{Over}
use Rattle.hub_live.proofs.live_hub.LiveHub.step.Goals as goal
use Rattle.hub_live.proofs.live_hub.LiveHub.step.Goals.{After-end_step}

abbrev entry_by : Pid → Step → Entry
entry_by pid step = record { pid = pid; step = step }

left : (g : Over) (c : After-end_step g) → Answered c.args.seat.now c.end_step.new.seat c.args.entry.now.step c.end_step.result
left g c =
    let inner = c.seat.inside.inner in
    let hub : inner.hub ≡ g.K.HubName.name = ap (λ (s : SeatView). s.hub) c.seat.view_is ∙ c.requires.hub in
    let pid : c.args.entry.now.pid ≡ inner.pid = c.requires.pid ∙ sym (ap (λ (s : SeatView). s.pid) c.seat.view_is) in
    let served = subst
    (λ (p : Pid). ServesSeat g.K.HubName.name c.deref_mut.result.now inner (entry_by p c.args.entry.now.step) c.step.new.self c.step.new.seat
    (Ok c.step.new.self.last))
    pid c.in_ok-step.ensures.rules in
    let e = c.end_step.ensures in
    subst (λ (s : SeatView). Answered s c.end_step.new.seat c.args.entry.now.step c.end_step.result) c.seat.view_is
    (answered c.args.entry.now.step hub served e.ended e.answer)

pub invariant_of-seat-2 : goal.invariant_of-seat-2
invariant_of-seat-2 g c = (left g c).later.idle

pub returns-clause-later : goal.returns-clause-later
returns-clause-later g c = (left g c).later

pub returns-clause-ok : goal.returns-clause-ok
returns-clause-ok g c = (left g c).made

pub returns-clause-answer : goal.returns-clause-answer
returns-clause-answer g c = (left g c).answer
