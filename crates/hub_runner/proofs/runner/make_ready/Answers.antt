use Rattle.std.proofs.Common.{arith, ap, sym, ◌≡◌, ◌∙◌, ◌+◌, subst, List, ℕ, ◌∷◌, length, map, All, Some}
use Rattle.hub_base.specs.declared.head.Head.{Head}
use Rattle.hub_live.specs.Calls.{AreSeats}
use Rattle.hub_live.specs.SeatView.{SeatView}
use Rattle.hub_scenario.specs.Scenario.{scenario_view}
use Rattle.hub_runner.specs.Running.{AreMakes, MakesStopped, IsReady, HaveEnded, ShowPorts}
use Rattle.hub_runner.specs.Working.{asked_of}
use Rattle.hub_runner.proofs.Beginnings.{all_ready, asked-nil, same_count, same_pids, written}
use Rattle.hub_runner.proofs.Runs.{count_scripts}
use Rattle.hub_runner.proofs.Outcomes.{makes_end, makes_show}
use Rattle.hub_runner.proofs.runner.make_ready.Given.{Over}
use Rattle.hub_runner.proofs.runner.make_ready.Goals as goal
use Rattle.hub_runner.proofs.runner.make_ready.Goals.{In-Some}

whole : (g : Over) (c : In-Some g) → c.args.seats.items ≡ c.in-Some.first.now ∷ c.in-Some.others.now
whole g c = sym c.deref_mut.ensures.value ∙ c.in-Some.ensures.cases.0

are : (g : Over) (c : In-Some g) → AreSeats g.K.HubName.name 0 (c.in-Some.first.now ∷ c.in-Some.others.now)
are g c = subst (AreSeats g.K.HubName.name 0) (whole g c) c.requires.seats

long : (g : Over) (c : In-Some g) → length c.in-Some.others.now + 1 ≡ c.args.seats.len
long g c = c.in-Some.ensures.cases.1 ∙ c.deref_mut.ensures.len

procs : (g : Over) (c : In-Some g) → length c.in-Some.others.now + 1 ≡ g.K.HubName.name.terms.head.procs
procs g c = omega (arith, long g c, c.requires.count, count_scripts c.args.scenario.now, ap (λ (h : Head). h.procs) c.requires.head)

pub make_ports-requires : goal.make_ports-requires
make_ports-requires g c =
    let i = (goal.at.make_ports-requires g c).In-Some in
    ap asked_of (are g i).0 ∙ asked-nil 0 g.K.HubName.name.terms.head

pub returns-in-Ok-clause-pids : goal.returns-in-Ok-clause-pids
returns-in-Ok-clause-pids g c =
    let i = (goal.at.returns-in-Ok-clause-pids g c).In-Some in
    let shown = c.show_all.ensures in
    let n : length (c.show_all.new.first ∷ c.show_all.new.others) ≡ c.args.seats.len =
    omega (arith, long g i, same_count c.in-Some.others.now c.show_all.new.others shown.others) in
    ap (map (λ (s : SeatView). s.pid)) (written c.args.seats.len (c.show_all.new.first ∷ c.show_all.new.others) _ n)
    ∙ same_pids c.in-Some.first.now c.make_ports.new.seat c.show_all.new.first c.in-Some.others.now c.show_all.new.others
    c.make_ports.ensures.onward shown.same shown.others
    ∙ ap (map (λ (s : SeatView). s.pid)) (sym (whole g i))

pub returns-in-Ok-clause-ready : goal.returns-in-Ok-clause-ready
returns-in-Ok-clause-ready g c =
    let i = (goal.at.returns-in-Ok-clause-ready g c).In-Some in
    let sc = scenario_view c.args.scenario.now in
    let shown = c.show_all.ensures in
    let n : length (c.show_all.new.first ∷ c.show_all.new.others) ≡ c.args.seats.len =
    omega (arith, long g i, same_count c.in-Some.others.now c.show_all.new.others shown.others) in
    subst (λ (ss : List SeatView). All (IsReady sc) ss) (sym (written c.args.seats.len (c.show_all.new.first ∷ c.show_all.new.others) _ n))
    (all_ready g.K.HubName.name sc c.in-Some.first.now c.make_ports.new.seat c.show_all.new.first c.in-Some.others.now c.show_all.new.others
    c.requires.head (procs g i) (are g i) c.make_ports.ensures.onward
    (subst (λ (ports : List ℕ). AreMakes ports (asked_of c.make_ports.new.seat)) c.deref.ensures.value c.in-Ok.ensures.ok)
    shown.later shown.same shown.others shown.shown)

pub returns-in-Err-clause-err : goal.returns-in-Err-clause-err
returns-in-Err-clause-err g c =
    let i = (goal.at.returns-in-Err-clause-err g c).In-Some in
    let sc = scenario_view c.args.scenario.now in
    let name = g.K.HubName.name in
    let t = c.make_ports.new.seat in
    let n : length (t ∷ c.in-Some.others.now) ≡ c.args.seats.len = omega (arith, long g i) in
    subst (λ (ss : List SeatView). HaveEnded sc name (map (λ s. s.pid) c.args.seats.items) ss (Some c.from.result))
    (sym (written c.args.seats.len (t ∷ c.in-Some.others.now) _ n))
    (subst (λ (ss : List SeatView). HaveEnded sc name (map (λ s. s.pid) ss) (t ∷ c.in-Some.others.now) (Some c.from.result)) (sym (whole g i))
    (makes_end name sc c.in-Some.first.now t c.in-Some.others.now c.in-Err.fault c.from.result (are g i) c.make_ports.ensures.onward
    (subst (λ (ports : List ℕ). MakesStopped ports t c.in-Err.fault) c.deref.ensures.value c.in-Err.ensures.err) c.from.ensures.0))

pub returns-in-Err-clause-ports : goal.returns-in-Err-clause-ports
returns-in-Err-clause-ports g c =
    let i = (goal.at.returns-in-Err-clause-ports g c).In-Some in
    let sc = scenario_view c.args.scenario.now in
    let t = c.make_ports.new.seat in
    let n : length (t ∷ c.in-Some.others.now) ≡ c.args.seats.len = omega (arith, long g i) in
    subst (λ (ss : List SeatView). ShowPorts sc ss (Some c.from.result)) (sym (written c.args.seats.len (t ∷ c.in-Some.others.now) _ n))
    (makes_show g.K.HubName.name sc c.in-Some.first.now t c.in-Some.others.now c.in-Err.fault c.from.result (are g i) c.make_ports.ensures.onward
    (subst (λ (ports : List ℕ). MakesStopped ports t c.in-Err.fault) c.deref.ensures.value c.in-Err.ensures.err))
