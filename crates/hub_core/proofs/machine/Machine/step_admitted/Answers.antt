use Rattle.std.proofs.Common.{◌≡◌, ℕ, ◌≤◌, ◌∙◌, None, length, ap, refl, sym, subst, arith}
use Rattle.hub_base.specs.declared.limits.TheConstants.{MOST_EVENTS, MOST_PROCS}
use Rattle.hub_base.specs.Entry.{Entry}
use Rattle.hub_base.specs.Runs.{state}
use Rattle.hub_core.specs.Follows.{Follows}
use Rattle.hub_core.specs.ListSteps.{count_gone, refusal_of, turn_on}
use Rattle.hub_core.specs.Records.{MachineLists}
use Rattle.hub_core.proofs.Acting.{events_go_on, events_stall, machine_goes_on, machine_stalls, on_err}
use Rattle.hub_core.proofs.Effects.{fault_on-as}
use Rattle.hub_core.proofs.Following.{reached_next, turns_as}
use Rattle.hub_core.proofs.Hearing.{heard_as, heard_on}
use Rattle.hub_core.proofs.Reached.{before_stall_of, turn_few}
use Rattle.hub_core.proofs.machine.Machine.step_admitted.Goals.{then-all_wait, else-all_wait}
use Rattle.hub_core.proofs.machine.Machine.step_admitted.Goals as goal

-- that the process is admitted, of the machine as its parts are
free_of : {m n : MachineLists} (e : Entry) → m ≡ n → refusal_of n.board n.gone e.pid ≡ None → refusal_of m.board m.gone e.pid ≡ None
free_of e same free = ap (λ (k : MachineLists). refusal_of k.board k.gone e.pid) same ∙ free

-- the board has no more processes than a hub may
few_of : {m n : ℕ} → m ≡ n → n ≤ MOST_PROCS → m ≤ MOST_PROCS
few_of same few = omega (arith, same, few)

pub all_wait-requires-clause-apart : goal.all_wait-requires-clause-apart
all_wait-requires-clause-apart g c =
    let e = c.args.entry.now in
    (before_stall_of _ _ e.pid e.step c.self.invariant.reached (free_of e c.self.view_is c.requires.admitted)
    (few_of c.self.invariant.procs c.self.invariant.few) c.in_ok-act.ensures.places c.in_ok-act.ensures.acts.machine).apart

pub all_wait-requires-clause-present : goal.all_wait-requires-clause-present
all_wait-requires-clause-present g c = λ q waits.
    let e = c.args.entry.now in
    let before = before_stall_of _ _ e.pid e.step c.self.invariant.reached (free_of e c.self.view_is c.requires.admitted)
    (few_of c.self.invariant.procs c.self.invariant.few) c.in_ok-act.ensures.places c.in_ok-act.ensures.acts.machine in
    let there = before.present q waits in
    (omega (arith, there.0, c.self.invariant.procs, c.in_ok-act.ensures.procs), there.1)

pub stop_all-requires : goal.stop_all-requires
stop_all-requires g c =
    let e = c.args.entry.now in
    let before = before_stall_of _ _ e.pid e.step c.self.invariant.reached (free_of e c.self.view_is c.requires.admitted)
    (few_of c.self.invariant.procs c.self.invariant.few) c.in_ok-act.ensures.places c.in_ok-act.ensures.acts.machine in
    record { apart = before.apart; room = omega (arith, before.room, c.in_ok-act.ensures.acts.told.fits, c.requires.room) }

pub invariant_of-self-2 : goal.invariant_of-self-2
invariant_of-self-2 g c =
    let e = c.args.entry.now in
    let free = free_of e c.self.view_is c.requires.admitted in
    let few = few_of c.self.invariant.procs c.self.invariant.few in
    let acts = c.in_ok-act.ensures.acts.machine in
    let procs = c.in_ok-act.ensures.procs ∙ c.self.invariant.procs in
    let count = c.in_ok-act.ensures.count ∙ ap (count_gone c.act.new.exited.gone) c.self.invariant.procs in
    elim c.if-all_wait.branch [
      | then-all_wait w ↦ rw w.self-inside-is (rw w.stop_all.ensures.board record {
        reached = reached_next e _ _ c.self.invariant.reached free few c.in_ok-act.ensures.places
            (machine_stalls _ _ e free acts (sym c.all_wait.ensures ∙ w.if-all_wait.true));
        procs = procs;
        few = c.self.invariant.few;
        count = count;
      })
      | else-all_wait w ↦ rw w.self-inside-is record {
        reached = reached_next e _ _ c.self.invariant.reached free few c.in_ok-act.ensures.places
            (machine_goes_on _ _ e free acts (sym c.all_wait.ensures ∙ w.if-all_wait.false));
        procs = procs;
        few = c.self.invariant.few;
        count = count;
      }
    ]

pub returns-clause-ok : goal.returns-clause-ok
returns-clause-ok g c =
    let e = c.args.entry.now in
    let free = free_of e c.self.view_is c.requires.admitted in
    let few = few_of c.self.invariant.procs c.self.invariant.few in
    let acts = c.in_ok-act.ensures.acts.machine in
    elim c.if-all_wait.branch [
      | then-all_wait w ↦ rw w.self-inside-is (rw w.stop_all.ensures.board (turns_as e c.self.view_is free few c.in_ok-act.ensures.places
          (machine_stalls _ _ e free acts (sym c.all_wait.ensures ∙ w.if-all_wait.true))))
      | else-all_wait w ↦ rw w.self-inside-is (turns_as e c.self.view_is free few c.in_ok-act.ensures.places
          (machine_goes_on _ _ e free acts (sym c.all_wait.ensures ∙ w.if-all_wait.false)))
    ]

pub returns-clause-told : goal.returns-clause-told
returns-clause-told g c =
    let e = c.args.entry.now in
    let free = free_of e c.self.view_is c.requires.admitted in
    let acts = c.in_ok-act.ensures.acts.machine in
    let told = c.in_ok-act.ensures.acts.told in
    rw (← c.self.view_is) (elim c.if-all_wait.branch [
      | then-all_wait w ↦ rw w.events-is (heard_as (heard_on g.met.E.Hears.goes_on told w.stop_all.ensures.told)
          (events_stall _ _ e free acts (sym c.all_wait.ensures ∙ w.if-all_wait.true)))
      | else-all_wait w ↦ rw w.events-is (heard_as told (events_go_on _ _ e free acts (sym c.all_wait.ensures ∙ w.if-all_wait.false)))
    ])

pub returns-clause-few : goal.returns-clause-few
returns-clause-few g c =
    let e = c.args.entry.now in
    subst (λ (m : MachineLists). length (turn_on m e).events ≤ MOST_EVENTS) c.self.view_is
    (turn_few _ e c.self.invariant.reached (free_of e c.self.view_is c.requires.admitted)
    (few_of c.self.invariant.procs c.self.invariant.few) c.in_ok-act.ensures.places)

pub returns-in_err-act-clause-err : goal.returns-in_err-act-clause-err
returns-in_err-act-clause-err g c =
    let refused = c.in_err-act.ensures in
    on_err c.from_residual.result record {
      make = refused.acts.make;
      fine = λ head es h.
          sym (fault_on-as (state head es) _ c.args.entry.now.step (subst (Follows head es) (sym c.self.view_is) h).matches) ∙ refused.acts.fine;
      unchanged = refused.acts.unchanged ∙ c.self.view_is;
      empty = refl;
    }
