-- What one entry adds to the values received on each port.
use Rattle.hub_laws.proofs.Prelude.{arith, ◌≡◌, Bool, true, false, List, [], ◌∷◌, ◌++◌, refl, ap, ◌∙◌, sym, subst, Option, Some, None, ◌==◌}
use Rattle.hub_laws.proofs.Prelude.{append-nil, cond}
use Rattle.hub_laws.proofs.Prelude.{eqb-true, AllByRecursion, filter_map, cons_option, Case, Send, Recv, Entry, What, Fault, Head, Port, Value}
use Rattle.hub_laws.proofs.Prelude.{admits, state}
use Rattle.hub_laws.proofs.Prelude.{State, Channel, opening, turn, closing_outcome, cases_or, of_what, got_on, received_values, port_touched_by}
use Rattle.hub_laws.proofs.Prelude.{port_touched}
use Rattle.hub_laws.proofs.Prelude.{is_port, value_of_outcome, value_got, got_in, got_at, received_from, received_on, ReceivedLaw, IsSound, opened_by}
use Rattle.hub_base.specs.declared.event.What.TheVariants as what
use Rattle.hub_laws.proofs.Account.{deeds_of, ended_deeds}
use Rattle.hub_laws.proofs.Entries.{fault_names_none, turn-account}
use Rattle.hub_laws.proofs.Calls.{same_number}
use Rattle.hub_laws.proofs.Deeds.{Deed, deed_of, picks, Moved, Does, buffers, hands, fetches, gives, drains, refuses, shuts, opens, idle, adds, wrote}
use Rattle.hub_laws.proofs.Kept.{sound-opening}
use Rattle.hub_laws.proofs.Leaving.{Ended, EndsWell, InPlace, events_of}
use Rattle.hub_laws.proofs.Longer.{state-entry}
use Rattle.hub_laws.proofs.Ports.{same_port}
use Rattle.hub_laws.proofs.Rules.{state-sound}
use Rattle.hub_laws.proofs.Totals.{got-does, got_closing, got_none, others-none, closing-none}
use Rattle.hub_laws.proofs.Values.{got-after, no_total}
use Rattle.hub_laws.proofs.Does.{elsewhere}

-- the values that communications gave, on whatever port
abbrev values : List Deed → List Value
values deeds = filter_map (λ d. value_of_outcome d.outcome) deeds

-- What the events tell as got is what the communications gave

got_one : (cases : List Case) (w : What) (xs : List Value) (deeds : List Deed) → InPlace cases w → xs ≡ values deeds →
    cons_option (value_got w) xs ≡ values (cons_option (of_what deed_of cases w) deeds)
got_one cases (what.Fired i o) xs deeds placed e = rw placed.1 (ap (λ ys. cons_option (value_of_outcome o) ys) e)
got_one cases w xs deeds placed e = e

got_ended : (xs : List Ended) → AllByRecursion EndsWell xs → got_in (events_of xs) ≡ values (ended_deeds xs)
got_ended [] well = refl
got_ended (x ∷ xs) well = grind (arith, got_ended xs well.1)

-- and all of them are on one port

got_values : (p : Port) (c d : Channel) (again : Option Port) (deeds : List Deed) → Moved p c d again deeds →
    picks (got_on p) deeds ≡ values deeds
got_values p c d again deeds (buffers v live is e) = rw e refl
got_values p c d again deeds (hands v w live next is e) = rw (e, same_number p.0) refl
got_values p c d again deeds (fetches v w live next is e) = rw (e, same_number p.0) refl
got_values p c d again deeds (gives w next is e) = rw (e, same_number p.0) refl
got_values p c d again deeds (drains next is e) = rw e refl
got_values p c d again deeds (refuses v over is e) = rw e refl
got_values p c d again deeds (opens cap names over drained is e) = rw e refl
got_values p c d again deeds (shuts live is all) =
    closing-none (got_on p) p deeds (got_closing p) all ∙ sym (closing-none (λ k o. value_of_outcome o) p deeds by all)
  where
    by : (k : Case) → value_of_outcome (closing_outcome k) ≡ None
    by (Send q v) = refl
    by (Recv q) = refl

got_named : (cs ts : List Channel) (named again : Option Port) (deeds : List Deed) (p : Port) → Does cs ts named again deeds →
    picks (got_on p) deeds ≡ cond (is_port named p) (values deeds) []
got_named cs ts named again deeds p (idle none is e) = rw (e, none) refl
got_named cs ts named again deeds p (adds cap room names is e) = grind arith
got_named cs ts named again deeds p (wrote q c d names w m) = rw names (by (q.0 == p.0) refl)
  where
    by : (b : Bool) → b ≡ (q.0 == p.0) → picks (got_on p) deeds ≡ cond b (values deeds) []
    by true is =
        let same : q ≡ p = same_port q p (eqb-true q.0 p.0 (sym is)) in
        got_values p c d again deeds (subst (λ (r : Port). Moved r c d again deeds) same m)
    by false is = others-none (got_on p) p deeds (got_none p) (elsewhere p q c d again deeds (sym is) m)

-- in any sound state
pub moves-received : (s : State) (e : Entry) (o : Option Fault) (p : Port) → IsSound s →
    received_on (admits s e o).state p ≡ received_on s p ++ got_at (port_touched e.step (admits s e o).events) (admits s e o).events p
moves-received s e None p sound =
    let a = turn-account s e in
    let named : Option Port = port_touched_by e.step a.answer in
    let back : Option Port = opened_by e.step a.answer in
    let deeds : List Deed = deeds_of e.step a.answer a.ended in
    let got : got_in (turn s e).events ≡ values deeds =
    ap got_in a.told
    ∙ got_one (cases_or e.step []) a.answer (got_in (events_of a.ended)) (ended_deeds a.ended) a.placed
    (got_ended a.ended a.ends) in
    let same : port_touched e.step (turn s e).events ≡ named = ap (port_touched e.step) a.told in
    got-does s.channels (turn s e).state.channels named back deeds p (λ c h. (sound.ports p c h).received) (a.does sound)
    ∙ ap (λ xs. received_on s p ++ xs)
    (got_named s.channels (turn s e).state.channels named back deeds p (a.does sound) ∙ rw (same, got) refl)
moves-received s e (Some f) p sound = rw (fault_names_none e.step f) (sym (append-nil (received_on s p)))

-- what is received on a port, by the channel and by the events
told_by_events : (head : Head) (es : List Entry) (p : Port) → received_on (state head es) p ≡ received_values head es p
told_by_events head es p = got-after (opening head) [] es p (sound-opening head) tt ∙ ap (λ xs. xs ++ received_values head es p) (no_total received_from p)

pub received_values-law : (head : Head) (es : List Entry) (e : Entry) → ReceivedLaw head es e
received_values-law head es e = grind (arith, state-entry, moves-received, state-sound, told_by_events)
