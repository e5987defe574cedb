-- A run, entry by entry.
use Rattle.std.proofs.Common.{◌≡◌, ℕ, zero, suc, ◌+◌, ◌<◌, Bool, true, false, List, [], ◌∷◌, ◌++◌}
use Rattle.std.proofs.Common.{length, take, refl, ap, ◌∙◌, sym, subst, Some, arith, nat_lt}
use Rattle.std.specs.Prelude.{slice_get}
use Rattle.std.specs.List.{list_all}
use Rattle.std.proofs.lemmas.Bool.{and_parts}
use Rattle.std.proofs.lemmas.Grind.{common_steps}
use Rattle.std.proofs.lemmas.List.{take_all}
use Rattle.std.proofs.lemmas.Option.{slice_get_within}
use Rattle.hub_base.specs.Entry.{Entry}
use Rattle.hub_base.specs.declared.event.Event.{Event}
use Rattle.hub_base.specs.declared.head.Edition.{Edition}
use Rattle.hub_base.specs.Head.{is_of, AreOf}
use Rattle.hub_base.specs.State.{State, channel_at}
use Rattle.hub_base.specs.Steps.{refusal}
use Rattle.hub_base.specs.Runs.{state, events, kept, keeps, moves}
use Rattle.hub_base.specs.Reading.{is_exit}
use Rattle.hub_base.specs.Text.{steps_of}
use Rattle.hub_laws.proofs.Journals.{state-kept}
use Rattle.hub_laws.proofs.Longer.{events-entry, kept-entry}
use Rattle.hub_laws.proofs.Totals.{take_next}
use Rattle.hub_laws.proofs.Values.{values-law}
use Rattle.hub_core.specs.declared.terms.Terms.{Terms}
use Rattle.hub_core.specs.HubView.{HubView, opened_hub, state_of, HasRoom, IsFullFor}
use Rattle.hub_base.specs.declared.fault.Fault.{Fault}
use Rattle.hub_base.specs.declared.fault.Fault.TheVariants as fault
use Rattle.hub_core.specs.RunsTo.{RunsTo, TellsOn, StopsAt, IsFullAt, IsFirstFull, IsOpenUpTo, RefusesAt, KeepsValues}

-- the run so far, and no place so far where the journal was full
pub record RunSoFar (terms : Terms) (es : List Entry) (i : ℕ) (hub : HubView) (told : List Event) : Type 0 where
  pub run : RunsTo terms (take i es) hub told
  pub room : (j : ℕ) → j < i → ¬ IsFullAt terms es j

-- the same, where the run's hub was opened with these terms
pub so_far : (terms : Terms) (opened : HubView) (es : List Entry) (i : ℕ) (hub : HubView) (told : List Event) → opened ≡ opened_hub terms
    → RunSoFar opened.terms es i hub told → RunSoFar terms es i hub told
so_far terms opened es i hub told is so =
    subst (λ (t : Terms). RunSoFar t es i hub told) (ap (λ (h : HubView). h.terms) is) so

limit-of : {s t : Terms} → s ≡ t → s.limit ≡ t.limit
limit-of is = ap (λ (t : Terms). t.limit) is

-- the hub's state is the run's
pub state_of-run : (terms : Terms) (es : List Entry) (hub : HubView) (told : List Event) → RunsTo terms es hub told → state_of hub ≡ state terms.head es
state_of-run terms es hub told r = ap (λ (t : Terms). state t.head hub.journal) r.terms ∙ ap (state terms.head) r.journal ∙ state-kept terms.head es

same_entry : (es : List Entry) (i : ℕ) (e f : Entry) → slice_get es i ≡ Some e → slice_get es i ≡ Some f → f ≡ e
same_entry es i e f h g = cc

not_full : (terms : Terms) (es : List Entry) (i : ℕ) (e : Entry) (hub : HubView) (told : List Event) → RunsTo terms (take i es) hub told
    → slice_get es i ≡ Some e → HasRoom hub e → ¬ IsFullAt terms es i
not_full terms es i e hub told r h room = λ full.
    let same = same_entry es i e full.entry h full.stands in
    let step : is_exit e.step ≡ false = ap (λ (f : Entry). is_exit f.step) (sym same) ∙ full.step in
    absurd (omega (arith, room step, full.full, ap steps_of r.journal, limit-of r.terms))

pub fits_at : (edition : Edition) (es : List Entry) (i : ℕ) (e : Entry) → AreOf edition es → slice_get es i ≡ Some e → is_of edition e.step ≡ true
fits_at edition [] i e all h = cc
fits_at edition (x ∷ es) zero e all h =
    let same : x ≡ e = cc in
    subst (λ (y : Entry). is_of edition y.step ≡ true) same (and_parts (is_of edition x.step) (list_all (λ y. is_of edition y.step) es) all).0
fits_at edition (x ∷ es) (suc i) e all h =
    fits_at edition es i e (and_parts (is_of edition x.step) (list_all (λ y. is_of edition y.step) es) all).1 h

-- the hub's edition has the next entry of the run
pub next_fits : (terms : Terms) (es : List Entry) (i : ℕ) (e : Entry) (hub : HubView) (told : List Event) → AreOf terms.head.edition es
    → RunSoFar terms es i hub told → slice_get es i ≡ Some e → is_of hub.terms.head.edition e.step ≡ true
next_fits terms es i e hub told all r h =
    subst (λ (t : Terms). is_of t.head.edition e.step ≡ true) (sym r.run.terms) (fits_at terms.head.edition es i e all h)

-- one entry more that is no place where the journal is full
more_room : (terms : Terms) (es : List Entry) (i : ℕ) → ((j : ℕ) → j < i → ¬ IsFullAt terms es j) → ¬ IsFullAt terms es i → (j : ℕ)
    → j < i + 1 → ¬ IsFullAt terms es j
more_room terms es i before here j h = by_order (nat_lt j i) refl where
  by_order : (b : Bool) → nat_lt j i ≡ b → ¬ IsFullAt terms es j
  by_order true is = before j (grind (arith, common_steps))
  by_order false is = let same : j ≡ i = grind (arith, common_steps) in subst (λ (k : ℕ). ¬ IsFullAt terms es k) (sym same) here

pub run_on : (terms : Terms) (es : List Entry) (i : ℕ) (e : Entry) (old new : HubView) (before after : List Event)
    → RunSoFar terms es i old before → slice_get es i ≡ Some e → TellsOn old e new before after → RunSoFar terms es (i + 1) new after
run_on terms es i e old new before after r h t =
    let grown = take_next es i e h in
    let same = state_of-run terms (take i es) old before r.run in
    record {
      run = record {
        terms = t.terms ∙ r.run.terms;
        events =
            t.events
            ∙ ap (λ xs. xs ++ (moves (state_of old) e).events) r.run.events
            ∙ ap (λ (s : State). events terms.head (take i es) ++ (moves s e).events) same
            ∙ sym (events-entry terms.head (take i es) e)
            ∙ ap (events terms.head) (sym grown);
        journal =
            t.journal
            ∙ ap (λ xs. xs ++ keeps (refusal (state_of old) e.pid) e []) r.run.journal
            ∙ ap (λ (s : State). kept terms.head (take i es) ++ keeps (refusal s e.pid) e []) same
            ∙ sym (kept-entry terms.head (take i es) e)
            ∙ ap (kept terms.head) (sym grown);
      };
      room = more_room terms es i r.room (not_full terms es i e old before r.run h t.room);
    }

pub first_full : (terms : Terms) (es : List Entry) (i : ℕ) (e : Entry) (hub : HubView) (told : List Event) → RunSoFar terms es i hub told
    → slice_get es i ≡ Some e → IsFullFor hub e → IsFirstFull terms es i
first_full terms es i e hub told r h full =
    (record { entry = e; stands = h; step = full.0; full = omega (arith, full.1, ap steps_of r.run.journal, limit-of r.run.terms) }, r.room)

pub room_up_to : (terms : Terms) (es : List Entry) (i : ℕ) (e : Entry) (hub : HubView) (told : List Event) → RunSoFar terms es i hub told
    → slice_get es i ≡ Some e → HasRoom hub e → IsOpenUpTo terms es i
room_up_to terms es i e hub told r h room = (slice_get_within es i e h, more_room terms es i r.room (not_full terms es i e hub told r.run h room))

pub run_whole : (terms : Terms) (es : List Entry) (i : ℕ) (hub : HubView) (told : List Event) → RunSoFar terms es i hub told
    → i ≡ length es → RunsTo terms es hub told
run_whole terms es i hub told r is = subst (λ (xs : List Entry). RunsTo terms xs hub told) (take_all i es (omega arith)) r.run

pub never_full : (terms : Terms) (es : List Entry) (i : ℕ) (hub : HubView) (told : List Event) → RunSoFar terms es i hub told
    → i ≡ length es → (j : ℕ) → ¬ IsFullAt terms es j
never_full terms es i hub told r is j = λ full. r.room j (omega (arith, slice_get_within es j full.entry full.stands)) full

pub values_kept : (terms : Terms) (es : List Entry) (hub : HubView) (told : List Event) → RunsTo terms es hub told → KeepsValues terms.head es hub
values_kept terms es hub told r = λ p c h. values-law terms.head es p c (subst (λ (s : State). channel_at s p ≡ Some c) (state_of-run terms es hub told r) h)

pub refuses_at : (terms : Terms) (es : List Entry) (i : ℕ) (e : Entry) (hub : HubView) (told : List Event) (f : Fault)
    → RunSoFar terms es i hub told → slice_get es i ≡ Some e → StopsAt hub e f → RefusesAt terms es i f
refuses_at terms es i e hub told fault.JournalFull r h stop = first_full terms es i e hub told r h stop
refuses_at terms es i e hub told fault.NoMemory r h stop = room_up_to terms es i e hub told r h stop
refuses_at terms es i e hub told other r h stop = absurd stop
