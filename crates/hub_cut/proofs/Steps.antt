-- The journal that a text says, and a hub that makes its steps.
use Rattle.std.proofs.Common.{◌≡◌, ℕ, ◌+◌, ◌≤◌, Bool, List, Some, refl, ap, sym, subst, arith, cond, take}
use Rattle.std.specs.Prelude.{slice_get}
use Rattle.hub_base.specs.Entry.{Entry, Step}
use Rattle.hub_base.specs.declared.entry.Step.TheVariants.{Exit}
use Rattle.hub_base.specs.declared.fault.Fault.{Fault}
use Rattle.hub_base.specs.declared.fault.Fault.TheVariants as fault
use Rattle.hub_base.specs.declared.head.Head.{Head}
use Rattle.hub_base.specs.declared.limits.TheConstants.{MOST_STEPS}
use Rattle.hub_base.specs.Journal.{JournalView}
use Rattle.hub_base.specs.Runs.{state}
use Rattle.hub_base.specs.Steps.{refusal}
use Rattle.hub_base.specs.Text.{IsText, steps_of, one_step}
use Rattle.hub_base.proofs.OneReading.{few-entries}
use Rattle.hub_laws.specs.Journals.{IsLegal}
use Rattle.hub_core.specs.HubView.{HubView, Refuses, places_after}
use Rattle.hub_cut.specs.Chains.{IsHubOf, MakesText}
use Rattle.hub_cut.specs.Faults.{IsRefused, refused_at}

-- A hub that makes the steps of a journal, without reserved ones

pub refused_so : (hub : HubView) (e : Entry) (f : Fault) → Refuses hub e f → hub.terms.limit ≡ MOST_STEPS → steps_of hub.journal + one_step e ≤ MOST_STEPS
    → ¬ (f ≡ fault.NoMemory) → refusal (state hub.terms.head hub.journal) e.pid ≡ Some f
refused_so hub e fault.JournalFull refuses limit few not =
    let one : one_step e ≡ 1 = ap (λ (b : Bool). cond b 0 1) refuses.0 in
    absurd (omega (arith, one, refuses.1, limit, few))
refused_so hub e fault.NoProcess refuses limit few not = refuses.1
refused_so hub e fault.Gone refuses limit few not = refuses.1
refused_so hub e fault.Busy refuses limit few not = refuses.1
refused_so hub e fault.NoMemory refuses limit few not = absurd (not refl)
refused_so hub e other refuses limit few not = absurd refuses

pub no_places : (step : Step) → places_after step 0 ≡ 0
no_places Exit = refl
no_places other = refl

pub is_refused : (j : JournalView) (n : ℕ) (e : Entry) (f : Fault) → slice_get j.entries n ≡ Some e → IsLegal j.head (take n j.entries)
    → (¬ (f ≡ fault.NoMemory) → refusal (state j.head (take n j.entries)) e.pid ≡ Some f) → IsRefused j (refused_at n f)
is_refused j n e fault.NoMemory there legal refused = tt
is_refused j n e f there legal refused =
    record { place = n; entry = e; is = refl; before = legal; there = there; refused = refused (λ same. cc) }

-- a hub that made the steps of the journal of a text
pub makes_text : (text : List ℕ) (j : JournalView) (hub : HubView) → IsText text j.head j.entries → IsHubOf j hub → IsLegal hub.terms.head hub.journal
    → MakesText text hub
makes_text text j hub is of legal =
    record {
      spelled = subst (λ (h : Head). IsText text h hub.journal) (sym of.head) (subst (λ (es : List Entry). IsText text j.head es) (sym of.entries) is);
      legal = legal;
      few = rw of.entries (few-entries text j.head j.entries is);
      limit = of.limit;
    }
