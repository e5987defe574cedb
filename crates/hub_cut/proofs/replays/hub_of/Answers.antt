use Rattle.std.proofs.Common.{◌≡◌, ◌∙◌, Some, List, ◌++◌, ◌∷◌, [], ap, sym, subst, refl, arith, take, length, ◌+◌, ◌≤◌}
use Rattle.std.specs.Prelude.{slice_get}
use Rattle.hub_base.specs.Entry.{Entry}
use Rattle.hub_base.specs.declared.limits.TheConstants.{MOST_STEPS}
use Rattle.hub_base.specs.Head.{is_of}
use Rattle.hub_base.specs.Text.{one_step, steps_of}
use Rattle.hub_laws.specs.Journals.{IsLegal}
use Rattle.hub_laws.proofs.Totals.{take_next}
use Rattle.hub_core.specs.HubView.{HubView, Refuses, terms_of, with_entry}
use Rattle.hub_cut.specs.Cut.{hub_with}
use Rattle.hub_cut.specs.Faults.{IsRefused}
use Rattle.hub_base.proofs.OneReading.{few-entries, text-fits}
use Rattle.hub_base.proofs.StepCounts.{steps-there}
use Rattle.hub_cut.proofs.Places.{all_there}
use Rattle.hub_cut.proofs.Steps.{is_refused, no_places, refused_so}
use Rattle.hub_cut.proofs.replays.hub_of.Goals as goal

pub step_into-requires : goal.step_into-requires
step_into-requires c =
    let given = c.args.journal.now in
    let entry = c.entry-entry.result in
    let there : slice_get given.entries c.loop-place.place ≡ Some entry =
    ap (λ (es : List Entry). slice_get es c.loop-place.place) (sym c.entries-in-loop-place.ensures) ∙ c.entry-entry.ensures in
    record {
      fits = ap (λ (h : HubView). is_of h.terms.head.edition entry.step) c.loop-place.invariant
          ∙ all_there (λ (e : Entry). is_of given.head.edition e.step) c.loop-place.place given.entries entry
          (text-fits c.requires.text given.head given.entries c.requires.spelled) there;
    }

pub refused_at-requires : goal.refused_at-requires
refused_at-requires c =
    let given = c.args.journal.now in
    omega (
      arith,
      c.loop-place-test.true,
      c.len-place-end.ensures,
      ap (λ (es : List Entry). length es) c.entries.ensures,
      few-entries c.requires.text given.head given.entries c.requires.spelled,
    )

pub returns-in-Err-clause-err : goal.returns-in-Err-clause-err
returns-in-Err-clause-err c =
    let given = c.args.journal.now in
    let entry = c.entry-entry.result in
    let n = c.loop-place.place in
    let terms = terms_of given.head.edition given.head.procs MOST_STEPS in
    let so_far = hub_with terms (take n given.entries) 0 in
    let there : slice_get given.entries n ≡ Some entry =
    ap (λ (es : List Entry). slice_get es n) (sym c.entries-in-loop-place.ensures) ∙ c.entry-entry.ensures in
    let same : c.step_into.new.self.memory.hub ≡ so_far = c.in-Err.ensures.rules.unchanged ∙ c.loop-place.invariant in
    let legal : IsLegal given.head (take n given.entries) =
    subst (λ (h : HubView). IsLegal h.terms.head h.journal) same c.journal_is_legal.ensures.legal in
    let refuses : Refuses so_far entry c.in-Err.fault =
    subst (λ (h : HubView). Refuses h entry c.in-Err.fault) c.loop-place.invariant c.in-Err.ensures.rules.refused in
    let few : steps_of (take n given.entries) + one_step entry ≤ MOST_STEPS =
    omega (arith, steps-there n given.entries entry there, c.requires.spelled.steps_fit) in
    subst (IsRefused given) (sym c.refused_at.ensures)
    (is_refused given n entry c.in-Err.fault there legal (refused_so so_far entry c.in-Err.fault refuses refl few))

pub loop-place-preserved : goal.loop-place-preserved
loop-place-preserved c =
    let given = c.args.journal.now in
    let entry = c.entry-entry.result in
    let n = c.loop-place.place in
    let terms = terms_of given.head.edition given.head.procs MOST_STEPS in
    let there : slice_get given.entries n ≡ Some entry =
    ap (λ (es : List Entry). slice_get es n) (sym c.entries-in-loop-place.ensures) ∙ c.entry-entry.ensures in
    c.in-Ok-step_into.ensures.ok.journal ∙ ap (with_entry entry) c.loop-place.invariant
    ∙ ap (hub_with terms (take n given.entries ++ entry ∷ [])) (no_places entry.step)
    ∙ ap (λ (es : List Entry). hub_with terms es 0) (sym (take_next given.entries n entry there))
