use Rattle.std.proofs.Common.{◌≡◌, ℕ, ◌+◌, ◌∙◌, ap, refl, sym, subst, length, map, List, Some, true}
use Rattle.std.specs.Prelude.{slice_get, vec_items}
use Rattle.std.proofs.lemmas.Option.{slice_get_read}
use Rattle.std.specs.List.{list_all}
use Rattle.hub_base.specs.declared.head.Edition.{Edition}
use Rattle.hub_base.specs.declared.head.Head.{Head}
use Rattle.hub_base.specs.declared.value.Pid.{Pid}
use Rattle.hub_scenario.specs.Scenario.{scenario_view}
use Rattle.hub_scenario.specs.declared.script.ScriptStep.{ScriptStep}
use Rattle.hub_scenario.specs.ChoiceWords.{WordsDrawn}
use Rattle.hub_live.specs.Name.{Name}
use Rattle.hub_scenario.specs.Steps.{has_step}
use Rattle.hub_runner.proofs.Runs.{place_of, script_at, script_fits}
use Rattle.hub_runner.proofs.Outcomes.{is_outcome}
use Rattle.hub_runner.proofs.following.FollowingTaskLiveHubHeld.perform.Goals as goal

pub follow-requires-clause-fits : goal.follow-requires-clause-fits
follow-requires-clause-fits g c =
    let sc = c.args.self.scenario.now in
    let scripts = sc.scripts.items in
    let script = c.index-script.result.now in
    let seat = c.args.seat.now in
    let here = place_of sc seat c.pid-pid.result c.from.result c.requires c.pid-pid.ensures.pid c.pid-pid.ensures.below c.from.ensures in
    let at = script_at sc seat.pid.0 script (subst (λ (i : ℕ). slice_get scripts i ≡ Some script) here.0
    (slice_get_read scripts (length scripts) c.from.result script refl here.1 c.index-script.ensures)) in
    let fits : list_all (has_step sc.edition) script.items ≡ true = script_fits sc.edition (map vec_items scripts) seat.pid.0 script.items sc.of_edition at in
    let edition : sc.edition ≡ g.K.HubName.name.terms.head.edition =
    sym (ap (λ (h : Head). h.edition) c.requires.head) ∙ ap (λ (n : Name). n.terms.head.edition) c.pid-pid.ensures.hub in
    subst (λ (e : Edition). list_all (has_step e) c.deref.result.now ≡ true) edition
    (subst (λ (steps : List ScriptStep). list_all (has_step sc.edition) steps ≡ true) (sym c.deref.ensures.value) fits)

pub returns-clause-ends : goal.returns-clause-ends
returns-clause-ends g c =
    let sc = c.args.self.scenario.now in
    let scripts = sc.scripts.items in
    let script = c.index-script.result.now in
    let seat = c.args.seat.now in
    let here = place_of sc seat c.pid-pid.result c.from.result c.requires c.pid-pid.ensures.pid c.pid-pid.ensures.below c.from.ensures in
    let seed : c.of-words.result.seed ≡ sc.seed + seat.pid.0 =
    ap (λ (w : WordsDrawn). w.seed) c.of-words.ensures ∙ ap (λ (p : Pid). sc.seed + p.0) c.pid-pid.ensures.pid in
    let at = script_at sc seat.pid.0 script (subst (λ (i : ℕ). slice_get scripts i ≡ Some script) here.0
    (slice_get_read scripts (length scripts) c.from.result script refl here.1 c.index-script.ensures)) in
    is_outcome c.follow.result (scenario_view sc) seat c.follow.new.seat script.items c.deref.result.now c.of-words.result.seed
    c.requires c.follow.ensures.onward at c.deref.ensures.value seed c.follow.ensures.ok c.follow.ensures.err
