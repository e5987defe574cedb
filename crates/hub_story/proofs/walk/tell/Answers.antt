use Rattle.std.proofs.Common.{◌≡◌, ◌∙◌, ℕ, List, Option, ap, sym}
use Rattle.std.specs.Option.{option_map}
use Rattle.hub_base.specs.declared.event.Event.{Event}
use Rattle.hub_base.proofs.Growing.{kept-none, kept-some}
use Rattle.hub_story.specs.declared.told.Told.{Told}
use Rattle.hub_story.specs.LastCalls.{asked_of, tells_of}
use Rattle.hub_story.proofs.walk.tell.Goals as goal
use Rattle.hub_story.proofs.walk.tell.Goals.{in-Some+in_ok-push, in_default}

-- what is told of an event, and of whom it is read from
tells : (calls : List (Option ℕ)) (place : ℕ) {e other : Event} {asked : Option ℕ} → e ≡ other → asked_of calls place e ≡ asked
    → tells_of calls place other ≡ option_map (λ a. record { asked = a; by = place; event = e }) asked
tells calls place {e} {other} {asked} is gives =
    ap (tells_of calls place) (sym is) ∙ ap (option_map {U = Told} (λ a. record { asked = a; by = place; event = e })) gives

pub loop-event-preserved : goal.loop-event-preserved
loop-event-preserved c =
    let calls = c.args.calls.now in
    let events = c.args.events.now in
    let i = c.loop-event.event-index in
    let here = c.event-item in
    elim c.match-asked_of.branch [
      | in-Some+in_ok-push w ↦
          rw (w.told-is, w.in_ok-push.ensures.items)
          (kept-some (tells_of calls c.args.place) events i here.result _ _ _ c.loop-event-test.true
          (tells calls c.args.place here.is (sym c.asked_of.ensures ∙ w.in-Some.is)) c.loop-event.invariant)
      | in_default w ↦
          rw w.told-is
          (kept-none (tells_of calls c.args.place) events i here.result _ _ c.loop-event-test.true
          (tells calls c.args.place here.is (sym c.asked_of.ensures ∙ w.in_default.is)) c.loop-event.invariant)
    ]
