use Rattle.std.proofs.Common.{◌≡◌, ◌<◌, ◌∙◌, Some, arith, ap, sym, length, take, slice_get}
use Rattle.std.proofs.lemmas.Option.{get_or_from_slice_get}
use Rattle.hub_runner.proofs.Replays.{entries_fit, made_by, room-within, next-told}
use Rattle.hub_runner.proofs.replayed.replay.Goals as goal

pub loop-place-init : goal.loop-place-init
loop-place-init c = record { tells = rw c.head.ensures at c.in_ok-replayed.ensures.tells; within = c.in_ok-replayed.ensures.within }

pub answer-requires : goal.answer-requires
answer-requires c = omega (
  arith,
  ap length c.entries-entries.ensures,
  c.loop-place-test.true,
  c.loop-place.invariant.within.steps,
  entries_fit c.args.journal.now.head c.args.journal.now.entries c.requires.legal c.requires.head.1 c.requires.few,
)

pub add-requires-clause-made : goal.add-requires-clause-made
add-requires-clause-made c =
    let told = c.in_ok-answer.ensures.ok c.args.journal.now.head
    (take c.loop-place.place c.args.journal.now.entries) c.loop-place.invariant.tells.follows in
    rw c.deref.ensures.0 (made_by _ _ _ _ _ told)

pub add-requires-clause-room : goal.add-requires-clause-room
add-requires-clause-room c =
    room-within c.loop-place.place c.loop-place.replayed c.answer.new.self c.loop-place.invariant.within
    (omega (
      arith,
      ap length c.entries-entries.ensures,
      c.loop-place-test.true,
      entries_fit c.args.journal.now.head c.args.journal.now.entries c.requires.legal c.requires.head.1 c.requires.few,
    ))

pub loop-place-preserved : goal.loop-place-preserved
loop-place-preserved c =
    let es = c.args.journal.now.entries in
    let place = c.loop-place.place in
    let entry = c.entry-entry.result in
    let told = c.in_ok-answer.ensures.ok c.args.journal.now.head (take place es) c.loop-place.invariant.tells.follows in
    let here : slice_get es place ≡ Some entry = ap (λ xs. slice_get xs place) (sym c.entries-entries.ensures) ∙ c.entry-entry.ensures in
    let below : place < length es = omega (arith, c.loop-place-test.true, ap length c.entries-entries.ensures) in
    let next = next-told c.args.journal.now.head es place entry
    c.loop-place.replayed c.answer.new.self c.deref.result.now c.add.new.self
    below (sym (get_or_from_slice_get es place entry entry here)) c.loop-place.invariant.tells c.loop-place.invariant.within
    (rw (sym c.deref.ensures.0) at told)
    c.in_ok-answer.ensures.steps (omega arith) c.add.ensures.fits c.add.ensures.told in
    record { tells = next.0; within = next.1 }
