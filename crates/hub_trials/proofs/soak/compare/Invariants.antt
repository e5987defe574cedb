use Rattle.std.proofs.Common.{◌≡◌, All, IfSome, take}
use Rattle.hub_trials.specs.Answers.{answers_to}
use Rattle.hub_trials.proofs.soak.compare.Given as goal

abbrev pub invariant-loop-pair : goal.invariant-loop-pair
invariant-loop-pair g l = record {
  told : All (λ p. (p.active.told.items ≡ answers_to p.active.seat.pid l.events)
      × IfSome p.other (λ o. o.told.items ≡ answers_to o.seat.pid l.events)) (take l.pair-index l.pairs);
  looks : All (λ p. (p.active.looks.items ≡ l.shown) × IfSome p.other (λ o. o.looks.items ≡ l.shown)) (take l.pair-index l.pairs);
}
