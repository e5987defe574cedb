use Rattle.std.proofs.Common.{ℕ, List, [], ◌∷◌, Option, length, ap, ◌∙◌, arith}
use Rattle.std.specs.List.{filter, filter_map}
use Rattle.std.specs.Prelude.{nat_lt}
use Rattle.hub_base.specs.declared.case.Case.{Case}
use Rattle.hub_base.specs.Entry.{Entry}
use Rattle.hub_base.specs.declared.event.Outcome.{Outcome}
use Rattle.hub_base.specs.declared.value.Value.{Value}
use Rattle.hub_base.specs.Values.{sent_on, got_on}
use Rattle.hub_base.proofs.Growing.{count-kept}
use Rattle.hub_story.specs.declared.told.Told.{Told}
use Rattle.hub_story.specs.Passing.{moved_by}
use Rattle.hub_story.proofs.levels.level_of.Goals as goal

-- how often what is told by then is told of a move
abbrev counted : (Option Case → Outcome → Option Value) → List Entry → ℕ → Told → ℕ
counted pick entries count told = length (filter_map (moved_by pick entries) (filter (λ (t : Told). nat_lt t.by count) (told ∷ [])))

pub loop-told-preserved : goal.loop-told-preserved
loop-told-preserved c =
    let so = c.loop-told.invariant in
    let port = c.args.port in
    let entries = c.args.entries.now in
    let count = c.args.count in
    let here = c.told-item in
    let below = c.loop-told-test.true in
    record {
      sent =
          count-kept (moved_by (sent_on port) entries) (λ (t : Told). nat_lt t.by count) c.args.told.now c.loop-told.told-index here.result _ _ below
          so.sent (c.count_of.ensures.value ∙ ap (counted (sent_on port) entries count) here.is);
      received =
          count-kept (moved_by (got_on port) entries) (λ (t : Told). nat_lt t.by count) c.args.told.now c.loop-told.told-index here.result _ _ below
          so.received (c.count_of-in-loop-told.ensures.value ∙ ap (counted (got_on port) entries count) here.is);
      sent-few = omega (arith, so.sent-few, c.count_of.ensures.most);
      received-few = omega (arith, so.received-few, c.count_of-in-loop-told.ensures.most);
    }
