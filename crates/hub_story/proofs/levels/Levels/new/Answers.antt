use Rattle.hub_story.specs.declared.by_port.TheConstants.{PORT_NUMBERS}
use Rattle.hub_story.proofs.Counted.{none-yet}
use Rattle.hub_story.proofs.levels.Levels.new.Goals as goal

pub returns-clause-none : goal.returns-clause-none
returns-clause-none c es =
    none-yet es (record { sent = c.in_ok-vec.field-0; received = c.in_ok-vec-2.field-0 }) PORT_NUMBERS
    (c.in_ok-vec.ensures.items_if_clones_equal (λ y h. h)) (c.in_ok-vec-2.ensures.items_if_clones_equal (λ y h. h))
