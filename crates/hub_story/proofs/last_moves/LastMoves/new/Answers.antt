use Rattle.hub_story.specs.declared.by_port.TheConstants.{PORT_NUMBERS}
use Rattle.hub_story.proofs.Movers.{nobody-yet, none-only}
use Rattle.hub_story.proofs.last_moves.LastMoves.new.Goals as goal

pub returns-clause-none : goal.returns-clause-none
returns-clause-none c es =
    nobody-yet es (record {
      sent = c.in_ok-vec.field-0;
      received = c.in_ok-vec-2.field-0;
      receivers = c.in_ok-new.field-0;
    }) PORT_NUMBERS
    (c.in_ok-vec.ensures.items_if_clones_equal (none-only _ (λ m h. h)))
    (c.in_ok-vec-2.ensures.items_if_clones_equal (none-only _ (λ m h. h))) (c.in_ok-new.ensures es)
