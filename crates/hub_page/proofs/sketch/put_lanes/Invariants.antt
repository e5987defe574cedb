use Rattle.std.proofs.Common.{◌≡◌, ◌++◌}
use Rattle.std.specs.List.{flat_map, range_with_len}
use Rattle.hub_page.specs.Sketch.{counts_of_lane, lane_words}
use Rattle.hub_page.proofs.sketch.put_lanes.Given as goal

abbrev pub invariant-loop-lane : goal.invariant-loop-lane
invariant-loop-lane l =
    l.out.items ≡ l.fn.out.items ++ flat_map (λ lane. lane_words lane (counts_of_lane l.sketch lane)) (range_with_len 0 l.lane)
