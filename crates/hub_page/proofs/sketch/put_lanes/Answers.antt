use Rattle.std.proofs.Common.{◌++◌, ◌∙◌, ap}
use Rattle.hub_page.specs.Sketch.{counts_of_lane, lane_words}
use Rattle.hub_page.proofs.Sums.{numbers-behind}
use Rattle.hub_page.proofs.sketch.put_lanes.Goals as goal

pub loop-lane-preserved : goal.loop-lane-preserved
loop-lane-preserved c =
    let lane = c.loop-lane.lane in
    numbers-behind (λ lane. lane_words lane (counts_of_lane c.args.sketch.now lane)) lane _ _ _ c.loop-lane.invariant
    (c.in_ok-put_lane.ensures ∙ ap (λ counts. c.loop-lane.out.items ++ lane_words lane counts) c.lane.ensures)
