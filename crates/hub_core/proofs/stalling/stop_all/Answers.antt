use Rattle.hub_core.proofs.Endings.{stops_one, stops_none}
use Rattle.hub_core.proofs.EndLoops.{none_ended, one_ended, fewer_left, all_ended}
use Rattle.hub_core.proofs.stalling.stop_all.Goals as goal

pub loop-pid-init : goal.loop-pid-init
loop-pid-init g c = none_ended g.met.E.Hears.begins c.requires.apart c.requires.room

pub loop-pid-smaller : goal.loop-pid-smaller
loop-pid-smaller g c =
    fewer_left (stops_one c.loop-pid.board c.in-Some.pid c.loop-pid.invariant.apart c.in-Some.ensures.oldest) c.in-Some.ensures.left

pub loop-pid-preserved : goal.loop-pid-preserved
loop-pid-preserved g c =
    one_ended g.met.E.Hears.goes_on c.loop-pid.invariant
    (stops_one c.loop-pid.board c.in-Some.pid c.loop-pid.invariant.apart c.in-Some.ensures.oldest)
    (record { events = c.hear.ensures.heard; fits = c.hear.ensures.room }) c.in-Some.ensures.left

pub returns : goal.returns
returns g c =
    let all = all_ended c.loop-pid.invariant (stops_none c.loop-pid.board c.in_default.ensures.oldest) c.in_default.ensures.left in
    record { board = all.kept; told = all.hears }
