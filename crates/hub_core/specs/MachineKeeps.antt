-- What every machine keeps.
use Rattle.std.specs.Prelude.{◌≤◌, ◌≡◌}
use Rattle.hub_base.specs.declared.limits.TheConstants.{MOST_PROCS}
use Rattle.hub_core.specs.declared.machine.Machine.TheInside.{Inside}
use Rattle.hub_core.specs.ListSteps.{count_gone}
use Rattle.hub_core.specs.Records.{machine_of}
use Rattle.hub_core.specs.Follows.{IsReached}

pub record MachineKeeps (m : Inside) : Type 0 where
  pub reached : IsReached (machine_of m.head.edition m.counted.board m.counted.tallies m.exited.gone m.steps)
  pub procs : m.counted.board.procs ≡ m.head.procs
  pub few : m.head.procs ≤ MOST_PROCS
  pub count : m.exited.count ≡ count_gone m.exited.gone m.head.procs
