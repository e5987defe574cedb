use Rattle.std.proofs.Common.{◌≡◌, ◌≤◌, ◌*◌, ◌^◌, take}
use Rattle.std.specs.List.{sum_by}
use Rattle.hub_base.specs.Values.{is_fault}
use Rattle.hub_runner.specs.Reports.{how_many, is_stalled}
use Rattle.hub_runner.specs.Replays.{number_told}
use Rattle.hub_runner.proofs.counting.tell.Given as goal

abbrev pub invariant-loop-event : goal.invariant-loop-event
invariant-loop-event l = record {
  got : l.told.got ≡ sum_by number_told (take l.event-index l.events);
  stalled : l.told.stalled ≡ how_many is_stalled (take l.event-index l.events);
  faults : l.told.faults ≡ how_many is_fault (take l.event-index l.events);
  stalled-few : l.told.stalled ≤ l.event-index;
  faults-few : l.told.faults ≤ l.event-index;
  fits : l.told.got ≤ l.event-index * 2 ^ 64;
}
