use Rattle.std.proofs.Common.{◌≡◌, ◌≤◌, take}
use Rattle.hub_story.specs.Levels.{sent_by, received_by}
use Rattle.hub_story.proofs.levels.level_of.Given as goal

abbrev pub invariant-loop-told : goal.invariant-loop-told
invariant-loop-told l = record {
  sent : l.level.sent ≡ sent_by l.entries (take l.told-index l.told) l.port l.count;
  received : l.level.received ≡ received_by l.entries (take l.told-index l.told) l.port l.count;
  sent-few : l.level.sent ≤ l.told-index;
  received-few : l.level.received ≤ l.told-index;
}
