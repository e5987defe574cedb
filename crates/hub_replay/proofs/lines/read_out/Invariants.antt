-- What is left of the text stands behind entries that were read.
use Rattle.std.proofs.Common.{◌≡◌, List}
use Rattle.hub_base.specs.Entry.{Entry}
use Rattle.hub_base.specs.Reading.{behind}
use Rattle.hub_replay.proofs.lines.read_out.Given as goal

abbrev pub invariant-entries : goal.invariant-entries
invariant-entries l = (more : List Entry) × (l.initial.reader.left ≡ behind more l.reader.left)

abbrev pub decreases-entries : goal.decreases-entries
decreases-entries l = l.reader.bytes
