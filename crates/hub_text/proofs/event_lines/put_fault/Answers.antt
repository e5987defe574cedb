use Rattle.std.proofs.Common.{◌+◌, ◌≤◌, codes, length, arith}
use Rattle.hub_text.specs.declared.event_lines.TheConstants.{MOST_SMALL, MOST_WHAT}
use Rattle.hub_text.proofs.Puts.{puts_then, puts_within}
use Rattle.hub_text.proofs.event_lines.put_fault.Goals as goal

fault_room : length (codes " fault ") + MOST_SMALL ≤ MOST_WHAT
fault_room = omega arith

pub returns : goal.returns
returns c = rw (← c.number.ensures) (puts_within fault_room (puts_then c.put-end.ensures c.put_small.ensures))
