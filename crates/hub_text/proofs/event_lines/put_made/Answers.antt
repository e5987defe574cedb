use Rattle.std.proofs.Common.{◌+◌, ◌≤◌, codes, length, arith}
use Rattle.hub_text.specs.declared.event_lines.TheConstants.{MOST_DIGITS, MOST_WHAT}
use Rattle.hub_text.proofs.Puts.{puts_then, puts_within}
use Rattle.hub_text.proofs.event_lines.put_made.Goals as goal

made_room : length (codes " made ") + MOST_DIGITS ≤ MOST_WHAT
made_room = omega arith

pub returns : goal.returns
returns c = rw (← c.into.ensures) (puts_within made_room (puts_then c.put-end.ensures c.put_large.ensures))
