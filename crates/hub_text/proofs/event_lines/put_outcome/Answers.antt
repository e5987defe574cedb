use Rattle.std.proofs.Common.{◌+◌, ◌≤◌, codes, length, arith}
use Rattle.hub_text.specs.declared.event_lines.TheConstants.{MOST_OUTCOME, MOST_VALUE}
use Rattle.hub_text.proofs.Puts.{puts_then, puts_within}
use Rattle.hub_text.proofs.event_lines.put_outcome.Goals as goal

got_room : length (codes " got ") + MOST_VALUE ≤ MOST_OUTCOME
got_room = omega arith

pub returns-in-Got : goal.returns-in-Got
returns-in-Got c = rw (c.in-Got.is) (puts_within got_room (puts_then c.put-end.ensures c.put_value.ensures))
