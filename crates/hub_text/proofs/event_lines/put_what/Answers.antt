use Rattle.std.proofs.Common.{◌+◌, ◌≤◌, codes, length, arith}
use Rattle.hub_text.specs.declared.event_lines.TheConstants.{MOST_OUTCOME, MOST_SMALL, MOST_WHAT}
use Rattle.hub_text.proofs.Puts.{puts_then, puts_within}
use Rattle.hub_text.proofs.event_lines.put_what.Goals as goal

fired_room : length (codes " case ") + MOST_SMALL + MOST_OUTCOME ≤ MOST_WHAT
fired_room = omega arith

pub returns-in-Fired : goal.returns-in-Fired
returns-in-Fired c =
    rw (c.in-Fired.is) (puts_within fired_room (puts_then (puts_then c.put-word.ensures c.put_small-end.ensures) c.put_outcome.ensures))
