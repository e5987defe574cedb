-- What was heard is answered, and no call has failed.
use Rattle.std.proofs.Common.{◌≡◌, ◌+◌, ◌-◌, vec_len}
use Rattle.hub_base.specs.declared.limits.TheConstants.{MOST_BYTES}
use Rattle.hub_replay.specs.Conversing.{Conversing}
use Rattle.hub_replay.proofs.server.converse_on.Given as goal

abbrev pub invariant-reads : goal.invariant-reads
invariant-reads g l =
    Conversing (g.T.Talk.heard l.talk) (g.T.Talk.said l.talk) l.conversation
    × (g.T.Talk.failed_reads l.talk ≡ g.T.Talk.failed_reads l.initial.talk)
    × (g.T.Talk.failed_writes l.talk ≡ g.T.Talk.failed_writes l.initial.talk)

abbrev pub decreases-reads : goal.decreases-reads
decreases-reads g l = MOST_BYTES + 1 - (l.conversation.place + (vec_len l.conversation.text - l.conversation.front))
