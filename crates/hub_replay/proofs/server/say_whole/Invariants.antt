-- What was taken is the beginning of the text, `rest` is what is left of it, and no call has failed.
use Rattle.std.proofs.Common.{◌≡◌, ℕ, List, ◌++◌, length}
use Rattle.hub_replay.specs.Talks.{Grows, Stays}
use Rattle.hub_replay.proofs.server.say_whole.Given as goal

abbrev pub invariant-rest : goal.invariant-rest
invariant-rest g l =
    (taken : List ℕ) × (l.initial.rest ≡ taken ++ l.rest)
    × Grows (g.T.Talk.said l.initial.talk) (g.T.Talk.said l.talk) taken
    × Stays (g.T.Talk.heard l.initial.talk) (g.T.Talk.heard l.talk)
    × (g.T.Talk.failed_writes l.talk ≡ g.T.Talk.failed_writes l.initial.talk)
    × (g.T.Talk.failed_reads l.talk ≡ g.T.Talk.failed_reads l.initial.talk)

abbrev pub decreases-rest : goal.decreases-rest
decreases-rest g l = length l.rest
