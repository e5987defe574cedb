-- What a process of a pool was told last.
use Rattle.hub_base.specs.declared.event.Outcome.TheVariants.{Drained}
use Rattle.hub_base.specs.declared.event.What.{What}
use Rattle.hub_base.specs.declared.event.What.TheVariants.{Fired, Done}
use Rattle.hub_uses.specs.declared.pool.Work.{Work}
use Rattle.hub_uses.specs.declared.pool.Work.TheVariants.{HandedOut, Did}

-- what ends this part of a pool's work
abbrev pub ended_by : Work → What
ended_by HandedOut = Done
ended_by (Did jobs sum) = Fired 0 Drained
