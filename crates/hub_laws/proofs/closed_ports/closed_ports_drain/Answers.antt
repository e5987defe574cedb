use Rattle.hub_base.specs.Runs.{state}
use Rattle.hub_laws.proofs.AfterClose.{after_close-law, never-opened}
use Rattle.hub_laws.proofs.closed_ports.closed_ports_drain.Goals as goal

pub returns : goal.returns
returns c = record {
  closed = after_close-law c.args.head c.args.before.now c.args.later.now c.args.pid c.args.port;
  never = never-opened c.args.head.edition c.args.port (state c.args.head c.args.before.now) c.args.later.now;
}
