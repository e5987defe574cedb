use Rattle.hub_story.proofs.Gone.{nobody-yet}
use Rattle.hub_story.proofs.receivers.Receivers.new.Goals as goal

pub returns : goal.returns
returns c es = nobody-yet es (record { pids = c.in_ok-new.field-0; left = c.new-2.result }) c.in_ok-new.ensures c.new-2.ensures.items
