use Rattle.hub_base.proofs.OneReading.{found-text, found-fits, found-fault}
use Rattle.hub_core.proofs.short_journal.read_short_journal.Goals as goal

pub returns : goal.returns
returns c =
    let b = c.args.bytes.now in
    let so = c.read_all.ensures in
    record { found = found-text b _ so.gives; fits = found-fits b _ so.gives; faulty = found-fault b _ so.gives; exact = so.gives; memory = so.memory }
