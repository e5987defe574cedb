use Rattle.hub_text.proofs.Appending.{appends-all}
use Rattle.hub_text.proofs.writer.put.Goals as goal

pub returns-clause-appends : goal.returns-clause-appends
returns-clause-appends c =
    let wrote = c.extend_from_slice in
    appends-all c.args.out.now wrote.new.self c.args.bytes.now wrote.result wrote.ensures.items wrote.ensures.capacity wrote.ensures.succeeds
