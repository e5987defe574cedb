use Rattle.std.proofs.Common.{◌++◌, [], codes, decimal}
use Rattle.std.proofs.lemmas.Result.{on_ok_weaker}
use Rattle.hub_story_text.specs.WaiterText.{mover_words}
use Rattle.hub_story_text.proofs.Chains.{two, two-more}
use Rattle.hub_story_text.proofs.waiters.put_port.Goals as goal

pub returns : goal.returns
returns c =
    let sender = mover_words c.args.known.sender in
    let receiver = mover_words c.args.known.receiver in
    let port = two c.args.out.now.items c.put_number.new.out.items [] (decimal c.args.port.0) (rw c.into.ensures at c.in_ok-put_number.ensures) in
    let sent = two-more c.args.out.now.items c.put_number.new.out.items c.put_mover.new.out.items (decimal c.args.port.0) (codes ": last sent by ")
    sender port c.in_ok-put_mover.ensures in
    on_ok_weaker c.put_mover-2.result
    (two-more c.args.out.now.items c.put_mover.new.out.items c.put_mover-2.new.out.items
    (decimal c.args.port.0 ++ codes ": last sent by " ++ sender) (codes ", last received by ") receiver sent)
    c.put_mover-2.ensures
