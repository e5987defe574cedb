use Rattle.std.proofs.Common.{◌++◌, codes}
use Rattle.hub_story_text.specs.WaiterText.{port_words}
use Rattle.hub_story_text.proofs.Chains.{one-more}
use Rattle.hub_story_text.proofs.waiters.put_receive.Goals as goal

pub returns : goal.returns
returns c =
    let out = c.args.out.now.items in
    let words = codes "            to receive from port " in
    let port = port_words c.args.known c.args.port in
    let said = one-more out c.extend_from_slice.new.self.items c.put_port.new.out.items words port c.in_ok-extend_from_slice.ensures.items
    c.in_ok-put_port.ensures in
    one-more out c.put_port.new.out.items c.extend_from_slice-2.new.self.items (words ++ port) (codes "\n") said
    c.in_ok-extend_from_slice-2.ensures.items
