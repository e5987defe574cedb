use Rattle.std.proofs.Common.{◌++◌, codes}
use Rattle.hub_story_text.specs.WaiterText.{gone_words, port_words}
use Rattle.hub_story_text.proofs.Chains.{one-more}
use Rattle.hub_story_text.proofs.waiters.put_send.Goals as goal

pub returns : goal.returns
returns c =
    let out = c.args.out.now.items in
    let words = codes "            to send on port " in
    let known = c.args.known in
    let port = port_words known c.args.port in
    let gone = gone_words known.gone in
    let said = one-more out c.extend_from_slice.new.self.items c.put_port.new.out.items words port c.in_ok-extend_from_slice.ensures.items
    c.in_ok-put_port.ensures in
    let told = one-more out c.put_port.new.out.items c.put_gone.new.out.items (words ++ port) gone said
    c.in_ok-put_gone.ensures in
    one-more out c.put_gone.new.out.items c.extend_from_slice-2.new.self.items (words ++ port ++ gone) (codes "\n") told
    c.in_ok-extend_from_slice-2.ensures.items
