use Rattle.std.proofs.Common.{◌++◌, ◌+◌, codes, decimal}
use Rattle.hub_story_text.proofs.Chains.{two, one-more, two-more}
use Rattle.hub_story_text.proofs.waiters.put_who.Goals as goal

pub returns : goal.returns
returns c =
    let words = c.args.words.now in
    let who = two c.args.out.now.items c.put_number.new.out.items (codes "          P") (decimal c.args.told.now.event.pid.0)
    (rw c.into.ensures at c.in_ok-put_number.ensures) in
    let step = two-more c.args.out.now.items c.put_number.new.out.items c.put_number-2.new.out.items
    (codes "          P" ++ decimal c.args.told.now.event.pid.0) words (decimal (c.args.told.now.asked + 1))
    who (rw c.number_of.ensures at c.in_ok-put_number-2.ensures) in
    one-more c.args.out.now.items c.put_number-2.new.out.items c.extend_from_slice.new.self.items
    (codes "          P" ++ decimal c.args.told.now.event.pid.0 ++ words ++ decimal (c.args.told.now.asked + 1)) (codes "\n")
    step c.in_ok-extend_from_slice.ensures.items
