use Rattle.std.proofs.Common.{◌++◌, codes, decimal}
use Rattle.std.proofs.lemmas.Result.{on_ok_weaker}
use Rattle.hub_story_text.specs.OutsideText.{last_words}
use Rattle.hub_story_text.proofs.Chains.{one-more, two-more}
use Rattle.hub_story_text.proofs.outside.put_outsider.Goals as goal

pub returns : goal.returns
returns c =
    let out = c.args.out.now.items in
    let words = c.args.words.now in
    let pid = decimal c.args.outsider.now.pid.0 in
    let said = two-more out c.extend_from_slice.new.self.items c.put_number.new.out.items words (codes "P") pid
    c.in_ok-extend_from_slice.ensures.items (rw c.into.ensures at c.in_ok-put_number.ensures) in
    on_ok_weaker c.put_last.result
    (one-more out c.put_number.new.out.items c.put_last.new.out.items (words ++ codes "P" ++ pid) (last_words c.args.outsider.now.last) said)
    c.put_last.ensures
