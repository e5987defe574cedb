use Rattle.std.proofs.Common.{[]}
use Rattle.hub_picture.proofs.Reading.{begin, word-goes, words-end}
use Rattle.hub_picture.specs.Reading.{behind_words}
use Rattle.hub_picture.proofs.piece.put_filled.Goals as goal

pub loop-place-init : goal.loop-place-init
loop-place-init c = begin behind_words c.args.out.now c.args.words.now

pub loop-place-preserved : goal.loop-place-preserved
loop-place-preserved c =
    word-goes _ _ c.args.words.now c.loop-place.place (record { ref_ptr = (0, 0); now = [] }) c.loop-place-test.true
    c.loop-place.invariant (rw c.in-Ok.is at c.put_word.ensures)

pub returns : goal.returns
returns c = words-end c.args.words.now c.loop-place.place c.loop-place-test.false c.loop-place.invariant
