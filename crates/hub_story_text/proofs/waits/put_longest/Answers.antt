use Rattle.hub_base.proofs.Growing.{flat-next}
use Rattle.hub_story_text.specs.Explained.{entries_of, told_of}
use Rattle.hub_story_text.specs.Waits.{EndsLate, line_at}
use Rattle.hub_story_text.proofs.Lateness.{all-first}
use Rattle.hub_story_text.proofs.waits.put_longest.Goals as goal

pub put_wait-requires-clause-late : goal.put_wait-requires-clause-late
put_wait-requires-clause-late c =
    (all-first (EndsLate (told_of c.args.explained.now)) c.args.longest.now c.loop-wait.wait-index _ c.loop-wait-test.true c.loop-wait.invariant.late).0

pub loop-wait-preserved : goal.loop-wait-preserved
loop-wait-preserved c =
    let line = line_at c.args.explained.now.clock (entries_of c.args.explained.now) (told_of c.args.explained.now) in
    record {
      text = flat-next line c.args.longest.now c.loop-wait.wait-index _ c.loop-wait.out.items c.put_wait.new.out.items _
          c.loop-wait-test.true c.loop-wait.invariant.text c.in_ok-put_wait.ensures;
      late = (all-first (EndsLate (told_of c.args.explained.now)) c.args.longest.now c.loop-wait.wait-index (record { place = 0; steps = 0 })
          c.loop-wait-test.true c.loop-wait.invariant.late).1;
    }
