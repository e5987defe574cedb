use Rattle.std.proofs.Common.{◌<◌, ◌≤◌, ◌∙◌, ap, arith, length, sym, None, Some}
use Rattle.std.proofs.lemmas.Option.{slice_get-get_or}
use Rattle.hub_base.specs.Values.{sent_on}
use Rattle.hub_story.specs.Passing.{moved_by}
use Rattle.hub_picture.proofs.ArrowsLeft.{is-none, is-some, moved-next, moved-none}
use Rattle.hub_picture.proofs.arrows.next_sent.Goals as goal

pub returns-then-is_moved-clause-found : goal.returns-then-is_moved-clause-found
returns-then-is_moved-clause-found c =
    let es = c.args.entries.now in
    let ts = c.args.told.now in
    let pick = sent_on c.args.port in
    let i = c.loop-place.place in
    let here = c.at.result.now in
    let below : i < length ts = omega (arith, c.loop-place-test.true, c.len-place-end.ensures) in
    let sent = is-some (moved_by pick es here) (sym c.is_moved.ensures ∙ c.if-is_moved.true) in
    record {
      told = here;
      sent = sent.0;
      at = slice_get-get_or ts i here below ∙ ap Some (sym c.at.ensures);
      is = sent.1;
      next =
          c.loop-place.invariant
          ∙ moved-next pick es ts i here (Some sent.0) below (sym sent.1 ∙ ap (moved_by pick es) c.at.ensures);
    }

pub loop-place-preserved : goal.loop-place-preserved
loop-place-preserved c =
    let pick = moved_by (sent_on c.args.port) c.args.entries.now in
    let below : c.loop-place.place < length c.args.told.now = omega (arith, c.loop-place-test.true, c.len-place-end.ensures) in
    let none = is-none (pick c.at.result.now) (sym c.is_moved.ensures ∙ c.if-is_moved.false) in
    c.loop-place.invariant
    ∙ moved-next (sent_on c.args.port) c.args.entries.now c.args.told.now c.loop-place.place c.at.result.now None below (sym none ∙ ap pick c.at.ensures)

pub returns-clause-none : goal.returns-clause-none
returns-clause-none c =
    let ts = c.args.told.now in
    let past : length ts ≤ c.loop-place.place = omega (arith, c.loop-place-test.false, c.len-place-end.ensures) in
    c.loop-place.invariant ∙ moved-none (sent_on c.args.port) c.args.entries.now ts c.loop-place.place past
