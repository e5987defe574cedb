use Rattle.std.proofs.Common.{◌+◌, ◌-◌, ◌∙◌, ap, sym, arith, drop, get_or}
use Rattle.std.specs.List.{fold}
use Rattle.hub_story_text.specs.Fullest.{count_below, fuller, fuller_by}
use Rattle.hub_story_text.proofs.Levels.{fold-next, more-below, next-up}
use Rattle.hub_story_text.proofs.fullest.fullest_of.Goals as goal

pub loop-place-preserved : goal.loop-place-preserved
loop-place-preserved c =
    let sent = c.args.sent.now in
    let received = c.args.received.now in
    let i = c.loop-place.place-index in
    let place = get_or sent i 0 in
    record {
      put = λ more.
          omega (
            arith,
            c.count_until-put.ensures,
            more-below (place + 1) (get_or sent (i + 1) 0 + 1) sent (omega (arith, next-up 0 i 0 sent c.requires.sent more)),
          );
      taken = λ more.
          omega (
            arith,
            c.count_until-taken.ensures,
            more-below (place + 1) (get_or sent (i + 1) 0 + 1) received (omega (arith, next-up 0 i 0 sent c.requires.sent more)),
          );
      full =
          ap (λ f. fold (fuller_by sent received) f (drop (i + 1) sent))
          (c.fuller-full.ensures ∙ ap (fuller c.loop-place.full place)
          (c.saturating_sub.ensures ∙ ap (λ n. n - c.count_until-taken.result) c.count_until-put.ensures
          ∙ ap (λ n. count_below (place + 1) sent - n) c.count_until-taken.ensures))
          ∙ sym (fold-next (fuller_by sent received) c.loop-place.full sent i 0 c.loop-place-test.true) ∙ c.loop-place.invariant.full;
    }
