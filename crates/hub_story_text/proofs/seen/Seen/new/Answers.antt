use Rattle.std.proofs.Common.{ap, filter, subst, sym, ◌∙◌, arith}
use Rattle.hub_story.specs.LastMoves.{AreLast}
use Rattle.hub_story_text.specs.Explained.{entries_of, told_of}
use Rattle.hub_story_text.specs.Seen.{waits_still}
use Rattle.hub_story_text.proofs.Lateness.{none-first}
use Rattle.hub_story_text.proofs.seen.Seen.new.Goals as goal

pub returns : goal.returns
returns c e =
    let none = none-first (told_of e) in
    record {
      last = subst (λ l. AreLast (entries_of e) l c.in_ok-new.field-0) (sym none) (c.in_ok-new.ensures.none (entries_of e));
      whole = c.in_ok-new.ensures.whole;
      waits = c.new-2.ensures.waits;
      few = omega (arith, c.new-2.ensures.few);
      waiting = c.new-3.ensures.items ∙ sym (ap (filter (waits_still (told_of e))) none);
    }
