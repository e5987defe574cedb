-- What is counted of a block, before it has a step, and with one step more.
use Rattle.std.proofs.Common.{◌≡◌, ◌≤◌, ◌+◌, ◌-◌, ℕ, List, Option, ap, ◌∙◌, sym, arith, take, cond, get_or-take, max, replicate, zero}
use Rattle.std.specs.Prelude.{is_some}
use Rattle.std.specs.List.{count_by, list_any}
use Rattle.std.specs.Option.{option_map_or}
use Rattle.hub_base.specs.declared.limits.TheConstants.{MOST_PORTS}
use Rattle.hub_base.specs.declared.value.Port.{Port}
use Rattle.hub_base.specs.Entry.{Entry}
use Rattle.hub_story.specs.declared.told.Told.{Told}
use Rattle.hub_story.specs.Levels.{AreLevels, came_by, count_at, level_after, level_of, received_by, sent_by, told_by}
use Rattle.hub_page.specs.declared.block.Block.{Block}
use Rattle.hub_page.specs.declared.line.Line.{Line}
use Rattle.hub_story.specs.declared.levels.Levels.{Levels}
use Rattle.hub_page.specs.Block.{IsBlock, IsNext, count_of}
use Rattle.hub_page.specs.Lanes.{asked_at, is_in, is_trouble_in, one_if, troubles_at, waits_at}
use Rattle.hub_page.specs.Known.{entries_of, procs_of, told_of}
use Rattle.hub_page.specs.Line.{IsLine}
use Rattle.hub_page.specs.Places.{most_over, sum_over}
use Rattle.hub_page.specs.Ports.{held_at, moves_on}
use Rattle.hub_page.proofs.Sums.{all-same, most-is, most-more, most-none, sum-more, sum-none}

-- what a table counts of a lane, with what the step at this place adds
lane-more : (amount : ℕ → ℕ) (first next place was now more : ℕ) → first ≤ place → next ≡ first → was ≡ sum_over amount first place →
    now ≡ was + more → more ≡ amount place → now ≡ sum_over amount next (place + 1)
lane-more amount first next place was now more begun same so is adds =
    is ∙ ap (λ n. n + more) so ∙ ap (λ n. sum_over amount first place + n) adds ∙ sym (sum-more amount first place begun)
    ∙ ap (λ f. sum_over amount f (place + 1)) (sym same)

level-is : (es : List Entry) (all : List Told) (place : ℕ) (levels : Levels) (p : Port) → AreLevels es (told_by (place + 1) all) levels →
    level_of levels p ≡ level_after es all p place
level-is es all place levels p are =
    ap (λ n. n - count_at levels.received.items p) (are.sent p) ∙ ap (λ n. sent_by es all p (place + 1) - n) (are.received p)

pub block-next : (l : Line) (old new : Block) → IsLine l → IsBlock l.known.now l.place old → IsNext l old new →
    IsBlock l.known.now (l.place + 1) new
block-next l old new so was next =
    let es = entries_of l.known.now in
    let all = told_of l.known.now in
    let procs = procs_of l.known.now in
    let place = l.place in
    let levels = l.past.now.levels in
    record {
      begun = omega (arith, was.begun, next.first);
      asked = λ lane few.
          lane-more (asked_at es procs lane) old.first new.first place _ _ _ was.begun next.first (was.asked lane few) (next.asked lane few)
          (ap (λ o. option_map_or (λ (e : Entry). one_if (is_in procs lane e.pid)) o 0) (sym so.entry));
      troubles = λ lane few.
          lane-more (troubles_at all procs lane) old.first new.first place _ _ _ was.begun next.first (was.troubles lane few)
          (next.troubles lane few) (ap (count_by (is_trouble_in procs lane)) so.came);
      waited = λ lane few.
          lane-more (waits_at all procs lane) old.first new.first place _ _ _ was.begun next.first (was.waited lane few)
          (next.waited lane few) (ap (λ (o : Option ℕ). one_if (is_some o)) (so.past.parked lane few));
      most = λ p few.
          next.most p few
          ∙ ap (λ (ts : List Told).
          cond (list_any (moves_on es p) ts) (max (count_at old.most.items p) (level_of levels p)) (count_at old.most.items p)) so.came
          ∙ most-is (list_any (moves_on es p) (came_by place all)) (count_at old.most.items p) (level_of levels p)
          ∙ ap (λ l. max (count_at old.most.items p) (cond (list_any (moves_on es p) (came_by place all)) l 0))
          (level-is es all place levels p so.past.levels)
          ∙ ap (λ n. max n (held_at es all p place)) (was.most p few) ∙ sym (most-more (held_at es all p) old.first place was.begun)
          ∙ ap (λ f. most_over (held_at es all p) f (place + 1)) (sym next.first);
      sent = λ p few. ap (λ t. count_at t p) next.sent ∙ was.sent p few ∙ ap (sent_by es all p) (sym next.first);
      received = λ p few. ap (λ t. count_at t p) next.received ∙ was.received p few ∙ ap (received_by es all p) (sym next.first);
    }

-- ---- before a block has a step
pub none-counted : (amount : ℕ → ℕ) (table : List ℕ) (first n lane : ℕ) → table ≡ replicate n zero → count_of table lane ≡ sum_over amount first first
none-counted amount table first n lane is =
    ap (λ t. count_of t lane) is ∙ all-same zero n lane ∙ sym (sum-none amount first)

pub none-held : (amount : ℕ → ℕ) (table : List ℕ) (first n : ℕ) (p : Port) → table ≡ replicate n zero → count_at table p ≡ most_over amount first first
none-held amount table first n p is =
    ap (λ t. count_at t p) is ∙ all-same zero n p.0 ∙ sym (most-none amount first)

pub first-ports : (table part : List ℕ) (p : Port) → p.0 ≤ MOST_PORTS → part ≡ take (MOST_PORTS + 1) table → count_at part p ≡ count_at table p
first-ports table part p few is =
    ap (λ t. count_at t p) is ∙ get_or-take (MOST_PORTS + 1) table p.0 zero (omega (arith, few))
