use Rattle.std.proofs.Common.{◌≡◌, ◌∙◌, ◌+◌, ◌-◌, ℕ, ◌++◌, ap, arith, length, refl, subst, sym}
use Rattle.std.proofs.KnownBytes.{Appends-nil}
use Rattle.std.specs.List.{flat_map, range_with_len}
use Rattle.hub_base.proofs.Results.{on-err}
use Rattle.hub_page.specs.Data.{block_begin, block_count}
use Rattle.hub_page.specs.Known.{entries_of}
use Rattle.hub_page.specs.KnownPage.{all_blocks, block_of, blocks_of}
use Rattle.hub_page.specs.Past.{IsPast}
use Rattle.hub_page.proofs.Sums.{last-block, numbers-next, text-at}
use Rattle.hub_page.proofs.Written.{begun, one-more}
use Rattle.hub_page.proofs.data.write_blocks.Goals as goal

-- the first block begins at the first step
first-begin : (count : ℕ) → 0 ≡ block_begin count 0
first-begin count = omega arith

pub loop-number-init : goal.loop-number-init
loop-number-init g c =
    let k = c.args.known.now in
    record {
      past = subst (λ place. IsPast k place c.args.past.now) (first-begin (length (entries_of k))) c.requires.past;
      written = Appends-nil _;
      same = refl;
    }

pub loop-number-preserved : goal.loop-number-preserved
loop-number-preserved g c =
    let k = c.args.known.now in
    let n = c.loop-number.number in
    let so = c.loop-number.invariant in
    record {
      past = c.in_ok-make_block.ensures.past;
      written =
          one-more _ _ _ (blocks_of k n) c.deref.result.now (block_of k n) (blocks_of k (n + 1)) so.written
          c.in_ok-write_whole.ensures.whole (c.deref.ensures.value ∙ c.in_ok-make_block.ensures.text) (numbers-next (block_of k) n);
      same = c.in_ok-write_whole.ensures.ok ∙ so.same;
    }

-- the blocks so far are a beginning
pub returns-in_err-make_block-clause-beginning : goal.returns-in_err-make_block-clause-beginning
returns-in_err-make_block-clause-beginning g c =
    let k = c.args.known.now in
    let n = c.loop-number.number in
    let below = rw (c.block_count-number-end.ensures.value, c.len.ensures, c.entries.ensures) at c.loop-number-test.true in
    on-err c.from_residual.result (blocks_of k n, _, text-at (block_of k) n (block_count (length (entries_of k))) below, c.loop-number.invariant.written)

-- and so are these with a beginning of the next one
pub returns-in_err-write_whole-clause-beginning : goal.returns-in_err-write_whole-clause-beginning
returns-in_err-write_whole-clause-beginning g c =
    let k = c.args.known.now in
    let n = c.loop-number.number in
    let count = block_count (length (entries_of k)) in
    let below = rw (c.block_count-number-end.ensures.value, c.len.ensures, c.entries.ensures) at c.loop-number-test.true in
    let later = flat_map (block_of k) (range_with_len (0 + n + 1) (count - (n + 1))) in
    on-err c.from_residual-in_err-write_whole.result
    (begun _ _ _ (blocks_of k n) (block_of k n ++ later) c.deref.result.now later (all_blocks k) c.loop-number.invariant.written
    c.in_err-write_whole.ensures.beginning (ap (λ l. l ++ later) (sym (c.deref.ensures.value ∙ c.in_ok-make_block.ensures.text)))
    (text-at (block_of k) n count below))

pub returns-clause-past : goal.returns-clause-past
returns-clause-past g c =
    let k = c.args.known.now in
    let count = length (entries_of k) in
    let end = rw (c.len.ensures, c.entries.ensures) at c.block_count-number-end.ensures.value in
    let last : c.loop-number.number ≡ block_count count = omega (arith, c.loop-number.auto.number-end, c.loop-number-test.false, end) in
    subst (λ place. IsPast k place c.loop-number.past) (last-block count c.loop-number.number last) c.loop-number.invariant.past
