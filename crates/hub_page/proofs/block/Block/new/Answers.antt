use Rattle.std.proofs.Common.{◌+◌, ◌∙◌, ap, sym, arith, length, length-take-le, take}
use Rattle.hub_base.specs.declared.limits.TheConstants.{MOST_PORTS}
use Rattle.hub_page.specs.Known.{entries_of, procs_of, told_of}
use Rattle.hub_page.specs.Lanes.{asked_at, troubles_at, waits_at}
use Rattle.hub_page.specs.Ports.{held_at}
use Rattle.hub_page.proofs.Blocks.{first-ports, none-counted, none-held}
use Rattle.hub_page.proofs.block.Block.new.Goals as goal

pub slice_bounds-from_slice-end : goal.slice_bounds-from_slice-end
slice_bounds-from_slice-end c = sym (length-take-le (MOST_PORTS + 1) _ (omega (arith, ap length c.deref.ensures.value, c.requires.whole_levels.sent)))

pub slice_bounds-from_slice-end-2 : goal.slice_bounds-from_slice-end-2
slice_bounds-from_slice-end-2 c =
    sym (length-take-le (MOST_PORTS + 1) _ (omega (arith, ap length c.deref-2.ensures.value, c.requires.whole_levels.received)))

pub returns-clause-begun : goal.returns-clause-begun
returns-clause-begun c =
    let es = entries_of c.args.known.now in
    let all = told_of c.args.known.now in
    let procs = procs_of c.args.known.now in
    let first = c.args.first in
    record {
      begun = omega arith;
      asked = λ lane few. none-counted (asked_at es procs lane) _ first _ lane (c.in_ok-vec.ensures.items_if_clones_equal (λ y h. h));
      troubles = λ lane few. none-counted (troubles_at all procs lane) _ first _ lane (c.in_ok-vec-2.ensures.items_if_clones_equal (λ y h. h));
      waited = λ lane few. none-counted (waits_at all procs lane) _ first _ lane (c.in_ok-vec-3.ensures.items_if_clones_equal (λ y h. h));
      most = λ p few. none-held (held_at es all p) _ first (MOST_PORTS + 1) p c.in_ok-none_held.ensures;
      sent = λ p few. first-ports _ _ p few (c.in_ok-from_slice.ensures.items ∙ ap (take (MOST_PORTS + 1)) c.deref.ensures.value) ∙ c.requires.levels.sent p;
      received = λ p few.
          first-ports _ _ p few (c.in_ok-from_slice-2.ensures.items ∙ ap (take (MOST_PORTS + 1)) c.deref-2.ensures.value)
          ∙ c.requires.levels.received p;
    }
