use Rattle.std.proofs.Common.{◌≡◌, ◌≤◌, ◌∙◌, ℕ, arith, refl, subst}
use Rattle.hub_page.specs.Block.{IsBlock}
use Rattle.hub_page.specs.KnownPage.{line_of}
use Rattle.hub_page.specs.Past.{IsPast}
use Rattle.hub_page.proofs.Sums.{places-behind, places-none}
use Rattle.hub_page.proofs.step_lines.put_lines.Goals as goal

pub loop-place-init : goal.loop-place-init
loop-place-init c = record {
  past = c.requires.past;
  block = c.requires.block;
  whole = c.requires.whole;
  first = refl;
  text = places-none (line_of c.args.known.now) c.args.block.now.first c.args.out.now.items;
}

pub loop-place-preserved : goal.loop-place-preserved
loop-place-preserved c =
    let k = c.args.known.now in
    let so = c.loop-place.invariant in
    let begun : c.args.block.now.first ≤ c.loop-place.place = omega (arith, so.block.begun, so.first) in
    record {
      past = c.in_ok-entry.ensures.past;
      block = c.in_ok-put_step.ensures.block;
      whole = c.in_ok-put_step.ensures.whole;
      first = c.in_ok-put_step.ensures.first ∙ so.first;
      text = places-behind (line_of k) c.args.block.now.first c.loop-place.place _ _ _ begun so.text c.in_ok-put_step.ensures.text;
    }

pub returns-clause-past : goal.returns-clause-past
returns-clause-past c =
    let last : c.loop-place.place ≡ c.args.end = omega (arith, c.loop-place.auto.place-end, c.loop-place-test.false) in
    subst (λ (place : ℕ). IsPast c.args.known.now place c.loop-place.past) last c.loop-place.invariant.past

pub returns-clause-block : goal.returns-clause-block
returns-clause-block c =
    let last : c.loop-place.place ≡ c.args.end = omega (arith, c.loop-place.auto.place-end, c.loop-place-test.false) in
    subst (λ (place : ℕ). IsBlock c.args.known.now place c.loop-place.block) last c.loop-place.invariant.block
