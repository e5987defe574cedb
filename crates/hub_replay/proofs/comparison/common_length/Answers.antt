use Rattle.std.proofs.Common.{◌==◌, ℕ, ◌∙◌, sym, arith, drop}
use Rattle.std.proofs.lemmas.Bool.{ne_eqb}
use Rattle.std.proofs.lemmas.List.{length-drop}
use Rattle.std.proofs.lemmas.List.Sums.{common_prefix_len-le, common_prefix_len-drop_no}
use Rattle.hub_replay.proofs.Comparing.{length-common, length-common-whole}
use Rattle.hub_replay.proofs.comparison.common_length.Goals as goal

pub returns-then-a-place : goal.returns-then-a-place
returns-then-a-place c =
    let a = c.args.a.now in
    let b = c.args.b.now in
    let place = c.loop-place.place in
    let none = common_prefix_len-drop_no (λ (x : ℕ) (y : ℕ). x == y) a b place 0 0 (omega arith) (omega arith) (ne_eqb _ _ c.if-a-place.true) in
    omega (arith, length-common a b, c.loop-place.invariant, none)

pub returns : goal.returns
returns c =
    let a = c.args.a.now in
    let b = c.args.b.now in
    let place = c.loop-place.place in
    let rest = common_prefix_len-le (λ (x : ℕ) (y : ℕ). x == y) (drop place a) (drop place b) in
    let first = rest.0 in
    let second = rest.1 in
    omega (arith, length-common a b, c.loop-place.invariant, first, second, length-drop place a, length-drop place b)

pub returns-then-starts_with : goal.returns-then-starts_with
returns-then-starts_with c = sym (length-common-whole c.args.a.now c.args.b.now (sym c.starts_with.ensures.value ∙ c.if-starts_with.true))
