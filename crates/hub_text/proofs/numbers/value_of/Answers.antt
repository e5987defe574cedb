use Rattle.std.proofs.Common.{◌≡◌, ◌<◌, ◌+◌, ◌-◌, ◌*◌, sym, ◌∙◌, arith, get_or, true}
use Rattle.std.proofs.lemmas.Grind.{common_steps}
use Rattle.std.specs.Char.{is_ascii_digit}
use Rattle.hub_text.proofs.Valued.{valued-past}
use Rattle.hub_text.proofs.numbers.value_of.Goals as goal

pub returns-then-value-clause-value : goal.returns-then-value-clause-value
returns-then-value-clause-value c =
    let digit : is_ascii_digit (get_or c.args.bytes.now c.loop-byte.byte-index 0) ≡ true = grind (arith, common_steps) in
    let big : c.args.most < c.loop-byte.value * 10 + (get_or c.args.bytes.now c.loop-byte.byte-index 0 - 48) = omega arith in
    sym (c.loop-byte.invariant.same ∙ valued-past c.args.most c.loop-byte.value c.args.bytes.now c.loop-byte.byte-index (omega arith) digit big)

pub returns-in_default-clause-value : goal.returns-in_default-clause-value
returns-in_default-clause-value c =
    let digit : is_ascii_digit (get_or c.args.bytes.now c.loop-byte.byte-index 0) ≡ true = grind (arith, common_steps) in
    let big : c.args.most < c.loop-byte.value * 10 + (get_or c.args.bytes.now c.loop-byte.byte-index 0 - 48) = omega arith in
    sym (c.loop-byte.invariant.same ∙ valued-past c.args.most c.loop-byte.value c.args.bytes.now c.loop-byte.byte-index (omega arith) digit big)

pub returns-in_default-2-clause-value : goal.returns-in_default-2-clause-value
returns-in_default-2-clause-value c =
    let digit : is_ascii_digit (get_or c.args.bytes.now c.loop-byte.byte-index 0) ≡ true = grind (arith, common_steps) in
    let big : c.args.most < c.loop-byte.value * 10 + (get_or c.args.bytes.now c.loop-byte.byte-index 0 - 48) = omega arith in
    sym (c.loop-byte.invariant.same ∙ valued-past c.args.most c.loop-byte.value c.args.bytes.now c.loop-byte.byte-index (omega arith) digit big)
