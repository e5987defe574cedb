use Rattle.std.proofs.Common.{◌≡◌, ◌<◌, ◌+◌, ◌*◌, ◌/◌, ◌%◌, ℕ, arith, replicate, set, subst}
use Rattle.hub_base.specs.declared.limits.TheConstants.{MOST_VALUE_BYTES}
use Rattle.hub_text.proofs.QuickLines.{Decoded, decoded-push, decoded-value, mark-stands}
use Rattle.hub_text.proofs.standing.bytes_at.Goals as goal

pub loop-len-init : goal.loop-len-init
loop-len-init c =
    let none : c.args.start + 1 ≡ c.args.start + 1 + 2 * 0 = omega arith in
    record {
      so_far = subst (λ (e : ℕ). Decoded c.args.bytes.now c.args.start 0 (replicate MOST_VALUE_BYTES 0) e) none
          (mark-stands c.args.bytes.now c.args.start c.requires.line c.requires.start c.requires.mark);
      most = omega arith;
    }

pub loop-len-preserved : goal.loop-len-preserved
loop-len-preserved c =
    let so = c.loop-len in
    let end : ℕ = c.args.start + 1 + 2 * so.len in
    let byte : ℕ = c.in-Some.byte in
    let digits = c.in-Some.ensures in
    let room : so.len < MOST_VALUE_BYTES = omega (arith, c.loop-len-test.true, c.min-most.ensures) in
    let whole : byte / 16 * 16 + byte % 16 ≡ byte = omega arith in
    let further : end + 2 ≡ c.args.start + 1 + 2 * (so.len + 1) = omega arith in
    let pushed = decoded-push c.args.bytes.now c.args.start so.len so.places end (byte / 16) (byte % 16) c.requires.line so.invariant.so_far
    room (let small = c.in-Some.byte in omega arith) digits.0 (omega arith) digits.1 in
    record {
      so_far = subst (λ (e : ℕ). Decoded c.args.bytes.now c.args.start (so.len + 1) (set so.places so.len byte) e) further
          (subst (λ (b : ℕ). Decoded c.args.bytes.now c.args.start (so.len + 1) (set so.places so.len b) (end + 2)) whole pushed);
      most = omega (arith, c.loop-len-test.true);
    }

pub of_places-requires-clause-zeros : goal.of_places-requires-clause-zeros
of_places-requires-clause-zeros c = c.loop-len.invariant.so_far.behind

pub returns : goal.returns
returns c edition has =
    let so = c.loop-len in
    decoded-value edition c.args.bytes.now c.args.start so.len so.places (c.args.start + 1 + 2 * so.len) c.of_places.result has so.invariant.so_far
    c.of_places.ensures.is
