use Rattle.std.proofs.Common.{Bool, true, cond, [], ◌*◌, ◌==◌, ◌&&◌, Ok, Err, Result, subst}
use Rattle.std.specs.Prelude.{nat_le, MatchResult}
use Rattle.std.specs.List.{list_all}
use Rattle.std.specs.Option.{option_map}
use Rattle.hex.specs.declared.error.FromHexError.{FromHexError}
use Rattle.hex.specs.Hex.{decode_of, decode_sized}
use Rattle.hex.proofs.HexLemmas.{decode_of-ok}
use Rattle.hub_base.specs.Lines.{is_hex, decoded, bytes_value}
use Rattle.hub_base.specs.Value.{saying}
use Rattle.std.proofs.Common.{refl, ap, sym, arith, ◌∙◌, ◌≡◌, ◌≤◌, ◌<◌, ℕ, List, Option, Some, None, length, take, drop, replicate, ◌++◌, ◌/◌}
use Rattle.std.specs.Prelude.{IfSome, IsNone, ◌↔◌}
use Rattle.std.proofs.lemmas.Grind.{common_steps}
use Rattle.std.proofs.Math.Seq.{take-append_seam}
use Rattle.hub_base.specs.declared.limits.TheConstants.{MOST_VALUE_BYTES}
use Rattle.hub_base.specs.declared.value.Value.{Value}
use Rattle.hub_base.specs.Value.{bytes_of}
use Rattle.hub_base.proofs.ValueFields.{decodes-content}
use Rattle.hub_text.proofs.values.decode.Goals as goal

-- what is decoded into room for half as many bytes is what is decoded
sized : (s : List ℕ) → decode_sized s (length s / 2) ≡ decode_of s
sized s = let same : (length s / 2 == length s / 2) ≡ true = grind (arith, common_steps) in rw same refl

-- digits are decoded to the value that they spell
decodes : (digits out : List ℕ) (n : ℕ) (done : Result (Unit {0}) FromHexError) (v : Value) → list_all is_hex digits ≡ true
    → length digits ≤ 2 * MOST_VALUE_BYTES → n ≡ length digits / 2
    → MatchResult (decode_sized digits n) (λ bytes. (done ≡ Ok tt) × (out ≡ bytes)) (λ e. done ≡ Err e) → done ≡ Ok tt
    → (length out ≡ length digits / 2 → v ≡ bytes_of out) → Some v ≡ option_map saying (bytes_value digits)
decodes digits out n done v hex short half told ok is =
    let all : MatchResult (decode_of digits) (λ bytes. (done ≡ Ok tt) × (out ≡ bytes)) (λ e. done ≡ Err e) =
    subst (λ (x : Result (List ℕ) FromHexError). MatchResult x (λ bytes. (done ≡ Ok tt) × (out ≡ bytes)) (λ e. done ≡ Err e))
    (ap (decode_sized digits) half ∙ sized digits) told in
    let fits : nat_le (length digits) (2 * MOST_VALUE_BYTES) ≡ true = grind (arith, common_steps) in
    whole (decode_of digits) refl all
    ∙ ap (option_map saying) (sym (ap (λ b. cond (b && nat_le (length digits) (2 * MOST_VALUE_BYTES)) (decoded (decode_of digits)) None) hex
    ∙ ap (λ b. cond (true && b) (decoded (decode_of digits)) None) fits)) where
      whole : (d : Result (List ℕ) FromHexError) → decode_of digits ≡ d
          → MatchResult d (λ bytes. (done ≡ Ok tt) × (out ≡ bytes)) (λ e. done ≡ Err e) → Some v ≡ option_map saying (decoded (decode_of digits))
      whole (Err e) was all = cc
      whole (Ok bs) was all =
          let count = (decode_of-ok digits bs was).2 in let same = ap length all.1 in
          ap Some (is (omega (arith, count, same)) ∙ ap bytes_of all.1) ∙ sym (ap (λ x. option_map saying (decoded x)) was)

-- few bytes are a value
value-of : (r : Option Value) (bs : List ℕ) → IfSome r (λ v. v ≡ bytes_of bs) → (IsNone r ↔ (MOST_VALUE_BYTES < length bs))
    → length bs ≤ MOST_VALUE_BYTES → r ≡ Some (bytes_of bs)
value-of None bs is none few = let many = none.0 refl in absurd (omega (arith, few, many))
value-of (Some v) bs is none few = ap Some is

pub returns-in-Ok : goal.returns-in-Ok
returns-in-Ok c =
    let out = c.decode_to_slice.new.out in
    let short = c.if-digits.false in
    let value = c.decode_to_slice.ensures.value in
    let small = decodes-content c.args.digits.now out _ c.decode_to_slice.result (omega arith) (grind (arith, common_steps)) value c.in-Ok.is in
    let back : take (length c.args.digits.now / 2) (out ++ drop (length c.args.digits.now / 2) (replicate {A = ℕ} MOST_VALUE_BYTES 0)) ≡ out =
    ap (λ n. take n (out ++ drop (length c.args.digits.now / 2) (replicate {A = ℕ} MOST_VALUE_BYTES 0))) (sym small.0) ∙ take-append_seam out _ in
    value-of c.bytes.result _ c.bytes.ensures.is c.bytes.ensures.none (let few = small.1.0 in grind (arith, common_steps))
    ∙ ap (λ bs. Some (bytes_of bs)) back
    ∙ decodes c.args.digits.now out _ c.decode_to_slice.result (bytes_of out) c.requires (omega arith) (grind (arith, common_steps))
    value c.in-Ok.is (λ here. refl)
