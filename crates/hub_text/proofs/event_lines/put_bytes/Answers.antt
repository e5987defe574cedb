use Rattle.std.proofs.Common.{◌≡◌, ◌≤◌, ◌*◌, ◌++◌, ◌∷◌, ◌∙◌, ℕ, List, [], length, take, ap, append_assoc, arith}
use Rattle.std.proofs.lemmas.Slice.{take-put_mid}
use Rattle.hex.proofs.HexLemmas.{length-encode_with}
use Rattle.hex.specs.Hex.{encode_lower}
use Rattle.hub_text.proofs.event_lines.put_bytes.Goals as goal

pub returns : goal.returns
returns c =
    let bytes : List ℕ = c.as_bytes-bytes.result.now in
    let mark = c.put-first.ensures in
    let written : c.encode_to_slice.new.output ≡ encode_lower bytes = c.in-Ok.ensures.written in
    let count : length (c.encode_to_slice.new.output) ≡ 2 * length bytes = ap length written ∙ length-encode_with _ bytes in
    let inside : c.put-first.result ≤ length c.put-first.new.out = omega arith in
    record {
      put = take-put_mid c.put-first.result _ c.put-first.new.out c.encode_to_slice.new.output _ (omega (arith, count)) inside
          ∙ ap (λ xs. xs ++ c.encode_to_slice.new.output) mark.put
          ∙ append_assoc (take c.args.at c.args.out.now) (35 ∷ []) c.encode_to_slice.new.output
          ∙ ap (λ ds. take c.args.at c.args.out.now ++ (35 ∷ ds)) (written ∙ ap encode_lower c.as_bytes-bytes.ensures.bytes);
      within = omega (arith, mark.within, c.as_bytes-bytes.ensures.few);
    }
