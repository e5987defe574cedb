-- Pieces that are written one behind the other.
use Rattle.std.proofs.Common.{◌≡◌, ℕ, ◌+◌, ◌<◌, suc, sym, ap, ◌∙◌, arith, List, ◌++◌, length, get_or, drop, drop-cons, append_assoc}
use Rattle.std.proofs.Common.{Option, Bor, Result, Ok, Err, IfErr}
use Rattle.std.proofs.KnownBytes.{Appends-trans}
use Rattle.std.specs.Io.KnownBytes.{Appends}
use Rattle.hub_replay.specs.Devices.{AppendsBeginning}
use Rattle.hub_replay.specs.FaultLines.{joined}

module _ (pieces : List (Bor (List ℕ))) (i : ℕ) (d : Bor (List ℕ)) (piece : List ℕ) (at : piece ≡ (get_or pieces i d).now) (below : i < length pieces) where
  here : joined (drop i pieces) ≡ piece ++ joined (drop (i + 1) pieces)
  here =
      let next : suc i ≡ i + 1 = omega arith in
      ap joined (drop-cons pieces i d below) ∙ ap (λ n. (get_or pieces i d).now ++ joined (drop n pieces)) next
      ∙ ap (λ l. l ++ joined (drop (i + 1) pieces)) (sym at)

  -- one more piece was written
  pub piece-written : (written : List ℕ) → joined pieces ≡ written ++ joined (drop i pieces) →
      joined pieces ≡ (written ++ piece) ++ joined (drop (i + 1) pieces)
  piece-written written split =
      split ∙ ap (λ l. written ++ l) here ∙ sym (append_assoc written piece (joined (drop (i + 1) pieces)))

  -- a beginning of one more piece was written
  pub piece-begun : (written : List ℕ) (old mid new : Option (List ℕ)) → joined pieces ≡ written ++ joined (drop i pieces) →
      Appends old mid written → AppendsBeginning mid new piece → AppendsBeginning old new (joined pieces)
  piece-begun written old mid new split appended (front, back, is, added) =
      let left = joined (drop (i + 1) pieces) in (
        written ++ front,
        back ++ left,
        piece-written written split
            ∙ ap (λ l. (written ++ l) ++ left) is
            ∙ ap (λ l. l ++ left) (sym (append_assoc written front back))
            ∙ append_assoc (written ++ front) back left,
        Appends-trans old mid new written front appended added,
      )

pub if_err : {A F : Type 0} (r : Result A F) {P : Type 0} → P → IfErr r (λ _. P)
if_err (Ok x) p = tt
if_err (Err f) p = p
