-- Two lists of bytes, of which one comes in pieces: how far they agree.
use Rattle.std.proofs.Common.{◌≡◌, ◌≢◌, ℕ, suc, ◌+◌, ◌<◌, ◌≤◌, ◌==◌, Bool, true, false, cond, List, [], ◌∷◌, ◌++◌, length}
use Rattle.std.proofs.Common.{take, drop, refl, sym, ap, subst, ◌∙◌, arith, append_assoc, append-nil, take-append-drop}
use Rattle.std.specs.Prelude.{◌&&◌, nat_eq, nat_lt}
use Rattle.std.specs.List.{common_prefix_len, starts_with}
use Rattle.std.proofs.lemmas.Bool.{eq-eqb, eqb-true, eqb-false, ltb-false, ltb-true}
use Rattle.std.proofs.lemmas.List.{append_cancel_left, drop-drop, drop_all, length-drop, length-take-le}
use Rattle.std.proofs.Math.Seq.{take-add}
use Rattle.hub_replay.specs.Comparing.{Parts, Agrees}
use Rattle.hub_replay.specs.Verify.{common_beginning, newlines_in, line_of_difference}
use Rattle.hub_replay.proofs.Newlines.{newlines_in-append}

-- ---- two lists that part
Parts-append : (xs ys more : List ℕ) → Parts xs ys → Parts (xs ++ more) ys
Parts-append [] ys more h = absurd h
Parts-append (x ∷ xs) [] more h = h
Parts-append (x ∷ xs) (y ∷ ys) more h = h

not_itself : (xs : List ℕ) → Parts xs xs → ⊥
not_itself [] h = h
not_itself (x ∷ xs) h = h refl

parted-common : (b : Bool) (x y : ℕ) (l : List ℕ) → (x == y) ≡ b → x ≢ y → cond b (x ∷ l) [] ≡ []
parted-common true x y l e h = absurd (h (eqb-true x y e))
parted-common false x y l e h = refl

common_beginning-parted : (xs ys : List ℕ) → Parts xs ys → common_beginning xs ys ≡ []
common_beginning-parted [] ys h = absurd h
common_beginning-parted (x ∷ xs) [] h = refl
common_beginning-parted (x ∷ xs) (y ∷ ys) h = parted-common (x == y) x y (common_beginning xs ys) refl h

common_beginning-append : (front xs ys : List ℕ) → common_beginning (front ++ xs) (front ++ ys) ≡ front ++ common_beginning xs ys
common_beginning-append [] xs ys = refl
common_beginning-append (c ∷ front) xs ys =
    ap (λ b. cond b (c ∷ common_beginning (front ++ xs) (front ++ ys)) []) (eq-eqb c c refl)
    ∙ ap (λ l. c ∷ l) (common_beginning-append front xs ys)

common-rest : (parted : Bool) (rest ys : List ℕ) → (parted ≡ false → rest ≡ []) → (parted ≡ true → Parts rest ys) → common_beginning rest ys ≡ []
common-rest true rest ys whole apart = common_beginning-parted rest ys (apart refl)
common-rest false rest ys whole apart = ap (λ l. common_beginning l ys) (whole refl)

-- ---- where they part
-- both begin with k bytes, and part behind them unless the first ends there
record Splits (xs ys : List ℕ) (k : ℕ) : Type 0 where
  pub first : k ≤ length xs
  pub second : k ≤ length ys
  pub same : take k xs ≡ take k ys
  pub apart : k < length xs → Parts (drop k xs) (drop k ys)

splits-by : (b : Bool) (x y : ℕ) (xs ys : List ℕ) → (x == y) ≡ b → Splits xs ys (length (common_beginning xs ys)) →
    Splits (x ∷ xs) (y ∷ ys) (length (cond b (x ∷ common_beginning xs ys) []))
splits-by true x y xs ys e h = record {
  first = (let p = h.first in omega arith);
  second = (let p = h.second in omega arith);
  same = ap (λ c. c ∷ take (length (common_beginning xs ys)) xs) (eqb-true x y e) ∙ ap (λ l. y ∷ l) h.same;
  apart = λ some. h.apart (omega arith);
}
splits-by false x y xs ys e h = record {
  first = omega arith;
  second = omega arith;
  same = refl;
  apart = λ some. eqb-false x y e;
}

splits : (xs ys : List ℕ) → Splits xs ys (length (common_beginning xs ys))
splits [] ys = record { first = omega arith; second = omega arith; same = refl; apart = λ some. absurd (omega arith) }
splits (x ∷ xs) [] = record { first = omega arith; second = omega arith; same = refl; apart = λ some. tt }
splits (x ∷ xs) (y ∷ ys) = splits-by (x == y) x y xs ys refl (splits xs ys)

-- ---- a piece more
-- nothing of the text is behind what agreed
unparted-text : {text bytes : List ℕ} {agreed : ℕ} {parted : Bool} → Agrees text bytes agreed parted → parted ≡ false → text ≡ take agreed bytes
unparted-text {text} {bytes} {agreed} so_far still = so_far.common ∙ ap (λ l. take agreed bytes ++ l) (so_far.whole still) ∙ append-nil (take agreed bytes)

pub agrees-more : {text bytes : List ℕ} {agreed : ℕ} {parted : Bool} (piece : List ℕ) (more : ℕ) → Agrees text bytes agreed parted → parted ≡ false →
    more ≡ length (common_beginning piece (drop agreed bytes)) → Agrees (text ++ piece) bytes (agreed + more) (nat_lt more (length piece))
agrees-more {text} {bytes} {agreed} {parted} piece more so_far still is =
    let P : ℕ → Type 0 = λ k. Splits piece (drop agreed bytes) k in
    let both : Splits piece (drop agreed bytes) more = subst P (sym is) (splits piece (drop agreed bytes)) in
    record {
      rest = drop more piece;
      common = ap (λ l. l ++ piece) (unparted-text so_far still)
          ∙ ap (λ l. take agreed bytes ++ l) (sym (take-append-drop more piece))
          ∙ sym (append_assoc (take agreed bytes) (take more piece) (drop more piece))
          ∙ ap (λ l. (take agreed bytes ++ l) ++ drop more piece) both.same
          ∙ ap (λ l. l ++ drop more piece) (sym (take-add agreed more bytes));
      whole = λ no. drop_all more piece (ltb-false more (length piece) no);
      apart = λ yes. subst (λ (l : List ℕ). Parts (drop more piece) l) (drop-drop more agreed bytes) (both.apart (ltb-true more (length piece) yes));
    }

-- how many bytes of the given ones agree with a piece
pub agreed-within : (bytes : List ℕ) (agreed : ℕ) (piece : List ℕ) (more : ℕ) → agreed ≤ length bytes
    → more ≡ length (common_beginning piece (drop agreed bytes)) → agreed + more ≤ length bytes
agreed-within bytes agreed piece more within is = let both = splits piece (drop agreed bytes) in let fits = both.second in
    omega (arith, fits, is, within, length-drop agreed bytes)

-- ---- the end
-- what agreed is the longest common beginning
common : {text bytes : List ℕ} {agreed : ℕ} {parted : Bool} → Agrees text bytes agreed parted → common_beginning text bytes ≡ take agreed bytes
common {text} {bytes} {agreed} {parted} so_far =
    ap (λ l. common_beginning l bytes) so_far.common
    ∙ ap (λ l. common_beginning (take agreed bytes ++ so_far.rest) l) (sym (take-append-drop agreed bytes))
    ∙ common_beginning-append (take agreed bytes) so_far.rest (drop agreed bytes)
    ∙ ap (λ l. take agreed bytes ++ l) (common-rest parted so_far.rest (drop agreed bytes) so_far.whole so_far.apart)
    ∙ append-nil (take agreed bytes)

-- bytes that part from the text, or go on behind it, are another
pub agrees-other-parted : {text bytes : List ℕ} {agreed : ℕ} {parted : Bool} → Agrees text bytes agreed parted → parted ≡ true → bytes ≢ text
agrees-other-parted {text} {bytes} {agreed} {parted} so_far over same =
    let rests = append_cancel_left (take agreed bytes) (drop agreed bytes) so_far.rest (take-append-drop agreed bytes ∙ same ∙ so_far.common) in
    not_itself so_far.rest (subst (λ (l : List ℕ). Parts so_far.rest l) rests (so_far.apart over))

pub agrees-other-longer : {text bytes : List ℕ} {agreed : ℕ} {parted : Bool} → Agrees text bytes agreed parted → parted ≡ false
    → agreed < length bytes → bytes ≢ text
agrees-other-longer {text} {bytes} {agreed} {parted} so_far still fewer same =
    let size = ap length (same ∙ unparted-text so_far still) in
    let short = length-take-le agreed bytes (omega arith) in
    absurd (omega (arith, size, short))

-- the line in which they differ
pub agrees-line : {text bytes : List ℕ} {agreed : ℕ} {parted : Bool} (newlines : ℕ) → Agrees text bytes agreed parted
    → newlines ≡ newlines_in (take agreed bytes) → newlines + 1 ≡ line_of_difference text bytes
agrees-line {text} {bytes} {agreed} {parted} newlines so_far is =
    let all = ap newlines_in (common so_far) in
    omega (arith, is, all)

-- what agrees has no more newlines than the text
pub agreed-newlines : {text bytes : List ℕ} {agreed : ℕ} {parted : Bool} → Agrees text bytes agreed parted → newlines_in (take agreed bytes) ≤ newlines_in text
agreed-newlines {text} {bytes} {agreed} {parted} so_far =
    let all = ap newlines_in so_far.common ∙ newlines_in-append (take agreed bytes) so_far.rest in
    omega (arith, all)

-- ---- place by place
length-by : (b : Bool) (x : ℕ) (l : List ℕ) (n : ℕ) → length l ≡ n → length (cond b (x ∷ l) []) ≡ cond b (1 + n) 0
length-by true x l n e = omega (arith, e)
length-by false x l n e = refl

-- how many bytes begin both
pub length-common : (xs ys : List ℕ) → length (common_beginning xs ys) ≡ common_prefix_len (λ x y. x == y) xs ys
length-common [] ys = refl
length-common (x ∷ xs) [] = refl
length-common (x ∷ xs) (y ∷ ys) = length-by (x == y) x (common_beginning xs ys) _ (length-common xs ys)

-- ---- all at once
whole-by : (b rest : Bool) (x : ℕ) (l xs : List ℕ) → (b && rest) ≡ true → (rest ≡ true → length l ≡ length xs) → length (cond b (x ∷ l) []) ≡ length (x ∷ xs)
whole-by true rest x l xs e same = ap suc (same e)
whole-by false rest x l xs e same = cc

-- where the second begins with the first, that is what both begin with
pub length-common-whole : (xs ys : List ℕ) → starts_with nat_eq ys xs ≡ true → length (common_beginning xs ys) ≡ length xs
length-common-whole [] ys e = refl
length-common-whole (x ∷ xs) [] e = cc
length-common-whole (x ∷ xs) (y ∷ ys) e = whole-by (x == y) (starts_with nat_eq ys xs) x (common_beginning xs ys) xs e (length-common-whole xs ys)
