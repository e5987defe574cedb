-- An answer that is said piece by piece.
use Rattle.std.proofs.Common.{◌≡◌, ℕ, ◌-◌, List, [], ◌∷◌, ◌++◌, arith, length, take, drop, ap, ◌∙◌, sym, subst, append_assoc, append-nil}
use Rattle.std.proofs.Common.{take-append-drop}
use Rattle.std.proofs.lemmas.List.{take_rest}
use Rattle.hub_replay.specs.Answers.{IsWhole}
use Rattle.hub_replay.specs.Serve.{HasBegun}
use Rattle.hub_replay.specs.Talks.{Stays, Grows, IsAnswer, Spoken}

-- n more bytes were taken, and the slice behind them is left
pub taken-more : (all taken rest : List ℕ) (n : ℕ) → all ≡ taken ++ rest → all ≡ (taken ++ take n rest) ++ take (length rest - n) (drop n rest)
taken-more all taken rest n is =
    is ∙ ap (λ l. taken ++ l) (sym (take-append-drop n rest)) ∙ sym (append_assoc taken (take n rest) (drop n rest))
    ∙ ap (λ l. (taken ++ take n rest) ++ l) (sym (take_rest rest n))

pub grows-more : (A B C : List ℕ → Type 0) (xs ys : List ℕ) → Grows A B xs → Grows B C ys → Grows A C (xs ++ ys)
grows-more A B C xs ys f g = λ bytes h. let P : List ℕ → Type 0 = C in subst P (append_assoc bytes xs ys) (g (bytes ++ xs) (f bytes h))

pub grows-stays : (A B C : List ℕ → Type 0) (xs : List ℕ) → Grows A B xs → Stays B C → Grows A C xs
grows-stays A B C xs f g = λ bytes h. g (bytes ++ xs) (f bytes h)

-- nothing was added
pub grows-none : (A B : List ℕ → Type 0) (xs : List ℕ) → length xs ≡ 0 → Grows A B xs → Stays A B
grows-none A B [] none f = λ bytes h. let P : List ℕ → Type 0 = B in subst P (append-nil bytes) (f bytes h)
grows-none A B (x ∷ xs) none f = absurd (omega arith)

module _ (Heard Said Heard' Said' : List ℕ → Type 0) (text taken rest : List ℕ) (answer : IsAnswer Heard Said text) (is : text ≡ taken ++ rest)
    (grew : Grows Said Said' taken) (deaf : Stays Heard Heard') where
  left-whole : IsWhole answer.heard ((answer.said ++ taken) ++ rest)
  left-whole = let P : List ℕ → Type 0 = λ l. IsWhole answer.heard l in
      subst P (ap (λ l. answer.said ++ l) is ∙ sym (append_assoc answer.said taken rest)) answer.holds

  left : {Holds : List ℕ → List ℕ → Type 0} → Holds answer.heard (answer.said ++ taken) → Spoken Heard' Said' Holds
  left holds = record {
    heard = answer.heard;
    said = answer.said ++ taken;
    is_heard = deaf answer.heard answer.is_heard;
    is_said = grew answer.said answer.is_said;
    holds = holds;
  }

  -- what is left is all that is still to be said
  pub answer-left : IsAnswer Heard' Said' rest
  answer-left = left left-whole

  -- and what was said is a beginning
  pub answer-begun : HasBegun Heard' Said'
  answer-begun = left (rest, left-whole)
