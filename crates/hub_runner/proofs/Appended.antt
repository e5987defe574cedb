-- A text to which something was appended, and then some more.
use Rattle.std.proofs.Common.{◌≡◌, ◌∙◌, ◌++◌, ℕ, List, ap, append_assoc}

pub after : (old mid new text : List ℕ) → mid ≡ old ++ text → (rest : List ℕ) × (new ≡ mid ++ rest) → (rest : List ℕ) × (new ≡ old ++ rest)
after old mid new text is (rest, then) = (text ++ rest, then ∙ ap (λ xs. xs ++ rest) is ∙ append_assoc old text rest)
