-- What is appended piece by piece.
use Rattle.std.proofs.Common.{◌≡◌, ℕ, List, ◌++◌, ap, ◌∙◌}
use Rattle.std.proofs.Common.{append_assoc}

-- two pieces
pub two : {A : Type 0} (out new x y : List A) → new ≡ out ++ x ++ y → new ≡ out ++ (x ++ y)
two out new x y is = is ∙ append_assoc out x y

-- one more piece, and two more
pub one-more : {A : Type 0} (out was new x y : List A) → was ≡ out ++ x → new ≡ was ++ y → new ≡ out ++ (x ++ y)
one-more out was new x y so is = is ∙ ap (λ l. l ++ y) so ∙ append_assoc out x y

pub two-more : {A : Type 0} (out was new x y z : List A) → was ≡ out ++ x → new ≡ was ++ y ++ z → new ≡ out ++ (x ++ y ++ z)
two-more out was new x y z so is =
    is ∙ ap (λ l. l ++ y ++ z) so ∙ ap (λ l. l ++ z) (append_assoc out x y) ∙ append_assoc out (x ++ y) z

-- four texts behind another
pub four-behind : (before a b c d : List ℕ) → before ++ a ++ b ++ c ++ d ≡ before ++ (a ++ b ++ c ++ d)
four-behind before a b c d = simp append_assoc
