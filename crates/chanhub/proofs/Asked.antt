-- Two words ask for a replay exactly where the second is `replay`; of two or more the second is the command.
use Rattle.std.proofs.Common.{◌≡◌, ℕ, ◌≤◌, ◌<◌, ◌↔◌, Bool, IsTrue, List, [], ◌∷◌, length, map, get_or, codes, sym, ap, ◌∙◌, arith, Some}
use Rattle.std.specs.Str.{bytes_eq}
use Rattle.std.proofs.lemmas.Slice.Eq.{bytes_eq-Decides}
use Rattle.chanhub.specs.Words.{AsksFor, AsksForReplay}

second : (name text : List ℕ) → AsksForReplay (name ∷ text ∷ []) → text ≡ codes "replay"
second name text (other, same) = cc

two : (name text : List ℕ) (eq : Bool) → eq ≡ bytes_eq text (codes "replay") → IsTrue eq ↔ AsksForReplay (name ∷ text ∷ [])
two name text eq is =
    let decides = bytes_eq-Decides text (codes "replay") in
    (λ yes. (name, ap (λ word. name ∷ word ∷ []) (decides.0 (sym is ∙ yes))), λ asks. is ∙ decides.1 (second name text asks))

module _ {A : Type 0} (text_of : A → List ℕ) where
  pub two-ask : (words : List A) (word : A) (text : List ℕ) (eq : Bool) → 2 ≤ length words → length words < 3 → word ≡ get_or words 1 word →
      text ≡ text_of word → eq ≡ bytes_eq text (codes "replay") → IsTrue eq ↔ AsksForReplay (map text_of words)
  two-ask [] word text eq least below is read compared = absurd (omega arith)
  two-ask (name ∷ []) word text eq least below is read compared = absurd (omega arith)
  two-ask (name ∷ other ∷ []) word text eq least below is read compared =
      two (text_of name) (text_of other) eq (compared ∙ ap (λ t. bytes_eq t (codes "replay")) (read ∙ ap text_of is))
  two-ask (name ∷ other ∷ third ∷ more) word text eq least below is read compared = absurd (omega arith)

  pub second-asks : (words : List A) (word : A) (text : List ℕ) → 2 ≤ length words → word ≡ get_or words 1 word → text ≡ text_of word →
      AsksFor text (map text_of words)
  second-asks [] word text least read is = absurd (omega arith)
  second-asks (name ∷ []) word text least read is = absurd (omega arith)
  second-asks (name ∷ other ∷ more) word text least read is = ap (λ t. Some t) (sym (is ∙ ap text_of read))
