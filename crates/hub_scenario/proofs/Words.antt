-- The generator of choice words, one output after another.
use Rattle.std.proofs.Common.{◌≡◌, ℕ, suc, ◌+◌, ◌∙◌, List, refl, ap, sym, arith}
use Rattle.rand_xoshiro.specs.SplitMix64.{splitmix_seed}
use Rattle.rand_xoshiro.specs.Xoshiro256.{of_seed, plus_plus}
use Rattle.hub_scenario.specs.ChoiceWords.{generator_at, choice_word}

pub generator_first : (seed : ℕ) → generator_at seed 0 ≡ of_seed (splitmix_seed 32 seed)
unfolding generator_at
generator_first seed = refl

one_more : (seed j : ℕ) → generator_at seed (j + 1) ≡ (plus_plus (generator_at seed j)).1
unfolding generator_at
one_more seed j = let next : j + 1 ≡ suc j = omega arith in rw next refl

output : (seed j : ℕ) → choice_word seed j ≡ (plus_plus (generator_at seed j)).0
unfolding choice_word
output seed j = refl

-- from output j on, the generator gives output j, and then stands at output j + 1
pub generator_next : (seed j : ℕ) (now : List ℕ) (word : ℕ) (next : List ℕ) → now ≡ generator_at seed j → (word, next) ≡ plus_plus now
    → next ≡ generator_at seed (j + 1)
generator_next seed j now word next at step =
    ap (λ p. p.1) step ∙ ap (λ g. (plus_plus g).1) at ∙ sym (one_more seed j)

pub word_drawn : (seed j : ℕ) (now : List ℕ) (word : ℕ) (next : List ℕ) → now ≡ generator_at seed j → (word, next) ≡ plus_plus now → word ≡ choice_word seed j
word_drawn seed j now word next at step =
    ap (λ p. p.0) step ∙ ap (λ g. (plus_plus g).0) at ∙ sym (output seed j)
