-- The choice words of a process. Its generator is xoshiro256++, made of a 64-bit seed by SplitMix64
-- (Blackman and Vigna, "Scrambled linear pseudorandom number generators"), and its words are the
-- generator's 64-bit outputs, in order.
use Rattle.std.specs.Prelude.{ℕ, zero, suc, ◌+◌, List}
use Rattle.rand_xoshiro.specs.SplitMix64.{splitmix_seed}
use Rattle.rand_xoshiro.specs.Xoshiro256.{of_seed, plus_plus}

-- the state of the generator of this seed after j outputs
unfoldable pub generator_at : ℕ → ℕ → List ℕ
generator_at seed zero = of_seed (splitmix_seed 32 seed)
generator_at seed (suc j) = (plus_plus (generator_at seed j)).1

-- output j, counted from 0, of the generator of this seed
unfoldable pub choice_word : ℕ → ℕ → ℕ
choice_word seed j = (plus_plus (generator_at seed j)).0

-- word j, counted from 0, of process p in a scenario with this seed
abbrev pub words_of_process : ℕ → ℕ → ℕ → ℕ
words_of_process seed p j = choice_word (seed + p) j

-- the seed that words come from, and how many of them were drawn
pub record WordsDrawn : Type 0 where
  pub seed : ℕ
  pub drawn : ℕ
