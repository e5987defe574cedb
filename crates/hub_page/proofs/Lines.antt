-- The parts of a sketch.
use Rattle.std.proofs.Common.{◌≡◌, ℕ, ◌+◌, List, ◌++◌, ap, ◌∙◌, append_assoc}
use Rattle.hub_base.specs.Entry.{Entry}
use Rattle.hub_story.specs.declared.told.Told.{Told}
use Rattle.hub_base.specs.declared.limits.TheConstants.{MOST_PORTS}
use Rattle.hub_page.specs.Sketch.{ports_below, ports_words}

pub four-parts : (start a b c d one two three four : List ℕ) → one ≡ start ++ a → two ≡ one ++ b → three ≡ two ++ c → four ≡ three ++ d →
    four ≡ start ++ (a ++ b ++ c ++ d)
four-parts start a b c d one two three four first second third fourth =
    fourth ∙ ap (λ l. l ++ d) (third ∙ ap (λ l. l ++ c) (second ∙ ap (λ l. l ++ b) first)) ∙ simp append_assoc

-- those below the last number are all
pub all-ports : (es : List Entry) (all : List Told) (first end count : ℕ) (start now : List ℕ) → count ≡ MOST_PORTS + 1 →
    now ≡ start ++ ports_below es all first end count → now ≡ start ++ ports_words es all first end
unfolding ports_words
all-ports es all first end count start now last is = is ∙ ap (λ n. start ++ ports_below es all first end n) last
