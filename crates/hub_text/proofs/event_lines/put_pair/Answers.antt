use Rattle.std.proofs.Common.{◌≡◌, ◌<◌, ◌/◌, ◌%◌, ℕ, List, [], ◌∷◌, get_or, ◌+◌, ◌*◌, subst, refl}
use Rattle.hub_text.specs.declared.event_lines.TheConstants.{PAIRS}
use Rattle.hub_text.specs.Writing.{Puts, pair}
use Rattle.itoa.proofs.Decimal.{PAIRS_at}
use Rattle.hub_text.proofs.event_lines.put_pair.Goals as goal

-- the table has the two digits of each number below 100
pairs_at : (n : ℕ) → n < 100 → (get_or PAIRS (n * 2) 0 ≡ 48 + n / 10) × (get_or PAIRS (n * 2 + 1) 0 ≡ 48 + n % 10)
pairs_at = PAIRS_at

pub returns : goal.returns
returns c =
    let digits = pairs_at c.args.n c.requires.below in
    let is : get_or PAIRS (c.args.n * 2) 0 ∷ get_or PAIRS (c.args.n * 2 + 1) 0 ∷ [] ≡ pair c.args.n = rw (digits.0, digits.1) refl in
    subst (λ (ds : List ℕ). Puts c.args.out.now c.put.new.out c.args.at ds 2 c.put.result) is c.put.ensures
