use Rattle.std.proofs.Common.{◌≡◌, ◌+◌, ℕ, zero, suc, refl, replicate, slice_index}
use Rattle.hub_base.specs.declared.limits.TheConstants.{MOST_PORTS}
use Rattle.hub_cut.proofs.totals.no_bases.Goals as goal

zero_at : (k n : ℕ) → slice_index (replicate k 0) n ≡ 0
zero_at zero n = refl
zero_at (suc k) zero = refl
zero_at (suc k) (suc n) = zero_at k n

pub returns : goal.returns
returns c = λ n. zero_at (MOST_PORTS + 1) n
