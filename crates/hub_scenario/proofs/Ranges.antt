-- What the tests of numbers say of them.
use Rattle.std.proofs.Common.{◌≡◌, ◌≤◌, ◌==◌, inl, inr, ℕ, ◌∙◌, ℤ, pos, negsuc, Bool, true, false, ◌&&◌, nat_le, List, None, Some}
use Rattle.std.proofs.Common.{refl, ap, sym, arith, if◌then◌else◌}
use Rattle.std.specs.Cmp.{first_so, second_so}
use Rattle.std.proofs.lemmas.Bool.Decides.{nat_tests}
use Rattle.std.proofs.lemmas.Grind.{common_steps}
use Rattle.toml.specs.Data.{Data, integer, Items, no_items, item}
use Rattle.hub_base.specs.declared.head.Edition.{Edition}
use Rattle.hub_base.specs.declared.head.Edition.TheVariants.{One, Two}
use Rattle.hub_base.specs.declared.limits.TheConstants.{MOST_CAP, MOST_PORTS}
use Rattle.hub_scenario.specs.Causes.{IsWithin, IsEdition, IsCapacity, ArePorts}
use Rattle.hub_scenario.specs.Faults.{cons_some}
use Rattle.hub_scenario.specs.Numbers.{within, edition_of, capacity_of, capacities_of, count_items, ports_of}
use Rattle.hub_scenario.proofs.Shapes.{apart, all_by, all-some, all-none}

-- ---- a number in a range
pub at_most : (a b : ℕ) → nat_le a b ≡ true → a ≤ b
at_most a b h = grind (arith, nat_tests)

in_range : (least most n : ℕ) → least ≤ n → n ≤ most → within least most (pos n) ≡ Some n
in_range least most n low high = grind (arith, nat_tests)

within-case : (least most n m : ℕ) (b : Bool) → (nat_le least n && nat_le n most) ≡ b → (if b then Some n else None) ≡ Some m → IsWithin least most (pos n)
within-case least most n m false is h = absurd (apart m None h refl)
within-case least most n m true is h = (
  n,
  refl,
  at_most least n (first_so (nat_le least n) (nat_le n most) is),
  at_most n most (second_so (nat_le least n) (nat_le n most) is),
)

pub within-some : (least most : ℕ) (z : ℤ) (m : ℕ) → within least most z ≡ Some m → IsWithin least most z
within-some least most (pos n) m h = within-case least most n m (nat_le least n && nat_le n most) refl h
within-some least most (negsuc n) m h = absurd (apart m None h refl)

pub within-none : (least most : ℕ) (z : ℤ) → within least most z ≡ None → IsWithin least most z → ⊥
within-none least most z h (n, is, low, high) =
    apart n (within least most z) (ap (within least most) is ∙ in_range least most n low high) h

-- ---- the edition of a number
numbered : (n m : ℕ) → (n == m) ≡ true → n ≡ m
numbered n m h = grind (arith, common_steps)

edition-case : (n : ℕ) (e : Edition) (a b : Bool) → (n == 1) ≡ a → (n == 2) ≡ b → (if a then Some One else if b then Some Two else None) ≡ Some e
    → IsEdition (pos n)
edition-case n e true b one two h = inl (ap pos (numbered n 1 one))
edition-case n e false true one two h = inr (ap pos (numbered n 2 two))
edition-case n e false false one two h = absurd (apart e None h refl)

pub edition-some : (z : ℤ) (e : Edition) → edition_of z ≡ Some e → IsEdition z
edition-some (pos n) e h = edition-case n e (n == 1) (n == 2) refl refl h
edition-some (negsuc n) e h = absurd (apart e None h refl)

pub edition-none : (z : ℤ) → edition_of z ≡ None → IsEdition z → ⊥
edition-none z h (inl one) = apart One (edition_of (pos 1)) refl (ap edition_of (sym one) ∙ h)
edition-none z h (inr two) = apart Two (edition_of (pos 2)) refl (ap edition_of (sym two) ∙ h)

-- ---- ports
capacity-some : (d : Data) (n : ℕ) → capacity_of d ≡ Some n → IsCapacity d
capacity-some (integer z) n h = (z, refl, within-some 0 MOST_CAP z n h)
capacity-some other n h = absurd (apart n None h refl)

capacity-none : (d : Data) → capacity_of d ≡ None → IsCapacity d → ⊥
capacity-none d h (z, is, in_it) = within-none 0 MOST_CAP z (sym (ap capacity_of is) ∙ h) in_it

capacities-by : (ds : Items) → capacities_of ds ≡ all_by capacity_of ds
capacities-by no_items = refl
capacities-by (item d ds) = ap (cons_some (capacity_of d)) (capacities-by ds)

ports-some-case : (ds : Items) (ns : List ℕ) (b : Bool) → nat_le (count_items ds) MOST_PORTS ≡ b
    → (if b then capacities_of ds else None) ≡ Some ns → ArePorts ds
ports-some-case ds ns false is h = absurd (apart ns None h refl)
ports-some-case ds ns true is h = (
  at_most (count_items ds) MOST_PORTS is,
  all-some capacity_of IsCapacity capacity-some ds ns (sym (capacities-by ds) ∙ h),
)

pub ports-some : (ds : Items) (ns : List ℕ) → ports_of ds ≡ Some ns → ArePorts ds
ports-some ds ns h = ports-some-case ds ns (nat_le (count_items ds) MOST_PORTS) refl h

few : (ds : Items) → count_items ds ≤ MOST_PORTS → ports_of ds ≡ capacities_of ds
few ds h = grind (arith, nat_tests)

pub ports-none : (ds : Items) → ports_of ds ≡ None → ArePorts ds → ⊥
ports-none ds h (count, each) =
    all-none capacity_of IsCapacity capacity-none ds (sym (capacities-by ds) ∙ sym (few ds count) ∙ h) each
