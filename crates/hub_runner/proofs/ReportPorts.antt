-- The list of what the ports carried, port by port.
use Rattle.std.proofs.Common.{◌≡◌, ◌≤◌, ◌+◌, ◌-◌, ◌==◌, ℕ, false, List, [], ◌∷◌, ◌++◌, length, map, take, refl, ap, ◌∙◌, sym, Option, Some, None, arith}
use Rattle.std.specs.Prelude.{slice_get}
use Rattle.std.specs.Option.{option_map}
use Rattle.std.proofs.lemmas.Grind.{common_steps}
use Rattle.std.proofs.lemmas.List.{map-append, take_all}
use Rattle.std.proofs.lemmas.Option.{slice_get_within, slice_get_cases}
use Rattle.hub_base.specs.declared.value.Port.{Port}
use Rattle.hub_base.specs.State.{State, Channel, channel_at}
use Rattle.hub_laws.proofs.Totals.{take_next}
use Rattle.hub_runner.specs.declared.report.PortReport.{PortReport}
use Rattle.hub_runner.specs.Reports.{told_of}

-- what the first k ports carried
pub record PortsSoFar (s : State) (k : ℕ) (ports : List PortReport) : Type 0 where
  pub told : ports ≡ map told_of (take k s.channels)
  pub within : k ≤ length s.channels

-- ports are numbered from 1
channel_of_place : (s : State) (k : ℕ) (p : Port) → p.0 ≡ k + 1 → channel_at s p ≡ slice_get s.channels k
channel_of_place s k p is =
    let some : (p.0 == 0) ≡ false = grind (arith, common_steps) in
    let place : p.0 - 1 ≡ k = omega arith in
    rw (some, place) refl

-- all ports that there are
pub all-ports : (s : State) (k : ℕ) (ports : List PortReport) → PortsSoFar s k ports → length s.channels ≤ k → ports ≡ map told_of s.channels
all-ports s k ports far end = far.told ∙ ap (map told_of) (take_all k s.channels end)

-- one more
pub next-port : (s : State) (k : ℕ) (p : Port) (r : PortReport) (ports : List PortReport) → p.0 ≡ k + 1 → PortsSoFar s k ports
    → Some r ≡ option_map told_of (channel_at s p) → PortsSoFar s (k + 1) (ports ++ r ∷ [])
next-port s k p r ports is far some = by (slice_get s.channels k) refl (some ∙ ap (option_map told_of) (channel_of_place s k p is))
  where
    by : (o : Option Channel) → o ≡ slice_get s.channels k → Some r ≡ option_map told_of o → PortsSoFar s (k + 1) (ports ++ r ∷ [])
    by None here h = cc
    by (Some c) here h =
        let same : r ≡ told_of c = cc in
        record {
          told = rw (take_next s.channels k c (sym here), far.told, same) (sym (map-append told_of (take k s.channels) (c ∷ [])));
          within = omega (arith, slice_get_within s.channels k c (sym here));
        }

-- none more: these are all
pub last-port : (s : State) (k : ℕ) (p : Port) (ports : List PortReport) → p.0 ≡ k + 1 → PortsSoFar s k ports
    → None ≡ option_map told_of (channel_at s p) → ports ≡ map told_of s.channels
last-port s k p ports is far none = by (slice_get s.channels k) refl (none ∙ ap (option_map told_of) (channel_of_place s k p is))
  where
    by : (o : Option Channel) → o ≡ slice_get s.channels k → None ≡ option_map told_of o → ports ≡ map told_of s.channels
    by None here h = all-ports s k ports far (grind (arith, here, slice_get_cases s.channels k))
    by (Some c) here h = absurd (let g : ⊥ = cc in g)
