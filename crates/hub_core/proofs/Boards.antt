-- A board whose port was written twice.
use Rattle.std.proofs.Common.{◌≡◌, ◌-◌, ap, ◌∙◌, arith}
use Rattle.std.proofs.lemmas.List.{get_or-set_same, set-set}
use Rattle.hub_base.specs.declared.value.Port.{Port}
use Rattle.hub_parts.specs.Records.{Lists, PortLists}
use Rattle.hub_base.specs.declared.value.Value.{Value}
use Rattle.hub_parts.specs.Lists.{IsMade, port_at, with_port, no_port, pushed, popped}

pub with_port-twice : (b : Lists) (p : Port) (q r : PortLists) → with_port (with_port b p q) p r ≡ with_port b p r
with_port-twice b p q r = ap (λ ps. record b { ports = ps }) (set-set b.ports (p.0 - 1) q r)

pub port_at-with_port : (b : Lists) (p : Port) (q : PortLists) → IsMade b p → port_at (with_port b p q) p ≡ q
port_at-with_port b p q made = get_or-set_same b.ports (p.0 - 1) q no_port (omega (arith, made.0, made.1))

-- the oldest value leaves the port, and then a new one comes
pub pushed-popped : (b c d : Lists) (p : Port) (u : Value) → IsMade b p → c ≡ with_port b p (popped (port_at b p))
    → d ≡ with_port c p (pushed u (port_at c p)) → d ≡ with_port b p (pushed u (popped (port_at b p)))
pushed-popped b c d p u made left push =
    push ∙ ap (λ x. with_port x p (pushed u (port_at x p))) left
    ∙ ap (λ q. with_port (with_port b p (popped (port_at b p))) p (pushed u q)) (port_at-with_port b p (popped (port_at b p)) made)
    ∙ with_port-twice b p (popped (port_at b p)) (pushed u (popped (port_at b p)))
