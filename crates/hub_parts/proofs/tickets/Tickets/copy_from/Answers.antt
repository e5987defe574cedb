use Rattle.std.proofs.Common.{◌≡◌, ◌≤◌, ◌∙◌, ap, arith, length, refl, sym}
use Rattle.hub_parts.specs.Records.{Calls}
use Rattle.hub_parts.proofs.Copies.{fits-again, kept-whole}
use Rattle.hub_parts.proofs.Room.{count_fits}
use Rattle.hub_parts.proofs.tickets.Tickets.copy_from.Goals as goal

pub copy_opened_over-requires : goal.copy_opened_over-requires
copy_opened_over-requires c =
    let few : length c.other.inside.opened.items ≤ c.other.inside.procs =
    count_fits c.other.inside.opened.items c.other.inside.procs c.other.invariant.distinct c.other.invariant.below in
    let procs : c.self.inside.procs ≡ c.other.inside.procs =
    ap (λ (v : Calls). v.procs) c.self.view_is ∙ c.requires ∙ sym (ap (λ (v : Calls). v.procs) c.other.view_is) in
    omega (arith, few, procs, c.self.invariant.room, ap length c.deref.ensures.value)

pub invariant_of-self : goal.invariant_of-self
invariant_of-self c =
    let procs : c.self.inside.procs ≡ c.other.inside.procs =
    ap (λ (v : Calls). v.procs) c.self.view_is ∙ c.requires ∙ sym (ap (λ (v : Calls). v.procs) c.other.view_is) in
    fits-again c.other.inside _ c.other.invariant procs (c.copy_opened_over.ensures.items ∙ c.deref.ensures.value)
    (omega (arith, c.self.invariant.room, c.copy_opened_over.ensures.room))
    (kept-whole c.copy_calls_over.new.calls c.self.inside.calls.items _
    (omega (
      arith,
      procs,
      c.self.inside.calls.ok,
      ap length (c.copy_calls_over.ensures ∙ c.deref-2.ensures.value),
      c.self.invariant.places,
      c.other.invariant.places,
    ))
    ∙ c.copy_calls_over.ensures ∙ c.deref-2.ensures.value) c.copy_from.ensures refl
