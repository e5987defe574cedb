use Rattle.std.proofs.Common.{◌∙◌, ap, sym, arith, subst, ◌<◌, slice_get}
use Rattle.hub_parts.specs.declared.tickets.LastCall.{LastCall}
use Rattle.hub_parts.proofs.Opened.{told_below, IsBelow, case_in, case_told, place_read}
use Rattle.hub_parts.proofs.tickets.Tickets.case.Goals as goal

pub index-requires : goal.index-requires
index-requires c =
    let owner = rw (← c.self.view_is) at c.requires in
    let within : c.args.waiter.pid.0 < c.self.inside.procs =
    subst (IsBelow c.self.inside.procs) owner
    (told_below c.self.inside.calls.items c.self.inside.opened.items c.self.inside.procs c.args.waiter.ticket c.self.invariant.below) in
    omega (arith, c.self.invariant.places)

pub returns : goal.returns
returns c =
    let owner = rw (← c.self.view_is) at c.requires in
    let within : c.args.waiter.pid.0 < c.self.inside.procs =
    subst (IsBelow c.self.inside.procs) owner
    (told_below c.self.inside.calls.items c.self.inside.opened.items c.self.inside.procs c.args.waiter.ticket c.self.invariant.below) in
    rw (← c.self.view_is)
    (c.case_of.ensures
    ∙ ap (λ (l : LastCall). slice_get l.cases.items c.args.waiter.case)
    (place_read c.self.inside.calls.items c.args.waiter.pid.0 c.index.result.now c.index.ensures (omega (arith, c.self.invariant.places)))
    ∙ ap (case_in c.self.inside.calls.items c.args.waiter.case) (sym owner)
    ∙ sym (case_told c.self.inside.calls.items c.self.inside.opened.items c.args.waiter.ticket c.args.waiter.case))
