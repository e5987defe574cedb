use Rattle.std.proofs.Common.{◌≡◌, ◌∙◌, ap, sym, arith, slice_get, Some}
use Rattle.std.specs.Option.{option_map}
use Rattle.hub_parts.specs.Records.{Ticketed}
use Rattle.hub_parts.specs.Lists.{shown_call}
use Rattle.hub_parts.proofs.Opened.{placed_below, placed_call, place_read}
use Rattle.hub_parts.specs.declared.tickets.LastCall.{LastCall}
use Rattle.hub_parts.proofs.tickets.Tickets.at.Goals as goal

pub index-requires : goal.index-requires
index-requires c =
    let e : slice_get c.self.inside.opened.items c.args.place ≡ Some c.in-Some.pid =
    ap (λ xs. slice_get xs c.args.place) (sym c.deref.ensures.value) ∙ sym c.in-Some.ensures in
    let below = placed_below c.self.inside.opened.items c.self.inside.procs c.args.place c.in-Some.pid c.self.invariant.below e in
    omega (arith, c.self.invariant.places)

pub returns : goal.returns
returns c =
    let e : slice_get c.self.inside.opened.items c.args.place ≡ Some c.in-Some.pid =
    ap (λ xs. slice_get xs c.args.place) (sym c.deref.ensures.value) ∙ sym c.in-Some.ensures in
    let below = placed_below c.self.inside.opened.items c.self.inside.procs c.args.place c.in-Some.pid c.self.invariant.below e in
    let read = place_read c.self.inside.calls.items c.in-Some.pid c.index.result.now c.index.ensures (omega (arith, c.self.invariant.places)) in
    rw (← c.self.view_is)
    (ap (λ cs. Some (shown_call (record { 0 = c.in-Some.pid }, cs))) c.copy_cases.ensures
    ∙ ap (λ (last : LastCall). Some (record { pid = record { 0 = c.in-Some.pid }; cases = last.cases.items })) read
    ∙ sym (ap (option_map (λ (w : Ticketed). w.call)) (placed_call c.self.inside.calls.items c.self.inside.opened.items c.args.place c.in-Some.pid e)))
