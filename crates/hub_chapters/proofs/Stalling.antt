-- The stall rule, by whether everyone waits.
use Rattle.hub_laws.proofs.Prelude.{Bool, [], ◌++◌, Some, cond, filter_map, Change, tells}
use Rattle.hub_base.specs.declared.event.What.TheVariants as what

-- it is what `stalls` says of these changes
abbrev pub stalls_if : Bool → Change → Change
stalls_if b c =
    let stalled : Change = record {
      state = record c.state { parked = [] };
      events = c.events ++ filter_map (λ call. Some (tells call.pid what.Stalled)) c.state.parked;
    } in
    cond b stalled c
