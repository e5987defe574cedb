use Rattle.std.proofs.Common.{◌≡◌, ◌++◌, drop}
use Rattle.std.specs.List.{flat_map}
use Rattle.hub_page.specs.Stalls.{call_of}
use Rattle.hub_page.proofs.stalls.put_stall.Given as goal

abbrev pub invariant-loop-own : goal.invariant-loop-own
invariant-loop-own l =
    l.out.items ++ flat_map (call_of l.stall) (drop l.own-index l.stall.stalled.now)
    ≡ l.fn.out.items ++ flat_map (call_of l.stall) l.stall.stalled.now
