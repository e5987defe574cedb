use Rattle.std.proofs.Common.{◌≡◌, ◌++◌}
use Rattle.std.specs.List.{flat_map, range_with_len}
use Rattle.hub_page.specs.Sketch.{counts_of_port, port_of, port_words}
use Rattle.hub_page.proofs.sketch.put_ports.Given as goal

abbrev pub invariant-loop-number : goal.invariant-loop-number
invariant-loop-number l =
    l.out.items ≡ l.fn.out.items
    ++ flat_map (λ number. port_words (port_of number) (counts_of_port l.sketch (port_of number))) (range_with_len 0 l.number)
