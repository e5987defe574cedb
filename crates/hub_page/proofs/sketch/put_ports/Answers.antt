use Rattle.std.proofs.Common.{◌++◌, ◌∙◌, ap, arith}
use Rattle.hub_page.specs.Known.{entries_of, told_of}
use Rattle.hub_page.specs.Sketch.{counts_of_port, port_of, port_words}
use Rattle.hub_page.proofs.Lines.{all-ports}
use Rattle.hub_page.proofs.Sums.{numbers-behind}
use Rattle.hub_page.proofs.sketch.put_ports.Goals as goal

pub loop-number-preserved : goal.loop-number-preserved
loop-number-preserved c =
    let number = c.loop-number.number in
    numbers-behind (λ number. port_words (port_of number) (counts_of_port c.args.sketch.now (port_of number))) number _ _ _
    c.loop-number.invariant
    (c.in_ok-put_port.ensures ∙ ap (λ counts. c.loop-number.out.items ++ port_words (port_of number) counts) c.port.ensures)

pub returns : goal.returns
returns c =
    let s = c.args.sketch.now in
    all-ports (entries_of s.known.now) (told_of s.known.now) s.block.now.first s.end c.loop-number.number _ _
    (omega (arith, c.loop-number.auto.number-end, c.loop-number-test.false)) c.loop-number.invariant
