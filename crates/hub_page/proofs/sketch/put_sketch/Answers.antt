use Rattle.std.proofs.Common.{codes}
use Rattle.hub_page.specs.Sketch.{sketch_words, words_of_lanes, words_of_ports}
use Rattle.hub_page.proofs.Lines.{four-parts}
use Rattle.hub_page.proofs.sketch.put_sketch.Goals as goal

pub returns : goal.returns
unfolding sketch_words
returns c =
    let s = c.args.sketch.now in
    four-parts c.args.out.now.items (codes "~") (words_of_lanes s) (words_of_ports s) (codes "\n") _ _ _ _
    c.in_ok-extend_from_slice.ensures.items c.in_ok-put_lanes.ensures c.in_ok-put_ports.ensures c.in_ok-extend_from_slice-2.ensures.items
