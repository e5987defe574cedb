use Rattle.std.proofs.Common.{ℕ, List, map, take}
use Rattle.hub_cut.specs.Texts.{IsAt}
use Rattle.chanhub_tool.specs.Files.{Hold}
use Rattle.chanhub_tool.proofs.commands.chain.check.Given as goal

abbrev pub invariant-loop-file : goal.invariant-loop-file
invariant-loop-file g l =
    (texts : List (List ℕ)) → Hold (map (λ f. g.S.Shelf.gives l.shelf f.now) l.files) texts → IsAt l.chain (take l.file-index texts)
