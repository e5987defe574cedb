use Rattle.std.proofs.Common.{◌∙◌, arith}
use Rattle.hub_text.proofs.QuickLines.{stands-word}
use Rattle.hub_text.proofs.standing.behind_word.Goals as goal

pub returns-then-from_le_bytes : goal.returns-then-from_le_bytes
returns-then-from_le_bytes c =
    stands-word c.args.bytes.now c.args.start c.args.word.now c.from_le_bytes.result (omega arith) c.told-word (λ i. omega (arith, c.type_inv.bytes i))
    c.fits-word c.from_le_bytes.ensures (c.if-from_le_bytes.true ∙ c.from_le_bytes-2.ensures)
