use Rattle.std.proofs.Common.{◌≡◌, take, drop}
use Rattle.hub_base.specs.Lines.{pieces, joins}
use Rattle.hub_text.proofs.fields.cut.Given as goal

abbrev pub invariant-loop-i : goal.invariant-loop-i
invariant-loop-i l = pieces l.mark l.bytes ≡ joins (take l.i l.bytes) (pieces l.mark (drop l.i l.bytes))
