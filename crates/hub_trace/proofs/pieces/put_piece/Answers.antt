use Rattle.std.proofs.Common.{◌≡◌, ◌++◌}
use Rattle.std.proofs.lemmas.Result.{on_ok_weaker}
use Rattle.hub_base.specs.Value.{value_field}
use Rattle.hub_trace.specs.Pieces.{Grows}
use Rattle.hub_trace.specs.declared.pieces.Piece.TheVariants.{Carries}
use Rattle.hub_trace.proofs.Spelled.{value-spelled}
use Rattle.hub_trace.proofs.pieces.put_piece.Goals as goal

pub returns-in-Carries : goal.returns-in-Carries
returns-in-Carries c =
    let v = c.in-Carries.value in
    let old = c.args.out.now.items in
    let new = c.write_value.new.out.items in
    let grows : new ≡ old ++ value_field v → Grows (Carries v) old new =
    λ is. record { text = value_field v; is = is; stands = value-spelled v } in
    rw c.in-Carries.is (on_ok_weaker c.write_value.result grows c.write_value.ensures.ok)
