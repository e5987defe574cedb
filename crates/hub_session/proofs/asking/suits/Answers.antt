use Rattle.std.proofs.Common.{◌≡◌, ◌∙◌, ap, arith, length, sym, true}
use Rattle.std.proofs.lemmas.Bool.{leb-true}
use Rattle.std.proofs.lemmas.List.{length-take}
use Rattle.hub_base.specs.declared.limits.TheConstants.{MOST_VALUE_BYTES}
use Rattle.hub_session.specs.Structs.{is_value}
use Rattle.hub_session.proofs.Asked.{suits_bytes}
use Rattle.hub_session.proofs.asking.suits.Goals as goal

pub has_bytes-requires : goal.has_bytes-requires
has_bytes-requires c =
    let v = c.args.case.now.value in
    let few : is_value v ≡ true = sym c.is_value-2.ensures ∙ c.if-is_value.true in
    omega (arith, ap length c.bytes_in.ensures, length-take v.length v.bytes, leb-true v.length MOST_VALUE_BYTES few)

pub returns-then-is_value : goal.returns-then-is_value
returns-then-is_value c =
    c.has_bytes.ensures
    ∙ suits_bytes c.args.edition c.args.case.now c.bytes_in.result.now (sym c.is_true.ensures ∙ c.if-not-is_true.false)
    (sym c.is_true-2.ensures ∙ c.if-not-is_true-2.false) (sym c.is_value-2.ensures ∙ c.if-is_value.true) c.bytes_in.ensures
