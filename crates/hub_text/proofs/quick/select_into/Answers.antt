use Rattle.std.proofs.Common.{subst, sym, arith}
use Rattle.hub_text.proofs.QuickLines.{selected, stands-nothing}
use Rattle.hub_text.proofs.Spelled.{no-short-form}
use Rattle.hub_text.specs.Quick.{Stands}
use Rattle.hub_text.specs.Writing.{spaced}
use Rattle.hub_base.specs.Lines.{default_field}
use Rattle.hub_text.proofs.quick.select_into.Goals as goal
use Rattle.hub_text.proofs.quick.select_into.Goals.{in-Some, in-None}

pub returns : goal.returns
returns c =
    let cases = c.in_ok-end.ensures in
    let found = c.match-behind_words.has_default in
    let last : Stands c.args.bytes.now c.in_ok-end.end (spaced (default_field found.0)) found.1 = elim c.match-behind_words.branch [
      | in-Some w ↦ subst (λ x. Stands c.args.bytes.now c.in_ok-end.end (spaced (default_field x.0)) x.1) (sym w.has_default-is) w.in-Some.ensures
      | in-None w ↦ subst (λ x. Stands c.args.bytes.now c.in_ok-end.end (spaced (default_field x.0)) x.1) (sym w.has_default-is)
          (stands-nothing c.args.bytes.now c.in_ok-end.end cases.stands.inside)
    ] in
    selected c.args.edition c.args.bytes.now c.args.start c.in_ok-number.end c.in_ok-end.end found.1 c.cases_into.new.cases.items found.0
    c.in_ok-number.number c.in_ok-number.ensures (omega arith) cases (omega arith) last
    (no-short-form c.cases_into.new.cases.items c.len.result found.0 c.in_ok-number.number c.len.ensures.value c.else-len-eq1.either)
