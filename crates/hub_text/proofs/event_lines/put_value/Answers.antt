use Rattle.std.proofs.Common.{sym, subst, ◌∙◌, arith}
use Rattle.hub_text.specs.declared.event_lines.TheConstants.{MOST_VALUE}
use Rattle.hub_text.specs.Writing.{Puts}
use Rattle.hub_text.proofs.Puts.{puts_within}
use Rattle.hub_base.proofs.Values.{field_number, field_bytes}
use Rattle.hub_text.proofs.event_lines.put_value.Goals as goal

pub returns-in-Some : goal.returns-in-Some
returns-in-Some c =
    subst (λ text. Puts c.args.out.now c.put_large.new.out c.args.at text MOST_VALUE c.put_large.result)
    (sym (field_number _ c.in-Some.number (sym c.as_num.ensures.number ∙ c.in-Some.is))) (puts_within (omega arith) c.put_large.ensures)

pub returns-in-None : goal.returns-in-None
returns-in-None c =
    subst (λ text. Puts c.args.out.now c.put_bytes.new.out c.args.at text MOST_VALUE c.put_bytes.result)
    (sym (field_bytes _ (sym c.as_num.ensures.number ∙ c.in-None.is))) c.put_bytes.ensures
