use Rattle.std.proofs.Common.{sym, subst, decimal, ◌++◌, codes, [], ◌∷◌, false}
use Rattle.hub_base.specs.Lines.{call_fields}
use Rattle.hub_text.specs.declared.event_lines.TheConstants.{MOST_DIGITS}
use Rattle.hub_text.specs.declared.entry_fields.TheConstants.{MOST_PLAIN}
use Rattle.hub_text.specs.Writing.{Puts}
use Rattle.hub_text.proofs.Puts.{puts_then}
use Rattle.hub_text.proofs.Spelled.{join-spaced}
use Rattle.hub_text.proofs.entry_fields.put_plain.Goals as goal

pub returns : goal.returns
returns c =
    let number : Puts c.args.out.now c.put_large-step.new.out 0 (decimal c.args.pid.0) MOST_DIGITS c.put_large-step.result =
    subst (λ n. Puts c.args.out.now c.put_large-step.new.out 0 (decimal n) MOST_DIGITS c.put_large-step.result) c.into.ensures c.put_large-step.ensures in
    subst (λ text. Puts c.args.out.now c.put.new.out 0 (text ++ codes "\n") MOST_PLAIN c.put.result)
    (sym (join-spaced (decimal c.args.pid.0) (call_fields (c.args.case ∷ []) false 0)))
    (puts_then (puts_then number c.put_plain_step-end.ensures) c.put.ensures)
