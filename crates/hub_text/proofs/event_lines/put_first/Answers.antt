use Rattle.std.proofs.Common.{sym, subst, arith}
use Rattle.std.proofs.lemmas.Fmt.{decimal_digit}
use Rattle.itoa.proofs.Decimal.{decimal_two}
use Rattle.hub_text.specs.Writing.{Puts}
use Rattle.hub_text.proofs.Puts.{puts_within}
use Rattle.hub_text.proofs.event_lines.put_first.Goals as goal

pub returns-then-n-ge10 : goal.returns-then-n-ge10
returns-then-n-ge10 c =
    subst (λ text. Puts c.args.out.now c.put_pair.new.out c.args.at text 2 c.put_pair.result)
    (sym (decimal_two c.args.n (omega (arith, c.if-n-ge10.true)) c.requires.below)) c.put_pair.ensures

pub returns : goal.returns
returns c =
    subst (λ text. Puts c.args.out.now c.put.new.out c.args.at text 2 c.put.result)
    (sym (decimal_digit c.args.n c.if-n-ge10.false)) (puts_within (omega arith) c.put.ensures)
