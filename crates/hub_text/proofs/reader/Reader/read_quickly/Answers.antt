use Rattle.std.proofs.Common.{◌+◌, ◌-◌, ◌∙◌, sym, ap, length, take, drop, arith}
use Rattle.std.proofs.lemmas.Grind.{common_steps}
use Rattle.hub_base.specs.Reading.{rows}
use Rattle.hub_text.specs.Reader.{ReaderView}
use Rattle.hub_text.proofs.QuickLines.{line-again, end-some}
use Rattle.hub_base.proofs.Running.{has-entry}
use Rattle.hub_text.proofs.reader.Reader.read_quickly.Goals as goal

pub returns-in-Some-clause-reads : goal.returns-in-Some-clause-reads
returns-in-Some-clause-reads c =
    let begins = c.in-Some.ensures in
    grind (
      arith,
      common_steps,
      end-some c.self.inside.rest.now c.quick_line.new.place c.in-Some.end begins.spelled begins.inside,
      begins.fits.of_edition,
      line-again c.self.inside.head c.self.inside.line c.self.inside.place c.self.inside.steps c.self.inside.rest.now c.quick_line.new.place
          c.in-Some.end begins (omega arith) (omega arith),
    )

pub returns-in-Some-clause-some : goal.returns-in-Some-clause-some
returns-in-Some-clause-some c =
    let rest = c.self.inside.rest.now in
    let read = line-again c.self.inside.head c.self.inside.line c.self.inside.place c.self.inside.steps rest c.quick_line.new.place
    c.in-Some.end c.in-Some.ensures (omega arith) (omega arith) in
    has-entry c.self.inside.head c.self.inside.line (c.self.inside.place + c.in-Some.end) (c.self.inside.steps + 1)
    (rows (take (length rest - c.in-Some.end) (drop c.in-Some.end rest))) c.quick_line.new.place c.args.self.now.left c.self.invariant.behind_head
    (omega arith) (omega arith) (ap (λ (r : ReaderView). r.left) (sym c.self.view_is) ∙ read)

pub invariant_of-self : goal.invariant_of-self
invariant_of-self c = grind (arith, common_steps)
