use Rattle.std.proofs.Common.{◌+◌, ◌-◌, ◌∙◌, sym, ap, length, take, drop, arith}
use Rattle.std.proofs.lemmas.Grind.{common_steps}
use Rattle.hub_base.specs.Head.{is_of}
use Rattle.hub_base.specs.Reading.{rows}
use Rattle.hub_text.specs.Reader.{ReaderView}
use Rattle.hub_text.proofs.QuickLines.{end-some, exit-again}
use Rattle.hub_base.proofs.Running.{has-entry}
use Rattle.hub_text.proofs.reader.Reader.read_exit.Goals as goal

pub returns-clause-reads : goal.returns-clause-reads
returns-clause-reads c =
    let begins = c.in-Some.ensures in
    grind (
      arith,
      common_steps,
      end-some c.self.inside.rest.now c.quick_exit.new.place c.in-Some.end begins.spelled begins.inside,
      ap (is_of c.self.inside.head.edition) begins.exit,
      exit-again c.self.inside.head c.self.inside.line c.self.inside.place c.self.inside.steps c.self.inside.rest.now c.quick_exit.new.place
          c.in-Some.end begins (omega arith) c.self.invariant.steps,
    )

pub returns-clause-some : goal.returns-clause-some
returns-clause-some c =
    let rest = c.self.inside.rest.now in
    let read = exit-again c.self.inside.head c.self.inside.line c.self.inside.place c.self.inside.steps rest c.quick_exit.new.place
    c.in-Some.end c.in-Some.ensures (omega arith) c.self.invariant.steps in
    has-entry c.self.inside.head c.self.inside.line (c.self.inside.place + c.in-Some.end) c.self.inside.steps
    (rows (take (length rest - c.in-Some.end) (drop c.in-Some.end rest))) c.quick_exit.new.place c.args.self.now.left c.self.invariant.behind_head
    (omega arith) c.self.invariant.steps (ap (λ (r : ReaderView). r.left) (sym c.self.view_is) ∙ read)

pub invariant_of-self : goal.invariant_of-self
invariant_of-self c = grind (arith, common_steps)
