use Rattle.std.proofs.Common.{◌≡◌, ◌+◌, ◌≤◌, ℕ, true, List, length, refl, ap, sym, ◌∙◌, subst, arith, Err, Ok}
use Rattle.std.specs.Borrow.{Bor}
use Rattle.hub_base.specs.Entry.{Entry}
use Rattle.hub_base.specs.declared.head.Head.{Head}
use Rattle.hub_base.specs.declared.limits.TheConstants.{MOST_BYTES}
use Rattle.hub_text.specs.declared.reader.Reader.TheInside.{Inside}
use Rattle.hub_base.specs.Head.{is_of}
use Rattle.hub_base.specs.Lines.{pieces}
use Rattle.hub_text.specs.Reader.{ReaderView}
use Rattle.hub_text.specs.ReaderKeeps.{left_of}
use Rattle.hub_base.specs.Reading.{rows, entries_from, counted, HasEntry}
use Rattle.hub_text.proofs.NextLine.{line-says, too-many, step-counts, exit-counts, entry-next, Next}
use Rattle.hub_base.proofs.Running.{has-entry}
use Rattle.hub_base.proofs.Takes.{fields-take}
use Rattle.hub_text.proofs.reader.Reader.read_slowly.Goals as goal
use Rattle.hub_text.proofs.reader.Reader.read_slowly.Goals.{then-not-is_exit+else-self-eq-MOST_STEPS, else-not-is_exit}

pub returns-in-Err-read_line-clause-reads : goal.returns-in-Err-read_line-clause-reads
returns-in-Err-read_line-clause-reads c = record {
  fault = ap (λ (r : ReaderView). r.left) (sym c.self.view_is)
      ∙ line-says c.self.inside c.in-Ok.parts.0.now (rows c.in-Ok.parts.1.now) (Err c.in-Err-read_line.kind) c.in-Ok.ensures.line c.in-Ok.ensures.fits
      c.in-Err-read_line.ensures;
  unchanged = refl;
}

pub returns-then-self-eq-MOST_STEPS-clause-reads : goal.returns-then-self-eq-MOST_STEPS-clause-reads
returns-then-self-eq-MOST_STEPS-clause-reads c =
    let exit = sym c.is_exit.ensures in
    record {
      fault = ap (λ (r : ReaderView). r.left) (sym c.self.view_is)
          ∙ line-says c.self.inside c.in-Ok.parts.0.now (rows c.in-Ok.parts.1.now) (Ok c.read_line.new.place) c.in-Ok.ensures.line c.in-Ok.ensures.fits
          c.in-Ok-read_line.ensures
          ∙ too-many c.self.inside.line c.self.inside.steps c.read_line.new.place
          (λ e. entries_from c.self.inside.head (c.self.inside.line + 1) (c.self.inside.place + length c.in-Ok.parts.0.now + 1)
          (counted c.self.inside.steps e) (rows c.in-Ok.parts.1.now)) (exit ∙ c.if-not-is_exit.true) (omega arith);
      unchanged = refl;
    }

next-some : (r s : Inside) (e : Entry) (text : List ℕ) (rest : Bor (List ℕ)) → 3 ≤ r.line → r.place + length text + 1 ≤ MOST_BYTES → Next r s e text rest
    → HasEntry (left_of r)
next-some r s e text rest behind_head fits next = has-entry s.head s.line (s.place + (length text + 1)) s.steps (rows rest.now) e (left_of r)
    (omega (arith, next.line)) (omega (arith, next.place)) next.steps next.read

pub returns : goal.returns
returns c =
    let exit = sym c.is_exit.ensures in
    let next : Next c.self.inside c.if-not-is_exit.self-inside c.read_line.new.place c.in-Ok.parts.0.now c.in-Ok.parts.1 =
    elim c.if-not-is_exit.branch [
      | then-not-is_exit+else-self-eq-MOST_STEPS w ↦
          entry-next c.self.inside c.if-not-is_exit.self-inside c.read_line.new.place c.in-Ok.parts.0.now c.in-Ok.parts.1 (c.self.inside.steps + 1)
          c.in-Ok.ensures.line c.in-Ok.ensures.fits c.in-Ok-read_line.ensures
          (step-counts c.self.inside.steps c.read_line.new.place (exit ∙ w.if-not-is_exit.true) (omega arith)) w.self-inside-is
      | else-not-is_exit w ↦
          entry-next c.self.inside c.if-not-is_exit.self-inside c.read_line.new.place c.in-Ok.parts.0.now c.in-Ok.parts.1 c.self.inside.steps
          c.in-Ok.ensures.line c.in-Ok.ensures.fits c.in-Ok-read_line.ensures
          (exit-counts c.self.inside.steps c.read_line.new.place (exit ∙ w.if-not-is_exit.false) c.self.invariant.steps) w.self-inside-is
    ] in
    let left = ap (λ (r : ReaderView). r.left) (sym c.self.view_is) in
    record {
      reads = (
        left ∙ next.read,
        next.head ∙ ap (λ (r : ReaderView). r.head) c.self.view_is,
        omega (arith, c.in-Ok.ensures.left, ap (λ (r : ReaderView). r.bytes) c.self.view_is),
        subst (λ (h : Head). is_of h.edition c.read_line.new.place.step ≡ true) (ap (λ (r : ReaderView). r.head) c.self.view_is)
            (fields-take c.self.inside.head.edition (pieces 32 c.in-Ok.parts.0.now) c.read_line.new.place c.in-Ok-read_line.ensures).1.of_edition,
      );
      some = subst HasEntry (sym left) (next-some c.self.inside c.if-not-is_exit.self-inside c.read_line.new.place c.in-Ok.parts.0.now c.in-Ok.parts.1
          c.self.invariant.behind_head c.in-Ok.ensures.fits next);
    }
