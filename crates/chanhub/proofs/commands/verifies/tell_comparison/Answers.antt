use Rattle.std.proofs.Common.{rules, codes, ◌++◌, List, ℕ, subst}
use Rattle.std.specs.Io.KnownBytes.{Appends}
use Rattle.chanhub.specs.declared.outcome.Outcome.TheVariants.{Done, Differs}
use Rattle.chanhub.proofs.Refused.{wrote_less}
use Rattle.chanhub.proofs.commands.verifies.tell_comparison.Goals as goal

pub returns-in_ok-write_pieces-in-Differs-clause-ok : goal.returns-in_ok-write_pieces-in-Differs-clause-ok
returns-in_ok-write_pieces-in-Differs-clause-ok g c = (
  c.in-Differs.line,
  search rules,
  subst (λ (digits : List ℕ). Appends (g.W.Sink.contents c.args.output.now) (g.W.Sink.contents c.write_pieces-in-Differs.new.sink)
      (codes "differs at line " ++ digits ++ codes "\n"))
      c.format.ensures.text c.in_ok-write_pieces-in-Differs.ensures.whole,
)

pub returns-in_err-write_pieces-in-Same-clause-refused : goal.returns-in_err-write_pieces-in-Same-clause-refused
returns-in_err-write_pieces-in-Same-clause-refused g c =
    wrote_less _ _ c.from_residual-in_err-write_pieces-in-Same.ensures (search rules, (Done, (search rules, search rules)))

pub returns-in_err-write_pieces-in-Differs-clause-refused : goal.returns-in_err-write_pieces-in-Differs-clause-refused
returns-in_err-write_pieces-in-Differs-clause-refused g c =
    wrote_less _ _ c.from_residual-in_err-write_pieces-in-Differs.ensures
    (search rules, (Differs, (c.in-Differs.line, search rules, search rules)))
