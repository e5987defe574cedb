use Rattle.std.proofs.Common.{arith}
use Rattle.chanhub_tool.proofs.Sizes.{few-entries}
use Rattle.chanhub_tool.proofs.explanation.write_explanation.Goals as goal

pub window_of-requires : goal.window_of-requires
window_of-requires g c = rw (c.len.ensures, c.entries.ensures) (record { few = omega (arith, few-entries _ _ _ c.in_ok-journal.ensures.found) })

pub write_form-requires-clause-few : goal.write_form-requires-clause-few
write_form-requires-clause-few g c = few-entries _ _ _ c.in_ok-journal.ensures.found
