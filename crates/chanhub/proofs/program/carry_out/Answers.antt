use Rattle.std.proofs.Common.{◌≡◌, true, false, rules, refl}
use Rattle.std.proofs.lemmas.Result.{IfErr-weaker, IfOk-weaker}
use Rattle.chanhub.specs.Refusals.{of_arguments}
use Rattle.chanhub.proofs.Carried.{begun-replay, begun-run, begun-verify, has-run, has-verified}
use Rattle.chanhub.proofs.Carried.{refused-more, refused-arguments, refused-replay, refused-run, refused-verify}
use Rattle.chanhub.proofs.Refused.{handed}
use Rattle.chanhub.proofs.program.carry_out.Goals as goal

pub returns-in-Run-clause-done : goal.returns-in-Run-clause-done
returns-in-Run-clause-done g c =
    IfOk-weaker c.run_from.result _ _ (λ outcome. has-run _ _ _ _ outcome _ _ (search rules)) c.run_from.ensures.ok

pub returns-in-Verify-clause-done : goal.returns-in-Verify-clause-done
returns-in-Verify-clause-done g c =
    IfOk-weaker c.verify_files.result _ _ (λ outcome. has-verified _ _ _ _ outcome _ (search rules) refl) c.verify_files.ensures.ok

pub returns-in-Replay-clause-refused : goal.returns-in-Replay-clause-refused
returns-in-Replay-clause-refused g c =
    IfErr-weaker c.replay_input.result _ _ (λ why. refused-more why (begun-replay _ _ _ _ _ _ (search rules))) c.replay_input.ensures.refused

pub returns-in-Run-clause-refused : goal.returns-in-Run-clause-refused
returns-in-Run-clause-refused g c =
    IfErr-weaker c.run_from.result _ _ (λ why. refused-more why (begun-run _ _ _ _ _ _ _ (search rules))) c.run_from.ensures.refused

pub returns-in-Verify-clause-refused : goal.returns-in-Verify-clause-refused
returns-in-Verify-clause-refused g c =
    IfErr-weaker c.verify_files.result _ _ (λ why. refused-more why (begun-verify _ _ _ _ _ _ (search rules) refl)) c.verify_files.ensures.refused

pub returns-in_err-read_words-clause-found : goal.returns-in_err-read_words-clause-found
returns-in_err-read_words-clause-found g c =
    handed _ of_arguments _ _ c.from_residual.ensures (refused-arguments _ _ _ _ _ c.in_err-read_words.field-0.0 refl
    (λ asks. let not : false ≡ true = c.in_err-read_words.ensures.replay asks in cc))

pub returns-in-Replay-clause-found : goal.returns-in-Replay-clause-found
returns-in-Replay-clause-found g c =
    IfErr-weaker c.replay_input.result _ _ (λ why. refused-replay _ _ _ _ _ why (search rules)) c.replay_input.ensures.found

pub returns-in-Run-clause-found : goal.returns-in-Run-clause-found
returns-in-Run-clause-found g c =
    IfErr-weaker c.run_from.result _ _ (λ why. refused-run _ _ _ _ _ why (search rules)) c.run_from.ensures.found

pub returns-in-Verify-clause-found : goal.returns-in-Verify-clause-found
returns-in-Verify-clause-found g c =
    IfErr-weaker c.verify_files.result _ _ (λ why. refused-verify _ _ _ _ _ why (search rules) refl) c.verify_files.ensures.found
