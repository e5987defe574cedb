use Rattle.std.proofs.Common.{◌∙◌, ◌∷◌, [], ◌&&◌, ap, arith, length, length-append, true}
use Rattle.std.proofs.lemmas.List.Folds.{list_all-append}
use Rattle.std.specs.List.{list_all}
use Rattle.hub_base.specs.Head.{has_case}
use Rattle.hub_trials.proofs.chances.Chances.cases.Goals as goal

pub loop-preserved : goal.loop-preserved
loop-preserved c =
    let so = c.loop.invariant in
    let grown = c.push.ensures.items in
    record {
      few = (let count = ap length grown ∙ length-append c.loop.cases.items (c.case.result ∷ []) in omega (arith, count, so.few));
      most = so.most;
      fits = λ edition. ap (list_all (has_case edition)) grown ∙ list_all-append (has_case edition) c.loop.cases.items (c.case.result ∷ [])
          ∙ ap (λ b. b && (has_case edition c.case.result && true)) (so.fits edition) ∙ ap (λ b. b && true) (c.case.ensures edition);
    }
