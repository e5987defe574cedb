use Rattle.std.proofs.lemmas.Result.{IfOk-weaker}
use Rattle.hub_live.proofs.Finishing.{ended}
use Rattle.hub_live.proofs.live_hub.LiveHub.finish_short.Goals as goal

pub returns : goal.returns
returns g c =
    let is = c.into_short_journal.ensures in record {
      rules = IfOk-weaker c.into_short_journal.result _ _
          (λ journal same. ended g.K.HubName.name c.compare_all.new.desk c.compare_all.ensures.stand same is.legal is.fits is.few) is.journal;
    }
