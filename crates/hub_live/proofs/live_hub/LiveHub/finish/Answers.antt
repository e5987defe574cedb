use Rattle.hub_live.proofs.Finishing.{ended}
use Rattle.hub_live.proofs.live_hub.LiveHub.finish.Goals as goal

pub returns : goal.returns
returns g c =
    let is = c.into_journal.ensures in
    record { rules = ended g.K.HubName.name c.compare_all.new.self c.compare_all.ensures.stand is.journal is.legal is.fits is.few }
