use Rattle.std.proofs.Common.{rules, Err}
use Rattle.hub_session.proofs.session.Opened.step.Goals as goal

pub returns-in-Err : goal.returns-in-Err
returns-in-Err c = rw c.in-Limited.is (record { came = Err c.in-Err.fault; serves = search rules; tells = search rules })
