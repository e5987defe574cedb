use Rattle.std.proofs.Common.{rules, Err}
use Rattle.hub_base.specs.declared.fault.Fault.TheVariants.{NoMemory}
use Rattle.hub_session.proofs.stepping.step_endless.Goals as goal

pub returns-then-begins : goal.returns-then-begins
returns-then-begins c = record { came = Err NoMemory; serves = search rules; tells = search rules }

pub returns-in-Err : goal.returns-in-Err
returns-in-Err c = record { came = Err c.in-Err.fault; serves = search rules; tells = search rules }
