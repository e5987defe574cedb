use Rattle.std.proofs.Common.{ap, Err}
use Rattle.chanhub.proofs.Refused.{but_write, but_other, found, of_text}
use Rattle.chanhub.proofs.commands.replays.replay_input.Goals as goal

pub returns-in-Err-clause-refused : goal.returns-in-Err-clause-refused
returns-in-Err-clause-refused g c = record {
  unwritten = but_write _ c.in-Err.fault
      (λ at is. (c.in-Err.ensures.text at (ap (λ f. Err f) is)).1)
      (λ is. (c.in-Err.ensures.read (ap (λ f. Err f) is)).1)
      (λ is. c.in-Err.ensures.memory (ap (λ f. Err f) is));
  write = but_other _ c.in-Err.fault (λ is. c.in-Err.ensures.write (ap (λ f. Err f) is));
}

pub returns-in-Err-clause-found : goal.returns-in-Err-clause-found
returns-in-Err-clause-found g c =
    found _ _ _ c.in-Err.fault
    (λ at is. (c.in-Err.ensures.text at (ap (λ f. Err f) is)).0)
    (λ is. (c.in-Err.ensures.read (ap (λ f. Err f) is)).0)

pub returns-in-Err-clause-faulty : goal.returns-in-Err-clause-faulty
returns-in-Err-clause-faulty g c =
    of_text _ c.in-Err.fault
    (λ at is. (at, (c.in-Err.ensures.text at (ap (λ f. Err f) is)).0))

pub returns-in-Err-clause-reads_once : goal.returns-in-Err-clause-reads_once
returns-in-Err-clause-reads_once g c = λ other. c.in-Err.ensures.reads_once (λ is. other cc)
