-- Which faults answer an entry.
use Rattle.hub_laws.proofs.Prelude.{◌≡◌, true, Some, arith, Step, Fault, Pid, State, fault_of, refusal, is_fault_of, refuses_entry}

-- A fault that is journaled

-- it is one of its step's faults
pub journaled : (s : State) (step : Step) (f : Fault) → fault_of s step ≡ Some f → is_fault_of step f ≡ true
journaled s step f e = grind arith

-- Why an entry is not admitted

pub refusal-refuses : (s : State) (pid : Pid) (f : Fault) → refusal s pid ≡ Some f → refuses_entry f ≡ true
refusal-refuses s pid f e = grind arith
