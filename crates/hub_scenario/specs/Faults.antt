-- Tests in their order: the first one that fails says the fault.
use Rattle.std.specs.Prelude.{◌≡◌, List, ◌∷◌, Option, Some, None, Result, Ok, Err}
use Rattle.hub_scenario.specs.declared.fault.ScenarioFault.{ScenarioFault}
use Rattle.hub_scenario.specs.declared.fault.ScenarioFault.TheVariants.{NoMemory}

-- what has to be there, or this fault
abbrev pub must : {A : Type 0} → ScenarioFault → Option A → Result A ScenarioFault
must fault None = Err fault
must fault (Some x) = Ok x

-- the next test, unless there is a fault already
infixl 10 ◌>>=◌
abbrev pub ◌>>=◌ : {A B : Type 0} → Result A ScenarioFault → (A → Result B ScenarioFault) → Result B ScenarioFault
(Ok x) >>= f = f x
(Err e) >>= f = Err e

-- the first and the others, or the first fault
abbrev pub cons_ok : {A : Type 0} → Result A ScenarioFault → Result (List A) ScenarioFault → Result (List A) ScenarioFault
cons_ok (Ok x) (Ok xs) = Ok (x ∷ xs)
cons_ok (Ok x) (Err e) = Err e
cons_ok (Err e) others = Err e

-- the first and the others, where each is there
abbrev pub cons_some : {A : Type 0} → Option A → Option (List A) → Option (List A)
cons_some (Some x) (Some xs) = Some (x ∷ xs)
cons_some x xs = None

-- a fault that may be told where the definition says this: its own, or want of memory
abbrev pub IsFaultOf : {A : Type 0} → Result A ScenarioFault → ScenarioFault → Type 0
IsFaultOf said e = ¬ (e ≡ NoMemory) → said ≡ Err e
