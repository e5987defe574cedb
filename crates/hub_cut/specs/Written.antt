-- What the parts of a checkpoint write.
use Rattle.std.specs.Prelude.{ℕ, List, [], ◌∷◌, map, take, Option, None, Some, Bool, true, false}
use Rattle.hub_base.specs.declared.fault.Fault.{Fault}
use Rattle.hub_base.specs.declared.fault.Fault.TheVariants as fault
use Rattle.std.specs.Option.{option_map_or}
use Rattle.hub_base.specs.Entry.{Entry}
use Rattle.hub_base.specs.declared.value.Port.{Port}
use Rattle.hub_base.specs.State.{State, channel_at, buffer_of}
use Rattle.hub_chapters.specs.Checkpoint.{send_again, port_again}

-- the entry of what is there, if anything is
abbrev pub one_of : {A : Type 0} → (A → Entry) → Option A → List Entry
one_of f None = []
one_of f (Some x) = f x ∷ []

-- the first values of the port's buffer are sent again
abbrev pub sent_entries : State → Port → ℕ → List Entry
sent_entries s p n = option_map_or (λ c. map (send_again p.0) (take n (buffer_of c))) (channel_at s p) []

-- what makes the port, where it is made
abbrev pub port_entries : State → Port → List Entry
port_entries s p = option_map_or (port_again p.0) (channel_at s p) []

-- a refusal because the process has exited
abbrev pub is_gone : Option Fault → Bool
is_gone (Some fault.Gone) = true
is_gone other = false
