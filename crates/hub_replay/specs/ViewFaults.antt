-- Why a view of a journal is not written whole.
use Rattle.std.specs.Prelude.{◌≡◌, ℕ}
use Rattle.hub_replay.specs.Devices.{Failed}
use Rattle.hub_replay.specs.declared.fault.ReplayFault.{ReplayFault}
use Rattle.hub_replay.specs.declared.fault.ReplayFault.TheVariants as replay
use Rattle.hub_replay.specs.declared.view_fault.ViewFault.{ViewFault}
use Rattle.hub_replay.specs.declared.view_fault.ViewFault.TheVariants.{Write, NoMemory}

-- one write failed, or none did where memory was refused
abbrev pub Fails : ℕ → ℕ → ViewFault → Type 0
Fails before after Write = Failed before after
Fails before after NoMemory = after ≡ before

-- as a replay tells it
abbrev pub replay_fault : ViewFault → ReplayFault
replay_fault Write = replay.Write
replay_fault NoMemory = replay.NoMemory
