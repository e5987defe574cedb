-- The line and the status of a fault.
use Rattle.std.specs.Prelude.{ℕ, List, codes}
use Rattle.hub_replay.specs.FaultLines.{line_of, fault_text as replay_text, status_of as replay_status}
use Rattle.chanhub_tool.specs.declared.fault.StoryFault.{StoryFault}
use Rattle.chanhub_tool.specs.declared.fault.StoryFault.TheVariants.{Backward, Outside, TooLong, TooMany, Replay}

abbrev pub fault_text : StoryFault → List ℕ
fault_text Backward = codes "FROM is above TO"
fault_text Outside = codes "no such steps"
fault_text TooLong = codes "too long for a picture, which shows FROM to TO"
fault_text TooMany = codes "too long for a diagram, which shows 200 steps at most"
fault_text (Replay fault) = replay_text fault

abbrev pub fault_line : StoryFault → List ℕ
fault_line fault = line_of (fault_text fault)

abbrev pub status_of : StoryFault → ℕ
status_of Backward = 2
status_of Outside = 2
status_of TooLong = 2
status_of TooMany = 2
status_of (Replay fault) = replay_status fault
