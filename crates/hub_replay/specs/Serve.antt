-- What a conversation comes to.
use Rattle.std.specs.Prelude.{◌≡◌, ◌⊎◌, ℕ, ◌+◌, ◌≤◌, List, ◌++◌, length, Result, OnOk, IsErrOf}
use Rattle.hub_base.specs.declared.limits.TheConstants.{MOST_BYTES}
use Rattle.hub_base.specs.declared.read_fault.TextFault.{TextFault}
use Rattle.hub_base.specs.Text.{IsFaulty}
use Rattle.hub_replay.specs.declared.fault.ReplayFault.{ReplayFault}
use Rattle.hub_replay.specs.declared.fault.ReplayFault.TheVariants.{Text, Read, Write, NoMemory}
use Rattle.hub_replay.specs.Devices.{Failed}
use Rattle.hub_replay.specs.Replay.{IsEventText}
use Rattle.hub_replay.specs.Answers.{AnswersBefore, AnswersSome, IsWhole}
use Rattle.hub_replay.specs.Talks.{HasAnswered, Spoken}

-- all that was heard is the text of a journal, and all that was said its event text
abbrev pub HasConversed : (List ℕ → Type 0) → (List ℕ → Type 0) → Type 0
HasConversed Heard Said = Spoken Heard Said IsEventText

-- this is the first fault of what was heard, and what was said answers the lines before it. Nothing more was to come, or
-- whatever follows it is the first fault
pub record Names (Ended : Type 0) (fault : TextFault) (heard said : List ℕ) : Type 0 where
  pub before : AnswersBefore heard said fault
  pub last : Ended ⊎ ((more : List ℕ) → IsFaulty (heard ++ more) fault.line fault.kind)

abbrev pub HasNamed : (List ℕ → Type 0) → (List ℕ → Type 0) → Type 0 → TextFault → Type 0
HasNamed Heard Said Ended fault = Spoken Heard Said (Names Ended fault)

-- what was said is a beginning of the answer
abbrev pub HasBegun : (List ℕ → Type 0) → (List ℕ → Type 0) → Type 0
HasBegun Heard Said = Spoken Heard Said (λ heard said. (rest : List ℕ) × IsWhole heard (said ++ rest))

-- what was said answers some lines from the first on
abbrev pub HasStopped : (List ℕ → Type 0) → (List ℕ → Type 0) → Type 0
HasStopped Heard Said = Spoken Heard Said AnswersSome

-- so few bytes were heard
abbrev pub HasHeardAtMost : (List ℕ → Type 0) → ℕ → Type 0
HasHeardAtMost Heard most = (heard : List ℕ) × Heard heard × (length heard ≤ most)

-- how a conversation ended, which of its calls failed, and what it had heard and said by then: `reads` and `writes` had
-- failed when it began, and so many by now
pub record HasEnded
    (Heard Said : List ℕ → Type 0) (Ended : Type 0) (reads reads_now writes writes_now : ℕ) (result : Result (Unit {0}) ReplayFault) : Type 0 where
  pub ok : OnOk result (HasConversed Heard Said × Ended)
  pub text : (fault : TextFault) → IsErrOf result (Text fault) → HasNamed Heard Said Ended fault
  pub read : IsErrOf result Read → Failed reads reads_now × HasAnswered Heard Said
  pub write : IsErrOf result Write → Failed writes writes_now × HasBegun Heard Said
  pub memory : IsErrOf result NoMemory → HasStopped Heard Said
  pub few : HasHeardAtMost Heard (MOST_BYTES + 1)
  pub reads_once : ¬ IsErrOf result Read → reads_now ≡ reads
  pub writes_once : ¬ IsErrOf result Write → writes_now ≡ writes
