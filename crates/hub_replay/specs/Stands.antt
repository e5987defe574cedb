-- Where a conversation stands: which whole lines were heard, what came of the next one, and what is to be said of them.
use Rattle.std.specs.Prelude.{◌≡◌, ◌⊎◌, ℕ, ◌+◌, ◌≤◌, List, [], ◌++◌, length, take, drop, Option, None, Some}
use Rattle.hub_base.specs.Entry.{Entry}
use Rattle.hub_base.specs.declared.head.Edition.{Edition}
use Rattle.hub_base.specs.declared.head.Head.{Head}
use Rattle.hub_base.specs.declared.read_fault.TextFault.{TextFault}
use Rattle.hub_base.specs.Reading.{head_lines, read_text, Faulty}
use Rattle.hub_base.specs.Text.{IsText}
use Rattle.hub_replay.specs.Replay.{event_lines}
use Rattle.hub_replay.specs.Verify.{newlines_in}
use Rattle.hub_replay.specs.declared.conversation.Conversation.{Conversation}
use Rattle.hub_replay.specs.declared.running.Running.{Running}
use Rattle.hub_base.specs.declared.limits.TheConstants.{MOST_BYTES}
use Rattle.hub_replay.specs.Answers.{Tells}
use Rattle.hub_replay.specs.Lines.{first_line}
use Rattle.hub_replay.specs.Running.{RunsTo}

-- line 1 is next, and nothing was heard; or line 2, and the first was
abbrev pub InHead : ℕ → List ℕ → Type 0
InHead number lines =
    ((number ≡ 1) × (lines ≡ []))
    ⊎ ((edition : Edition) × (number ≡ 2) × (lines ≡ first_line edition))

-- no more than that: the lines are kept, and nothing is said
pub record AtHead (number : ℕ) (lines front said : List ℕ) : Type 0 where
  pub head : InHead number lines
  pub kept : front ≡ lines
  pub silent : said ≡ []

-- the lines are a journal's, and its events are said
pub record AtEntries (running : Running) (number : ℕ) (lines front said : List ℕ) : Type 0 where
  pub head : Head
  pub entries : List Entry
  pub text : IsText lines head entries
  pub runs : RunsTo head entries running.machine running.steps
  pub number_is : number ≡ 3 + length entries
  pub kept : front ≡ head_lines head
  pub told : said ≡ event_lines head entries

abbrev pub IsAt : Option Running → ℕ → List ℕ → List ℕ → List ℕ → Type 0
IsAt None number lines front said = AtHead number lines front said
IsAt (Some running) number lines front said = AtEntries running number lines front said

-- these whole lines were heard, and behind them this of the next; and so much is to be said of the lines
pub record Stands (lines rest said : List ℕ) (c : Conversation) : Type 0 where
  pub place : c.place ≡ length lines
  pub number : c.line ≡ 1 + newlines_in lines
  pub at : IsAt c.running c.line lines (take c.front c.text.items) said
  pub rest_is : drop c.front c.text.items ≡ rest

-- line number k is faulty, whatever stands behind these bytes
abbrev pub FailsAt : List ℕ → TextFault → Type 0
FailsAt heard fault = (more : List ℕ) → read_text (heard ++ more) ≡ Faulty fault.line fault.kind

-- this is the first fault of what was heard, and stands behind these lines
pub record Fails (lines rest : List ℕ) (fault : TextFault) : Type 0 where
  pub fails : FailsAt (lines ++ rest) fault
  pub number : fault.line ≡ 1 + newlines_in lines

-- a line has come: it is answered, or faulty
abbrev pub Ends : List ℕ → List ℕ → List ℕ → List ℕ → List ℕ → Conversation → Option TextFault → Type 0
Ends lines line said old new c None =
    (more : List ℕ) × (new ≡ old ++ more) × Stands (lines ++ line) [] (said ++ more) c
Ends lines line said old new c (Some fault) = Fails lines line fault × (new ≡ old)

-- a piece has come: all its whole lines are answered, or those before a faulty one
pub record HearsAll (lines rest said piece old new : List ℕ) (c : Conversation) : Type 0 where
  pub lines_now : List ℕ
  pub rest_now : List ℕ
  pub more : List ℕ
  pub parts : (lines ++ rest) ++ piece ≡ lines_now ++ rest_now
  pub whole : newlines_in rest_now ≡ 0
  pub said_now : new ≡ old ++ more
  pub stands : Stands lines_now rest_now (said ++ more) c
  pub fits : length (lines_now ++ rest_now) ≤ MOST_BYTES

pub record HearsBefore (lines rest said piece old new : List ℕ) (fault : TextFault) : Type 0 where
  pub lines_now : List ℕ
  pub rest_now : List ℕ
  pub more : List ℕ
  pub parts : (lines ++ rest) ++ piece ≡ lines_now ++ rest_now
  pub said_now : new ≡ old ++ more
  pub told : Tells lines_now (said ++ more)
  pub fails : Fails lines_now rest_now fault

abbrev pub Hears : List ℕ → List ℕ → List ℕ → List ℕ → List ℕ → List ℕ → Conversation → Option TextFault → Type 0
Hears lines rest said piece old new c None = HearsAll lines rest said piece old new c
Hears lines rest said piece old new c (Some fault) = HearsBefore lines rest said piece old new fault

-- this is the first fault, where no more comes
pub record FailsHere (lines rest : List ℕ) (fault : TextFault) : Type 0 where
  pub fails : read_text (lines ++ rest) ≡ Faulty fault.line fault.kind
  pub number : fault.line ≡ 1 + newlines_in lines

-- so far a piece is answered, and this is left of it
pub record Going (lines rest said piece left old new : List ℕ) (c : Conversation) : Type 0 where
  pub lines_now : List ℕ
  pub rest_now : List ℕ
  pub more : List ℕ
  pub parts : (lines ++ rest) ++ piece ≡ (lines_now ++ rest_now) ++ left
  pub whole : newlines_in rest_now ≡ 0
  pub said_now : new ≡ old ++ more
  pub stands : Stands lines_now rest_now (said ++ more) c
