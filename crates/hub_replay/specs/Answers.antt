-- What is said of what was heard: of whole lines of a journal's text their event text.
-- What a journal's text is and where bytes are faulty is hub_base's, what an event text is hub_replay's; nothing here says
-- how any of them is computed.
use Rattle.std.specs.Prelude.{◌≡◌, ◌⊎◌, ℕ, ◌+◌, List, [], ◌++◌, codes}
use Rattle.hub_base.specs.declared.head.Edition.{Edition}
use Rattle.hub_base.specs.declared.read_fault.TextFault.{TextFault}
use Rattle.hub_base.specs.Reading.{header}
use Rattle.hub_base.specs.Text.{IsFaulty}
use Rattle.hub_replay.specs.Replay.{IsEventText}
use Rattle.hub_replay.specs.Verify.{newlines_in}

-- less than both head lines: nothing, or the first
abbrev pub BeginsHead : List ℕ → Type 0
BeginsHead lines = (lines ≡ []) ⊎ ((edition : Edition) × (lines ≡ header edition ++ codes "\n"))

-- what is said of whole lines: of a journal's text its event text, and nothing before both head lines have come
abbrev pub Tells : List ℕ → List ℕ → Type 0
Tells lines said = IsEventText lines said ⊎ (BeginsHead lines × (said ≡ []))

-- so much was heard: these whole lines, and this behind them
abbrev pub Parts : List ℕ → List ℕ → List ℕ → Type 0
Parts heard lines rest = heard ≡ lines ++ rest

-- what was said answers all whole lines that were heard
pub record Answers (heard said : List ℕ) : Type 0 where
  pub lines : List ℕ
  pub rest : List ℕ
  pub parts : Parts heard lines rest
  pub whole : newlines_in rest ≡ 0
  pub told : Tells lines said

-- what was said answers the lines before this faulty one, which is the first
pub record AnswersBefore (heard said : List ℕ) (fault : TextFault) : Type 0 where
  pub lines : List ℕ
  pub rest : List ℕ
  pub parts : Parts heard lines rest
  pub told : Tells lines said
  pub number : fault.line ≡ 1 + newlines_in lines
  pub faulty : IsFaulty heard fault.line fault.kind

-- what was said answers some lines from the first on, and maybe not all that were heard
pub record AnswersSome (heard said : List ℕ) : Type 0 where
  pub lines : List ℕ
  pub rest : List ℕ
  pub parts : Parts heard lines rest
  pub told : Tells lines said

-- all that is to be said of what was heard, now that this is the case
abbrev pub IsWhole : List ℕ → List ℕ → Type 0
IsWhole heard text = Answers heard text ⊎ ((fault : TextFault) × AnswersBefore heard text fault)
