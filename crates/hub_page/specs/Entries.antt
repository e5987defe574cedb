-- What an entry asks, in few letters: `0s1:7` for `0 send 1 7`, `1?12s1:7r2!` for `1 select 12 s1:7 r2 default`.
use Rattle.std.specs.Prelude.{ℕ, zero, Bool, true, false, List, [], ◌∷◌, ◌++◌, codes, decimal}
use Rattle.std.specs.List.{flat_map}
use Rattle.hub_base.specs.declared.case.Case.{Case}
use Rattle.hub_base.specs.Entry.{Entry, Step}
use Rattle.hub_base.specs.declared.entry.Step.TheVariants.{Make, Call, Close, Exit, Cancel, Start, Reopen}
use Rattle.hub_base.specs.Lines.{case_field}

abbrev pub default_mark : Bool → List ℕ
default_mark true = codes "!"
default_mark false = []

-- the choice word, the cases as a journal spells them, and a mark for a default
abbrev pub select_words : List Case → Bool → ℕ → List ℕ
select_words cases default word = codes "?" ++ decimal word ++ flat_map case_field cases ++ default_mark default

-- a call that a journal spells as a send or a receive is its case alone
abbrev pub call_words : List Case → Bool → ℕ → List ℕ
call_words (c ∷ []) false zero = case_field c
call_words cases default word = select_words cases default word

abbrev pub step_words : Step → List ℕ
step_words (Make cap) = codes "m" ++ decimal cap
step_words (Call cases default word) = call_words cases.items default word
step_words (Close p) = codes "c" ++ decimal p.0
step_words Exit = codes "e"
step_words (Cancel q) = codes "x" ++ decimal q.0
step_words (Start q) = codes "g" ++ decimal q.0
step_words (Reopen p cap) = codes "o" ++ decimal p.0 ++ codes ":" ++ decimal cap

abbrev pub entry_words : Entry → List ℕ
entry_words e = decimal e.pid.0 ++ step_words e.step
