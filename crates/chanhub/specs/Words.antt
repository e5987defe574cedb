-- What a program's arguments ask for, where that can be told without a parse.
use Rattle.std.specs.Prelude.{◌≡◌, ℕ, ◌&&◌, ◌||◌, ◌==◌, Bool, false, not, IsTrue, List, [], ◌∷◌, codes, drop, slice_get, slice_index, Some}
use Rattle.std.specs.Str.{bytes_eq}
use Rattle.chanhub.specs.declared.words.request.Request.{Request}
use Rattle.chanhub.specs.declared.words.request.Request.TheVariants.{Replay, Run, Verify}

-- the one argument behind the program's name is `replay`
abbrev pub AsksForReplay : List (List ℕ) → Type 0
AsksForReplay words = (name : List ℕ) × (words ≡ name ∷ codes "replay" ∷ [])

-- the argument behind the program's name is this command
abbrev pub AsksFor : List ℕ → List (List ℕ) → Type 0
AsksFor command words = slice_get words 1 ≡ Some command

-- the command that a request is made by
abbrev pub command_of : Request → List ℕ
command_of Replay = codes "replay"
command_of (Run file journal) = codes "run"
command_of (Verify journal events) = codes "verify"

-- this request is for a replay
abbrev pub IsReplay : Request → Type 0
IsReplay Replay = Unit {0}
IsReplay (Run file journal) = ⊥
IsReplay (Verify journal events) = ⊥

-- this request is for a run
abbrev pub IsRun : Request → Type 0
IsRun request = command_of request ≡ codes "run"

abbrev pub IsVerify : Request → Type 0
IsVerify request = command_of request ≡ codes "verify"

-- it begins with a `-`, and is not `--journal`
abbrev pub is_unknown_option : List ℕ → Bool
is_unknown_option word = (slice_index word 0 == 45) && not (bytes_eq word (codes "--journal"))

abbrev pub any_unknown_option : List (List ℕ) → Bool
any_unknown_option [] = false
any_unknown_option (word ∷ words) = is_unknown_option word || any_unknown_option words

-- some argument behind the program's name is an unknown option
abbrev pub HasUnknownOption : List (List ℕ) → Type 0
HasUnknownOption words = IsTrue (any_unknown_option (drop 1 words))
