-- What a call of a device does to its bytes and to its count of failures.
-- The bytes are those of std's `Read` and `Write`: `Some` of them where they are known, and `None` says nothing.
use Rattle.std.specs.Prelude.{◌≡◌, ℕ, ◌+◌, ◌-◌, ◌^◌, ◌≤◌, ◌<◌, min, List, ◌++◌, length, Option, Result, MatchResult}
use Rattle.std.specs.Io.KnownBytes.{Appends, Consumes}

-- a device with a count of its failures
pub record CountedView (T : Type 0) : Type 0 where
  pub inner : T
  pub failures : ℕ

-- one failure more, where the count stays at its greatest
abbrev pub one_more : ℕ → ℕ
one_more n = min (n + 1) (2 ^ 64 - 1)

-- one call failed, and no other: the count rose by one, unless it stood at its greatest
abbrev pub Failed : ℕ → ℕ → Type 0
Failed old new = new ≡ one_more old

-- a read failed at `Err`, and only there
abbrev pub CountsRead : {E : Type 0} → ℕ → ℕ → Result ℕ E → Type 0
CountsRead old new r = MatchResult r (λ _. new ≡ old) (λ _. Failed old new)

-- a write that took so many bytes of the piece failed where it took none and there were some
pub record CountsTaken (old new taken : ℕ) (piece : List ℕ) : Type 0 where
  pub some : 0 < taken → new ≡ old
  pub empty : length piece ≡ 0 → new ≡ old
  pub none : taken ≡ 0 → 0 < length piece → Failed old new

-- a write failed at `Err`, and where it took no byte of a piece that is not empty
abbrev pub CountsWrite : {E : Type 0} → ℕ → ℕ → Result ℕ E → List ℕ → Type 0
CountsWrite old new r piece = MatchResult r (λ taken. CountsTaken old new taken piece) (λ _. Failed old new)

-- at most so many bytes were read
abbrev pub ConsumesAtMost : Option (List ℕ) → Option (List ℕ) → ℕ → Type 0
ConsumesAtMost old new most = (bytes : List ℕ) × Consumes old new bytes × (length bytes ≤ most)

-- known bytes grew by a beginning of these
abbrev pub AppendsBeginning : Option (List ℕ) → Option (List ℕ) → List ℕ → Type 0
AppendsBeginning old new bytes = (front : List ℕ) × (back : List ℕ) × (bytes ≡ front ++ back) × Appends old new front

-- they grew by a text that is so
abbrev pub AppendsSome : (List ℕ → Type 0) → Option (List ℕ) → Option (List ℕ) → Type 0
AppendsSome Is old new = (text : List ℕ) × Is text × Appends old new text

-- they grew by a text, but for what is left of it
pub record AppendsAllBut (old new : Option (List ℕ)) (text left : List ℕ) : Type 0 where
  pub written : List ℕ
  pub split : text ≡ written ++ left
  pub appends : Appends old new written
