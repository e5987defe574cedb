-- The pieces of a journal's text are the text.
use Rattle.std.specs.Prelude.{ℕ, List, [], ◌∷◌, ◌++◌, ◌≡◌, map}
use Rattle.std.specs.List.{flat_map}
use Rattle.std.proofs.Common.{refl, ap}
use Rattle.hub_base.specs.Entry.{Entry}
use Rattle.hub_base.specs.Lines.{line}
use Rattle.hub_base.specs.Reading.{head_lines}
use Rattle.hub_session.specs.Pieces.{AreText}

-- what is appended for each line is what is for each entry
lines-joined : (es : List Entry) → flat_map (λ piece. piece) (map line es) ≡ flat_map line es
lines-joined [] = refl
lines-joined (e ∷ es) = ap (λ (rest : List ℕ). line e ++ rest) (lines-joined es)

pub pieces_are_text : AreText
pieces_are_text j = ap (λ (rest : List ℕ). head_lines j.head ++ rest) (lines-joined j.entries)
