-- What contracts see of the fields of a line that are still to be read: their list.
use Rattle.std.specs.Prelude.{ℕ, List, [], Option, None, Some}
use Rattle.std.specs.Borrow.{Bor}
use Rattle.hub_base.specs.Lines.{pieces}

-- the pieces of the rest, if there is a rest
abbrev pub pieces_left : ℕ → Option (Bor (List ℕ)) → List (List ℕ)
pieces_left mark None = []
pieces_left mark (Some rest) = pieces mark rest.now
