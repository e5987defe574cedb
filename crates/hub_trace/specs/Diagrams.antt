-- Diagrams that Mermaid takes: lines of which the first is `sequenceDiagram`, and each other one begins with four spaces.
use Rattle.std.specs.Prelude.{◌≡◌, ℕ, ◌==◌, ◌&&◌, ◌||◌, not, nat_le, Bool, true, false, List, [], ◌∷◌, codes, if◌then◌else◌}
use Rattle.std.specs.List.{fold}

-- where a reader stands, byte by byte: these bytes are due, and then the rest of a line; or behind what is no diagram
pub data Place : Type 0 where
  Due : List ℕ → Place
  Broken : Place

-- a byte that Mermaid does not read as its own: behind `;`, which is 59, it reads a new line, and behind `#`, which is 35, a sign's number
abbrev pub is_plain : ℕ → Bool
is_plain c = nat_le 32 c && (nat_le c 126 && not ((c == 35) || (c == 59)))

-- behind a newline four spaces are due, and behind `#` its own number
abbrev pub in_line : ℕ → Place
in_line c =
    if c == 10 then Due (codes "    ") else if c == 35 then Due (codes "35;") else if is_plain c then Due [] else Broken

abbrev pub step : Place → ℕ → Place
step (Due []) c = in_line c
step (Due (d ∷ ds)) c = if c == d then Due ds else Broken
step Broken c = Broken

abbrev pub after : Place → List ℕ → Place
after p text = fold step p text

abbrev pub start : Place
start = Due (codes "sequenceDiagram\n    ")

abbrev pub is_broken : Place → Bool
is_broken Broken = true
is_broken other = false

-- nothing in it is no diagram
abbrev pub IsBegun : List ℕ → Type 0
IsBegun text = is_broken (after start text) ≡ false

-- whole lines
abbrev pub IsDiagram : List ℕ → Type 0
IsDiagram text = after start text ≡ Due (codes "    ")
