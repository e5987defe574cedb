-- Worked rows of both readers: texts that they take, and texts that they refuse.
use Rattle.std.specs.Prelude.{◌≡◌, List, [], ◌∷◌, ℕ, codes, Bool, true, map, refl}
use Rattle.hub_trace.specs.Json as json
use Rattle.hub_trace.specs.Json.{IsBegun, IsJson}
use Rattle.hub_trace.specs.Diagrams as diagrams
use Rattle.hub_trace.specs.Diagrams.{IsDiagram}

pub json_row : IsJson (codes "{\"a\":[1,{\"b\":\"c d\"},3.25],\n \"d\":[]}\n")
json_row = refl

-- a beginning, which is no whole value
pub begun_row : IsBegun (codes "[10,{\"a\":\"b")
begun_row = refl

abbrev no_json : List ℕ → Bool
no_json text = json.is_broken (json.after json.start text).place

-- a comma too many or too few, a zero before a number, a point behind one, a string without its end, a bracket too many, one of a wrong
-- kind, a key without a value, and a second value
pub no_json_row : map no_json (codes "[1,]" ∷ codes "[\"a\"\"b\"]" ∷ codes "[01]" ∷ codes "[1.]" ∷ codes "[\"a\n\"]" ∷ codes "[1]]" ∷ codes "[1}"
    ∷ codes "{\"a\"}" ∷ codes "1 2" ∷ [])
    ≡ true ∷ true ∷ true ∷ true ∷ true ∷ true ∷ true ∷ true ∷ true ∷ []
no_json_row = refl

pub diagram_row : IsDiagram (codes "sequenceDiagram\n    P0->>P1: 3: #35;00 on port 2\n")
diagram_row = refl

abbrev no_diagram : List ℕ → Bool
no_diagram text = diagrams.is_broken (diagrams.after diagrams.start text)

-- another title, a line without its margin, a sign and a semicolon that are not escaped, and a control character
pub no_diagram_row : map no_diagram (codes "graph\n" ∷ codes "sequenceDiagram\nP0"
    ∷ codes "sequenceDiagram\n    #00" ∷ codes "sequenceDiagram\n    a;b"
    ∷ codes "sequenceDiagram\n    a\tb" ∷ [])
    ≡ true ∷ true ∷ true ∷ true ∷ true ∷ []
no_diagram_row = refl
