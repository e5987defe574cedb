-- Worked rows: texts that a reader of XML takes, and texts that it refuses.
use Rattle.std.specs.Prelude.{◌≡◌, ℕ, Bool, true, List, [], ◌∷◌, codes, map, refl}
use Rattle.hub_picture.specs.Xml.{IsBegun, IsDocument, after, is_broken}
use Rattle.hub_picture.specs.Xml.State.{Start}

pub whole_row : IsDocument (codes "<a b=\"1\" c=\"\">x <d/>\n<e f=\"2\">y</e></a>\n")
whole_row = refl

pub begun_row : IsBegun (codes "<a b=\"1")
begun_row = refl

abbrev no_xml : List ℕ → Bool
no_xml text = is_broken (after Start text)

-- elements that are closed in the wrong order or twice, and a second root; an attribute without quotation marks, without a value, or twice;
-- what would have to be escaped, in a text and in a value; and no element
pub no_xml_row : map no_xml (codes "<a><b></a>" ∷ codes "<a></a></a>" ∷ codes "<a/><b/>" ∷ codes "<a b=1>" ∷ codes "<a b>"
    ∷ codes "<a b=\"1\" b=\"2\">" ∷ codes "<a>1 < 2</a>" ∷ codes "<a>1 & 2</a>" ∷ codes "<a b=\"<\">" ∷ codes "a" ∷ [])
    ≡ true ∷ true ∷ true ∷ true ∷ true ∷ true ∷ true ∷ true ∷ true ∷ true ∷ []
no_xml_row = refl
