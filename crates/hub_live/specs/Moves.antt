-- What each step on a hub's words changes in the view of the seat that makes it.
use Rattle.std.specs.Prelude.{◌≡◌, ℕ, ◌+◌, ◌==◌, ◌<◌, ◌≤◌, List, [], ◌∷◌, ◌++◌, Some, None, MatchBool}
use mathlib.Core.List.{IsPrefix}
use Rattle.atomic_table.specs.Table.{Me, Step}
use Rattle.hub_base.specs.Entry.{Entry}
use Rattle.hub_base.specs.declared.entry.Step.TheVariants.{Exit}
use Rattle.hub_base.specs.declared.limits.TheConstants.{MOST_PORTS}
use Rattle.hub_live.specs.declared.rule.View.{View}
use Rattle.hub_core.specs.declared.terms.Terms.{Terms}
use Rattle.hub_live.specs.Mark.{mark, MarksOne, IsOther}
use Rattle.hub_live.specs.Rule.{IsHistory, Knows}

abbrev pub no_entry : Entry
no_entry = record { pid = record { 0 = 0 }; step = Exit }

-- ---- a look

-- what was seen begins the journal, and is all that the number has to know
pub record Knew (journal seen : List Entry) (n : ℕ) : Type 0 where
  pub begins : IsPrefix seen journal
  pub knows : Knows journal seen n

-- the view v, and then the view w of the same seat, which has seen the journal
pub record Sees (v w : View) : Type 0 where
  pub terms : w.terms ≡ v.terms
  pub number : w.number ≡ v.number
  pub joined : w.joined ≡ v.joined
  pub history : IsHistory v.terms w.seen
  pub own : (n : ℕ) → v.number ≡ Some n → Knew w.seen v.seen n

-- the same of a seat that may have taken in another, which has then seen as much
pub record SeesBoth (v w : View) : Type 0 where
  pub sees : Sees v w
  pub both : w.joined_seen ≡ w.seen
  pub others : (n : ℕ) → v.joined ≡ Some n → Knew w.seen v.joined_seen n

abbrev pub Looked : Step (Unit {0}) → Me (Unit {0}) View → ℕ → Me (Unit {0}) View → Type 0
Looked s v found w =
    (w.1 ≡ v.1) × SeesBoth v.0 w.0
    × (0 < s.word → s.word ≤ MOST_PORTS → found ≡ mark v.0.terms.head w.0.seen s.word)

-- ---- a number is drawn

abbrev pub numbered : View → ℕ → View
numbered v k = record v { number = Some k }

abbrev pub Entered : Step (Unit {0}) → Me (Unit {0}) View → ℕ → Me (Unit {0}) View → Type 0
Entered s v found w = w ≡ (v.0, [])

-- where the word held another number, nothing changes
abbrev pub Drew : Step (Unit {0}) → Me (Unit {0}) View → ℕ → Me (Unit {0}) View → Type 0
Drew s v found w =
    (w.1 ≡ v.1) × MatchBool (found == s.first) (w.0 ≡ numbered v.0 s.first) (w.0 ≡ v.0)

-- ---- an entry is published

-- the view is the hub's, joined to that of the entry's process, and has seen the journal. With the entry
-- this is a journal still, whose mark of this number, but for number 0, is another than before; and no
-- other mark has changed
pub record IsNext (t : Terms) (v : View) (n new : ℕ) (e : Entry) : Type 0 where
  pub hub : v.number ≡ Some 0
  pub caller : v.joined ≡ Some (e.pid.0 + 1)
  pub history : IsHistory t (v.seen ++ e ∷ [])
  pub word : n ≤ MOST_PORTS
  pub mark : MarksOne t.head v.seen e n new
  pub other : IsOther t.head v.seen n new

-- both histories of a seat that knows the journal gain the entry
abbrev pub grown : View → Entry → View
grown v e = record v { seen = v.seen ++ e ∷ []; joined_seen = v.seen ++ e ∷ [] }

abbrev pub Published :
    Entry → Step (Unit {0}) → Me (Unit {0}) View → ℕ → Me (Unit {0}) View → Type 0
Published e s v found w = (w.0 ≡ grown v.0 e) × (w.1 ≡ v.1)

-- ---- two seats

-- v takes in w
abbrev pub with_joined : View → View → View
with_joined v w = record v { joined = w.number; joined_seen = w.seen }

-- v without the seat that it took in
abbrev pub parted : View → View
parted v = record v { joined = None; joined_seen = [] }

-- that seat, with what v has seen for it
abbrev pub given_back : View → View
given_back v =
    record {
      terms = v.terms;
      number = v.joined;
      seen = v.joined_seen;
      joined = None;
      joined_seen = [];
    }

-- the views v and v' of two seats, and then their views w and w', which have seen one journal
pub record Met (v v' w w' : View) : Type 0 where
  pub first : Sees v w
  pub second : Sees v' w'
  pub together : w.seen ≡ w'.seen
