-- What holds of a hub's words and of what its seats know, between any two steps.
use Rattle.std.specs.Prelude.{◌≡◌, ℕ, zero, suc, ◌+◌, ◌<◌, ◌≤◌, List, [], length, slice_index, Some, None}
use mathlib.Core.Option.{some}
use mathlib.Core.List.{IsPrefix}
use lib.ListN.{get_elem?}
use Rattle.atomic_table.specs.Table.{State}
use Rattle.hub_base.specs.Entry.{Entry}
use Rattle.hub_base.specs.declared.limits.TheConstants.{MOST_PORTS, MOST_STEPS}
use Rattle.hub_base.specs.Text.{steps_of}
use Rattle.hub_base.specs.declared.head.Edition.TheVariants.{One}
use Rattle.hub_core.specs.HubView.{terms_of}
use Rattle.hub_laws.specs.Journals.{IsLegal}
use Rattle.hub_laws.specs.Replies.{own}
use Rattle.hub_core.specs.declared.terms.Terms.{Terms}
use Rattle.hub_live.specs.declared.rule.View.{View}
use Rattle.hub_live.specs.Mark.{mark}

-- the words: those from 1 to `MOST_PORTS` hold the marks of the ports of these numbers, the last one the
-- next number to be drawn. Of word 0 nothing is known
abbrev pub word_count : ℕ
word_count = MOST_PORTS + 2

abbrev pub next_word : ℕ
next_word = MOST_PORTS + 1

-- what a journal of a hub is
pub record IsHistory (t : Terms) (journal : List Entry) : Type 0 where
  pub legal : IsLegal t.head journal
  pub few : steps_of journal ≤ MOST_STEPS

-- a new seat, which has no number yet
abbrev pub blank : Terms → View
blank t = record { terms = t; number = None; seen = []; joined = None; joined_seen = [] }

-- a seat that another took in
abbrev pub spent : View
spent = blank (terms_of One 0 0)

-- number 0, the hub's, has seen the whole journal, a process's number every entry of the process
abbrev pub Knows : List Entry → List Entry → ℕ → Type 0
Knows journal seen zero = seen ≡ journal
Knows journal seen (suc p) = own p journal ≡ own p seen

-- of a number and what its holder has seen. `at` tells which seat holds a number, so no two do
pub record Holds
    (t : Terms) (journal : List Entry) (at : ℕ → ℕ) (next id : ℕ) (v : View)
    (seen : List Entry) (n : ℕ) : Type 0 where
  pub terms : v.terms ≡ t
  pub here : at n ≡ id
  pub drawn : n < next
  pub begins : IsPrefix seen journal
  pub knows : Knows journal seen n

-- of the view of a seat: the numbers that it has
pub record Fits
    (t : Terms) (journal : List Entry) (at : ℕ → ℕ) (next id : ℕ) (v : View) : Type 0 where
  pub own : (n : ℕ) → v.number ≡ Some n → Holds t journal at next id v v.seen n
  pub joined : (n : ℕ) → v.joined ≡ Some n → Holds t journal at next id v v.joined_seen n
  pub apart : (n : ℕ) → v.number ≡ Some n → v.joined ≡ Some n → ⊥

-- the rule
pub record Kept (t : Terms) (s : State (Unit {0}) View) : Type 0 where
  pub journal : List Entry
  pub at : ℕ → ℕ
  pub count : length s.words ≡ word_count
  pub history : IsHistory t journal
  pub marks : (n : ℕ) → 0 < n → n ≤ MOST_PORTS → slice_index s.words n ≡ mark t.head journal n
  -- a process whose number is not drawn has no entry
  pub drawn : (p : ℕ) → slice_index s.words next_word ≤ p + 1 → own p journal ≡ []
  pub fits :
      (id : ℕ) (v : View) → get_elem? s.views id ≡ some v →
      Fits t journal at (slice_index s.words next_word) id v
