-- What C reads of a hub, which stays as it is.
use Rattle.std.specs.Prelude.{◌≡◌, ℕ, List, [], length, drop, Option, None, Some, IfSome, option_and_then}
use Rattle.std.specs.Option.{option_map, option_map_or}
use Rattle.hub_base.specs.Entry.{Entry}
use Rattle.hub_base.specs.Journal.{JournalView}
use Rattle.hub_base.specs.Notation.{port}
use Rattle.hub_cut.specs.declared.totals.Totals.{Totals}
use Rattle.hub_served.specs.Clock.{clock_of}
use Rattle.hub_served.specs.Follow.{next_of, step_of}
use Rattle.hub_session.specs.declared.session.Opened.{Opened}
use Rattle.hub_session.specs.declared.session.Opened.TheVariants.{Following}
use Rattle.hub_session.specs.declared.session.Session.{Session}
use Rattle.hub_session.specs.declared.structs.CountsC.{CountsC}
use Rattle.hub_session.specs.declared.structs.NextC.{NextC}
use Rattle.hub_session.specs.declared.structs.PieceC.{PieceC}
use Rattle.hub_session.specs.declared.structs.TheConstants.{NO_CLOCK}
use Rattle.hub_session.specs.declared.text.Text.{Text}
use Rattle.hub_session.specs.Hubs.{IsLook, present_in}
use Rattle.hub_session.specs.Pieces.{AreText, IsLegalJournal, Reads}
use Rattle.hub_session.specs.Texts.{journal_of_text, pieces_of}
use Rattle.hub_session.specs.Tells.{bit_of, clock_told, counts_told, next_told}

-- ---- a port
-- what a look at a port shows
pub record LooksIn (s : Session) (p : ℕ) (told : CountsC) : Type 0 where
  pub look : Option Totals
  pub is_look : IsLook s.hub (port p) look
  pub tells : told ≡ counts_told look

-- of whoever has a hub
abbrev pub Looks : Option Session → ℕ → CountsC → Type 0
Looks None p told = told ≡ counts_told None
Looks (Some s) p told = LooksIn s p told

-- ---- whose step is next
-- the bit of the process whose step is the next of the journal that the hub follows; 0 if there is none
abbrev pub next_in : Opened → ℕ
next_in (Following l) = option_map_or bit_of (next_of l) 0
next_in other = 0

abbrev pub next_bits : Option Session → ℕ
next_bits s = option_map_or (λ s. next_in s.hub) s 0

-- ---- the journal that is followed
-- a process's next step of it, with its number
abbrev pub step_in : Opened → ℕ → Option (ℕ × Entry)
step_in (Following l) pid = step_of l (record { 0 = pid })
step_in other pid = None

abbrev pub next_step : Option Session → ℕ → NextC
next_step s pid = next_told (option_and_then (λ s. step_in s.hub pid) s)

-- the number of its clock
abbrev pub clock_in : Opened → ℕ
clock_in (Following l) = clock_told (clock_of l.locked.hub.terms.head l.given)
clock_in other = NO_CLOCK

abbrev pub clock_number : Option Session → ℕ
clock_number s = option_map_or (λ s. clock_in s.hub) s NO_CLOCK

-- ---- journals
-- the journal; of a hub that never ends, its present chapter
abbrev pub present_of : Option Session → Option JournalView
present_of s = option_map (λ s. present_in s.hub) s

-- how many entries the journal has
abbrev pub entries_of : Option Session → ℕ
entries_of s = option_map_or (λ j. length j.entries) (present_of s) 0

-- all is as before, but for the room where pieces are put together
pub record StaysIn (was now : Session) : Type 0 where
  pub hub : now.hub ≡ was.hub
  pub chapter : now.chapter ≡ was.chapter
  pub hands_out : now.hands_out ≡ was.hands_out

abbrev pub Stays : Option Session → Option Session → Type 0
Stays None now = now ≡ None
Stays (Some was) None = ⊥
Stays (Some was) (Some now) = StaysIn was now

-- pieces of a text are read from this number on; if it is a journal's, that is legal, and all pieces in order are the text
pub record ReadsText (t : Text) (was : Option Session) (number : ℕ) (now : Option Session) (place filled : List ℕ) (told : PieceC) : Type 0 where
  pub reads : Reads (drop number (option_map_or (pieces_of t) was [])) place filled told
  pub stays : Stays was now
  pub whole : AreText
  pub lawful : IfSome (option_and_then (journal_of_text t) was) IsLegalJournal
