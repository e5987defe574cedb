-- The texts that C reads of a hub.
use Rattle.std.specs.Prelude.{ℕ, List, [], Option, None, Some}
use Rattle.std.specs.Option.{option_map_or}
use Rattle.hub_base.specs.Journal.{JournalView}
use Rattle.hub_core.specs.HubView.{ShortInMemory}
use Rattle.hub_cut.specs.Recorder.{journal_of}
use Rattle.hub_session.specs.declared.session.Opened.{Opened}
use Rattle.hub_session.specs.declared.session.Opened.TheVariants.{Following}
use Rattle.hub_session.specs.declared.session.Session.{Session}
use Rattle.hub_session.specs.declared.text.Text.{Text}
use Rattle.hub_session.specs.declared.text.Text.TheVariants as text
use Rattle.hub_session.specs.declared.text.Source.{Source}
use Rattle.hub_session.specs.declared.text.Source.TheVariants as source
use Rattle.hub_session.specs.Hubs.{asked_in, before_in, given_in, present_in, waiting_in}
use Rattle.hub_session.specs.Pieces.{only_line, pieces}

-- the journal of which it is all; none where there is no such journal
abbrev pub journal_in : Text → Opened → Option ShortInMemory → Option JournalView
journal_in text.Present hub chapter = Some (present_in hub)
journal_in text.Before hub chapter = before_in hub
journal_in text.Waiting hub chapter = waiting_in chapter
journal_in text.Given hub chapter = given_in hub
journal_in text.Asked hub chapter = None

-- its pieces: of a journal, or the line that was asked
abbrev pub pieces_in : Text → Opened → Option ShortInMemory → List (List ℕ)
pieces_in text.Asked hub chapter = only_line (asked_in hub)
pieces_in other hub chapter = option_map_or pieces (journal_in other hub chapter) []

-- of a session
abbrev pub journal_of_text : Text → Session → Option JournalView
journal_of_text t s = journal_in t s.hub s.chapter

abbrev pub pieces_of : Text → Session → List (List ℕ)
pieces_of t s = pieces_in t s.hub s.chapter

-- ---- where pieces come from

abbrev pub journal_by : Source → Option JournalView
journal_by (source.Locked l) = Some (journal_of l.now.hub)
journal_by (source.Chapter h) = Some (journal_of h.now.memory.hub)
journal_by (source.Given f) = given_in (Following f.now)
journal_by (source.Asked f) = None
journal_by source.Nothing = None

abbrev pub pieces_by : Source → List (List ℕ)
pieces_by (source.Asked f) = only_line f.now.asked
pieces_by other = option_map_or pieces (journal_by other) []
