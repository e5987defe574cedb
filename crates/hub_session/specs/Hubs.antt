-- What is read alike of a hub whose journal ends at a limit, and of one that never ends.
use Rattle.std.specs.Prelude.{◌≡◌, Bool, true, false, List, Option, None, Some}
use Rattle.std.specs.Option.{option_map}
use Rattle.hub_base.specs.declared.counts.Look.{Look}
use Rattle.hub_base.specs.declared.head.Head.{Head}
use Rattle.hub_base.specs.declared.value.Pid.{Pid}
use Rattle.hub_base.specs.declared.value.Port.{Port}
use Rattle.hub_base.specs.Entry.{Entry}
use Rattle.hub_base.specs.Journal.{JournalView}
use Rattle.hub_base.specs.Runs.{state}
use Rattle.hub_core.specs.HubView.{ShortInMemory, state_of}
use Rattle.hub_core.specs.Looks.{look_at}
use Rattle.hub_chapters.specs.Chapters.{Chapters, history}
use Rattle.hub_cut.specs.declared.totals.Totals.{Totals}
use Rattle.hub_cut.specs.Recorder.{head_of_all, hub_in, journal_of}
use Rattle.hub_cut.specs.Totals.{totals_at}
use Rattle.hub_served.specs.Endless.{Explains}
use Rattle.hub_session.specs.declared.session.Opened.{Opened}
use Rattle.hub_session.specs.declared.session.Opened.TheVariants.{Limited, Endless, Following}

-- what the journal's head lines say
abbrev pub head_in : Opened → Head
head_in (Limited l) = l.hub.terms.head
head_in (Endless l) = head_of_all l.recorder
head_in (Following l) = l.locked.hub.terms.head

-- whose calls the last step ended
abbrev pub ended_in : Opened → List Pid
ended_in (Limited l) = l.ended
ended_in (Endless l) = l.ended
ended_in (Following l) = l.locked.ended

-- whether there is one
abbrev pub is_there : {A : Type 0} → Option A → Bool
is_there None = false
is_there (Some x) = true

-- the journal; of a hub that never ends, its present chapter
abbrev pub present_in : Opened → JournalView
present_in (Limited l) = journal_of l.hub
present_in (Endless l) = journal_of l.recorder.hub
present_in (Following l) = journal_of l.locked.hub

-- the chapter before it, where there is one
abbrev pub before_in : Opened → Option JournalView
before_in (Limited l) = None
before_in (Endless l) = option_map journal_of l.recorder.before
before_in (Following l) = None

-- the journal that the hub follows, where it follows one
abbrev pub given_in : Opened → Option JournalView
given_in (Limited l) = None
given_in (Endless l) = None
given_in (Following l) = Some (record { head = l.locked.hub.terms.head; entries = l.given })

-- the first step that was told as a divergence from it, if one was
abbrev pub asked_in : Opened → Option Entry
asked_in (Following l) = l.asked
asked_in other = None

-- the chapter that waits to be read, where one does
abbrev pub waiting_in : Option ShortInMemory → Option JournalView
waiting_in chapter = option_map (λ c. journal_of (hub_in c)) chapter

-- what a port holds and has carried, by a look at a hub that was never cut
abbrev pub totals_since : Look → Totals
totals_since look =
    record {
      cap = look.cap;
      len = look.counts.len;
      sent = look.counts.sent;
      received = look.counts.received;
      closed = look.counts.closed;
    }

-- what a look at a port shows: in a hub that never ends, what the whole history gives
abbrev pub IsLook : Opened → Port → Option Totals → Type 0
IsLook (Limited l) p look = look ≡ option_map totals_since (look_at (state_of l.hub) p)
IsLook (Following l) p look = look ≡ option_map totals_since (look_at (state_of l.locked.hub) p)
IsLook (Endless l) p look =
    (chapters : Chapters) → Explains chapters l → look ≡ totals_at (state (head_of_all l.recorder) (history chapters)) p
