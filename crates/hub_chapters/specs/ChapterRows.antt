-- Worked rows of checkpoints and chapters, each by hand from what they mean.
use Rattle.std.specs.Prelude.{◌≡◌, ◌==◌, ◌||◌, Bool, true, false, List, [], ◌∷◌, Some, None, refl}
use Rattle.hub_base.specs.Entry.{Entry}
use Rattle.hub_base.specs.declared.event.Outcome.TheVariants.{Sent}
use Rattle.hub_base.specs.declared.event.What.TheVariants as what
use Rattle.hub_base.specs.declared.head.Edition.TheVariants.{One}
use Rattle.hub_base.specs.Head.{head_of}
use Rattle.hub_base.specs.Notation.{procs, procs_two, port, s, r, make, select, send, recv, close, exit, cancel, case, told, got, parked, procs_three}
use Rattle.hub_base.specs.Notation.{start, reopen}
use Rattle.hub_base.specs.Runs.{state, events_after}
use Rattle.hub_base.specs.Value.{value_of}
use Rattle.hub_laws.specs.Journals.{IsLegal}
use Rattle.hub_chapters.specs.Alike.{Alike}
use Rattle.hub_chapters.specs.Checkpoint.{checkpoint, most_steps}
use Rattle.hub_chapters.specs.Chapters.{Chapters, history, last_chapter, told_in, AreLegal}
use Rattle.hub_chapters.specs.Chapters.Chapters.{First, Cut}
use Rattle.hub_chapters.specs.Owed.{reply_in}
use Rattle.hub_chapters.specs.Carried.{carried, base_count, sent_count, received_count}

-- ---- checkpoints

-- three ports: of the first one value is received and one is buffered; on the second process 1 waits; the third
-- is closed with a value in it. Process 2 has exited
abbrev busy_hub : List Entry
busy_hub =
    make 0 2 ∷ send 0 1 7 ∷ make 0 0 ∷ send 2 1 8 ∷ make 2 1
    ∷ recv 1 1 ∷ send 2 3 4 ∷ recv 1 2 ∷ exit 2 ∷ close 0 3 ∷ []

abbrev after_busy_hub : List Entry
after_busy_hub =
    make 0 2 ∷ send 0 1 8
    ∷ make 0 0
    ∷ make 0 1 ∷ send 0 3 4 ∷ close 0 3
    ∷ exit 2
    ∷ recv 1 2 ∷ []

pub busy_hub_row : checkpoint (state (procs 3) busy_hub) ≡ after_busy_hub
busy_hub_row = refl

pub busy_hub_is_legal : IsLegal (procs 3) after_busy_hub
busy_hub_is_legal = refl

-- it is its own checkpoint
pub checkpoint_row : checkpoint (state (procs 3) after_busy_hub) ≡ after_busy_hub
checkpoint_row = refl

pub empty_hub_row : checkpoint (state (procs 2) []) ≡ []
empty_hub_row = refl

-- two receivers wait, the older one of the greater number, so it is served first
abbrev two_wait : List Entry
two_wait = make 0 0 ∷ recv 2 1 ∷ recv 1 1 ∷ []

pub two_wait_row : checkpoint (state (procs 3) two_wait) ≡ two_wait
two_wait_row = refl

pub older_is_served_row :
    events_after (state (procs 3) (checkpoint (state (procs 3) two_wait))) (send 0 1 5 ∷ [])
    ≡ case 0 0 Sent ∷ case 2 0 (got 5) ∷ []
older_is_served_row = refl

-- values come in the order in which they were sent
pub values_row :
    checkpoint (state (procs 2) (make 1 3 ∷ send 1 1 9 ∷ send 0 1 5 ∷ recv 0 1 ∷ send 1 1 7 ∷ send 0 1 6 ∷ []))
    ≡ make 0 3 ∷ send 0 1 5 ∷ send 0 1 7 ∷ send 0 1 6 ∷ []
values_row = refl

-- a sender waits at a full buffer
pub full_buffer_row :
    checkpoint (state (procs 2) (make 0 1 ∷ send 1 1 7 ∷ send 1 1 8 ∷ []))
    ≡ make 0 1 ∷ send 0 1 7 ∷ send 1 1 8 ∷ []
full_buffer_row = refl

-- a select waits with all its cases; its word chose none
pub select_row :
    checkpoint (state (procs 2) (make 0 0 ∷ make 0 0 ∷ select 1 9 (r 1 ∷ s 2 4 ∷ []) false ∷ []))
    ≡ make 0 0 ∷ make 0 0 ∷ select 1 0 (r 1 ∷ s 2 4 ∷ []) false ∷ []
select_row = refl

-- exits come by number
pub exits_row : checkpoint (state (procs 4) (exit 3 ∷ exit 1 ∷ [])) ≡ exit 1 ∷ exit 3 ∷ []
exits_row = refl

-- all have exited, process 0 too, which makes the ports before
pub all_gone_row :
    checkpoint (state (procs 2) (make 1 1 ∷ send 1 1 3 ∷ exit 1 ∷ exit 0 ∷ []))
    ≡ make 0 1 ∷ send 0 1 3 ∷ exit 0 ∷ exit 1 ∷ []
all_gone_row = refl

-- a port that is closed and drained
pub drained_row :
    checkpoint (state (procs 1) (make 0 2 ∷ send 0 1 7 ∷ close 0 1 ∷ recv 0 1 ∷ recv 0 1 ∷ []))
    ≡ make 0 2 ∷ close 0 1 ∷ []
drained_row = refl

-- calls that ended are none of it: by a stall, by a cancel
pub stalled_row : checkpoint (state (procs 1) (make 0 0 ∷ recv 0 1 ∷ [])) ≡ make 0 0 ∷ []
stalled_row = refl

pub cancelled_row : checkpoint (state (procs_two 2) (make 0 0 ∷ send 1 1 5 ∷ cancel 0 1 ∷ [])) ≡ make 0 0 ∷ []
cancelled_row = refl

-- entries that were refused, and faults, leave nothing
pub refused_row : checkpoint (state (procs 1) (make 0 1 ∷ exit 9 ∷ close 0 0 ∷ recv 0 7 ∷ [])) ≡ make 0 1 ∷ []
refused_row = refl

-- nor do starts and reopens: who was started again has no exit there, and a port that was opened again has its new capacity
pub lives_row :
    checkpoint (state (procs_three 3) (
    make 0 1 ∷ send 0 1 4 ∷ close 0 1 ∷ recv 0 1 ∷ exit 1 ∷ exit 2 ∷ start 0 1 ∷ reopen 0 1 2 ∷ send 1 1 5 ∷ []))
    ≡ make 0 2 ∷ send 0 1 5 ∷ exit 2 ∷ []
lives_row = refl

-- so many steps a checkpoint has at most
pub most_steps_row : most_steps (head_of One 64) ≡ 65728
most_steps_row = refl

-- ---- alike

-- what was sent and received before makes no difference, nor the order of exits
pub alike_row :
    Alike (state (procs 3) (make 0 1 ∷ send 0 1 7 ∷ recv 0 1 ∷ exit 2 ∷ exit 1 ∷ []))
    (state (procs 3) (exit 1 ∷ make 0 1 ∷ exit 2 ∷ []))
alike_row = record { head = refl; gone = λ q. by (2 == q) (1 == q); parked = refl; channels = refl }
  where
    by : (a b : Bool) → (a || (b || false)) ≡ (b || (a || false))
    by true true = refl
    by true false = refl
    by false true = refl
    by false false = refl

-- ---- chapters

-- process 1 waits on port 1 at the first cut, gets 5 in the second chapter, and receives 6 in the third
abbrev first_chapter : Chapters
first_chapter = First (make 0 1 ∷ send 0 1 4 ∷ recv 1 1 ∷ recv 1 1 ∷ [])

abbrev two_chapters : Chapters
two_chapters = Cut first_chapter (send 0 1 5 ∷ send 0 1 6 ∷ [])

abbrev three_chapters : Chapters
three_chapters = Cut two_chapters (recv 1 1 ∷ send 0 1 7 ∷ [])

abbrev whole : List Entry
whole = make 0 1 ∷ send 0 1 4 ∷ recv 1 1 ∷ recv 1 1 ∷ send 0 1 5 ∷ send 0 1 6 ∷ recv 1 1 ∷ send 0 1 7 ∷ []

pub history_row : history three_chapters ≡ whole
history_row = refl

pub second_chapter_row :
    last_chapter (procs 2) two_chapters ≡ make 0 1 ∷ recv 1 1 ∷ send 0 1 5 ∷ send 0 1 6 ∷ []
second_chapter_row = refl

pub last_chapter_row :
    last_chapter (procs 2) three_chapters ≡ make 0 1 ∷ send 0 1 6 ∷ recv 1 1 ∷ send 0 1 7 ∷ []
last_chapter_row = refl

pub legal_row : AreLegal (procs 2) three_chapters
legal_row = ((refl, refl), refl)

pub told_row :
    told_in (procs 2) three_chapters
    ≡ told 0 (what.Made (port 1)) ∷ case 0 0 Sent ∷ case 1 0 (got 4) ∷ parked 1
    ∷ case 0 0 Sent ∷ case 1 0 (got 5) ∷ case 0 0 Sent
    ∷ case 1 0 (got 6) ∷ case 0 0 Sent ∷ []
told_row = refl

-- ---- replies

-- process 1 waited at the cut, and its reply comes behind it
pub owed_row : reply_in 1 (procs 2) first_chapter (send 0 1 5 ∷ []) ≡ Some (case 1 0 (got 5))
owed_row = refl

-- what was told before the cut is no reply behind it
pub untold_row : reply_in 1 (procs 2) (First (make 0 1 ∷ send 0 1 4 ∷ recv 1 1 ∷ [])) (send 0 1 5 ∷ []) ≡ None
untold_row = refl

-- ---- counts

pub carried_row : carried (procs 2) three_chapters (port 1) ≡ value_of 4 ∷ value_of 5 ∷ []
carried_row = refl

pub base_row : base_count (procs 2) three_chapters (port 1) ≡ 2
base_row = refl

-- the last chapter sends 6, which was buffered, and 7, and it receives 6; in all four are sent and three received
pub sent_row : sent_count (state (procs 2) (last_chapter (procs 2) three_chapters)) (port 1) ≡ 2
sent_row = refl

pub received_row : received_count (state (procs 2) (last_chapter (procs 2) three_chapters)) (port 1) ≡ 1
received_row = refl

pub all_sent_row : sent_count (state (procs 2) whole) (port 1) ≡ 4
all_sent_row = refl

pub all_received_row : received_count (state (procs 2) whole) (port 1) ≡ 3
all_received_row = refl
