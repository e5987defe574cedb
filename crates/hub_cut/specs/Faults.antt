-- Why a text is not the next chapter of a chain. Entries begin on line 3.
use Rattle.std.specs.Prelude.{◌≡◌, ◌+◌, ◌++◌, ℕ, List, Some, slice_get, take}
use Rattle.hub_base.specs.Entry.{Entry}
use Rattle.hub_base.specs.declared.fault.Fault.{Fault}
use Rattle.hub_base.specs.declared.fault.Fault.TheVariants as fault
use Rattle.hub_base.specs.declared.head.Head.{Head}
use Rattle.hub_base.specs.declared.read_fault.ReadFault.{ReadFault}
use Rattle.hub_base.specs.declared.read_fault.ReadFault.TheVariants as read
use Rattle.hub_base.specs.Journal.{JournalView}
use Rattle.hub_base.specs.Runs.{state}
use Rattle.hub_base.specs.Steps.{refusal}
use Rattle.hub_base.specs.Text.{IsText, IsFaulty}
use Rattle.hub_laws.specs.Journals.{IsLegal}
use Rattle.hub_cut.specs.declared.fault.ChainFault.{ChainFault}
use Rattle.hub_cut.specs.declared.fault.ChainFault.TheVariants as chain

-- what a fault of a reading is told as
abbrev pub fault_of_read : ReadFault → ChainFault
fault_of_read (read.Text f) = chain.Text f
fault_of_read read.NoMemory = chain.NoMemory

-- what a refusal of the entry at this place is told as
abbrev pub refused_at : ℕ → Fault → ChainFault
refused_at place fault.NoMemory = chain.NoMemory
refused_at place other = chain.NotAdmitted (place + 3) other

-- the text says a journal of which this holds
pub record Says (text : List ℕ) (Holds : JournalView → Type 0) : Type 0 where
  pub journal : JournalView
  pub spelled : IsText text journal.head journal.entries
  pub holds : Holds journal

-- the entries and the checkpoint are the same before this line, and differ there
pub record DifferAt (line : ℕ) (entries checkpoint : List Entry) : Type 0 where
  pub place : ℕ
  pub entry : Entry
  pub is : line ≡ place + 3
  pub before : take place entries ≡ take place checkpoint
  pub missing : slice_get checkpoint place ≡ Some entry
  pub differs : ¬ (slice_get entries place ≡ Some entry)

-- the entries before this line are admitted, and that of the line is refused so
pub record RefusedAt (line : ℕ) (why : Fault) (given : JournalView) : Type 0 where
  pub place : ℕ
  pub entry : Entry
  pub is : line ≡ place + 3
  pub before : IsLegal given.head (take place given.entries)
  pub there : slice_get given.entries place ≡ Some entry
  pub refused : refusal (state given.head (take place given.entries)) entry.pid ≡ Some why

-- why a journal is not legal
abbrev pub IsRefused : JournalView → ChainFault → Type 0
IsRefused given (chain.NotAdmitted line why) = RefusedAt line why given
IsRefused given chain.NoMemory = Unit {0}
IsRefused given other = ⊥

-- why a chapter has not the head of the one before
abbrev pub IsOtherHead : Head → Head → ChainFault → Type 0
IsOtherHead chapter h chain.OtherEdition = ¬ (chapter.edition ≡ h.edition)
IsOtherHead chapter h chain.OtherProcs = (chapter.edition ≡ h.edition) × (¬ (chapter.procs ≡ h.procs))
IsOtherHead chapter h other = ⊥

-- why a chapter does not begin with this checkpoint
abbrev pub IsOtherBeginning : List Entry → List Entry → ChainFault → Type 0
IsOtherBeginning entries checkpoint (chain.OtherCheckpoint line) = DifferAt line entries checkpoint
IsOtherBeginning entries checkpoint other = ⊥

-- why a text is not that of a legal journal
abbrev pub IsNotLegal : List ℕ → ChainFault → Type 0
IsNotLegal text (chain.Text f) = IsFaulty text f.line f.kind
IsNotLegal text (chain.NotAdmitted line why) = Says text (RefusedAt line why)
IsNotLegal text chain.NoMemory = Unit {0}
IsNotLegal text other = ⊥

-- the journal has this head, and begins with this checkpoint
pub record GoesOn (last given : JournalView) : Type 0 where
  pub head : given.head ≡ last.head
  pub later : List Entry
  pub entries : given.entries ≡ last.entries ++ later

-- why a text is not the next chapter of a chain, which must begin with this journal
abbrev pub DoesNotFollow : JournalView → List ℕ → ChainFault → Type 0
DoesNotFollow last text chain.OtherEdition = Says text (λ j. IsOtherHead j.head last.head chain.OtherEdition)
DoesNotFollow last text chain.OtherProcs = Says text (λ j. IsOtherHead j.head last.head chain.OtherProcs)
DoesNotFollow last text (chain.OtherCheckpoint line) =
    Says text (λ j. (j.head ≡ last.head) × DifferAt line j.entries last.entries)
DoesNotFollow last text (chain.NotAdmitted line why) = Says text (λ j. GoesOn last j × RefusedAt line why j)
DoesNotFollow last text other = IsNotLegal text other
