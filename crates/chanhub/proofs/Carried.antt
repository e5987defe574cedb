-- What was done for a request is what the program has done; and why a request was refused, why the program did nothing.
use Rattle.std.proofs.Common.{◌≡◌, ℕ, zero, suc, arith, List, Bool, Option, Ok, inl, inr, refl, codes}
use Rattle.hub_laws.specs.Journals.{IsLegal}
use Rattle.chanhub.specs.Words.{AsksFor, AsksForReplay}
use Rattle.chanhub.specs.declared.words.request.ArgumentsFault.{ArgumentsFault}
use Rattle.chanhub.specs.declared.words.request.ArgumentsFault.TheVariants as arguments
use Rattle.hub_replay.specs.Devices.{AppendsBeginning}
use Rattle.hub_replay.specs.Replay.{Replays}
use Rattle.hub_runner.specs.declared.report.Report.{Report}
use Rattle.hub_runner.specs.Reports.{IsReportOf}
use Rattle.hub_runner.specs.Scripts.{AllFollow}
use Rattle.hub_scenario.specs.Scenario.{ScenarioData, reading, run_head}
use Rattle.chanhub.specs.declared.outcome.Outcome.{Outcome}
use Rattle.chanhub.specs.declared.outcome.Outcome.TheVariants.{Done, Stalled}
use Rattle.chanhub.specs.declared.refusal.Refusal.{Refusal}
use Rattle.chanhub.specs.Promises.{HasDone, HasBegun, HasRefused, IsRefused, TellsStalls, printed, TellsComparison}
use Rattle.chanhub.specs.Promises.{TakesScenario, RunsScenario, RefusesReplay, RefusesFiles, RefusesScenario}
use Rattle.chanhub.specs.Refusals.{of_arguments}

-- a refusal whose failed write says more
pub refused-more : (why : Refusal) {unchanged failed begun more : Type 0} → (begun → more) → IsRefused why unchanged failed begun
    → IsRefused why unchanged failed more
refused-more why says r = record { unwritten = r.unwritten; write = λ is. let (failed, begun) = r.write is in (failed, says begun) }

-- a run has one of the two outcomes
pub some-outcome : (stalled : ℕ) → (outcome : Outcome) × TellsStalls outcome stalled
some-outcome zero = (Done, refl)
some-outcome (suc n) = (Stalled, omega arith)

-- a run, and what holds of the text that tells it
pub ran : (bytes : List ℕ) (journal : Bool) (scenario : ScenarioData) (report : Report) → reading bytes ≡ Ok scenario
    → report.journal.head ≡ run_head scenario → IsLegal report.journal.head report.journal.entries → AllFollow scenario report.journal.entries
    → IsReportOf report.journal report → (outcome : Outcome) (Writes : List ℕ → Type 0) → TellsStalls outcome report.stalled
    → Writes (printed journal report) → RunsScenario bytes journal outcome Writes
ran bytes journal s r said head legal follows told outcome Writes stalls written =
    record { scenario = s; report = r; said = said; head = head; legal = legal; follows = follows; told = told; stalls = stalls; written = written }

module _ (words : List (List ℕ)) (unread left : Option (List ℕ)) (alone : Type 0) where
  module _ (outcome : Outcome) (Writes : List ℕ → Type 0) where
    pub has-verified : AsksFor (codes "verify") words → alone →
        (journal : List ℕ) × (events : List ℕ) × TellsComparison journal events outcome Writes →
        HasDone words outcome unread left alone Writes
    has-verified asked untouched (journal, events, tells) =
        inr (inl (record { asked = asked; untouched = untouched; journal = journal; events = events; tells = tells }))

    pub has-run : (journal : Bool) → AsksFor (codes "run") words →
        (bytes : List ℕ) × TakesScenario unread left alone bytes × RunsScenario bytes journal outcome Writes →
        HasDone words outcome unread left alone Writes
    has-run journal asked (bytes, taken, runs) =
        inr (inr (record { asked = asked; bytes = bytes; taken = taken; journal = journal; runs = runs }))

  module _ (held holds : Option (List ℕ)) where
    pub begun-replay : AsksForReplay words → Replays unread left (AppendsBeginning held holds) → HasBegun words unread left alone held holds
    begun-replay asked replays = (Done, inl (record { asked = asked; done = refl; replays = replays }))

    pub begun-verify : AsksFor (codes "verify") words → alone →
        (outcome : Outcome) × (journal : List ℕ) × (events : List ℕ) × TellsComparison journal events outcome (AppendsBeginning held holds) →
        HasBegun words unread left alone held holds
    begun-verify asked untouched (outcome, journal, events, tells) =
        (outcome, has-verified outcome (AppendsBeginning held holds) asked untouched (journal, events, tells))

    pub begun-run : (journal : Bool) → AsksFor (codes "run") words →
        (outcome : Outcome) × (bytes : List ℕ) × TakesScenario unread left alone bytes × RunsScenario bytes journal outcome (AppendsBeginning held holds) →
        HasBegun words unread left alone held holds
    begun-run journal asked (outcome, bytes, taken, runs) =
        (outcome, has-run outcome (AppendsBeginning held holds) journal asked (bytes, taken, runs))

  module _ (failed : Type 0) where
    pub refused-arguments : (fault : ArgumentsFault) → alone → ¬ AsksForReplay words →
        HasRefused words (of_arguments fault) unread left alone failed
    refused-arguments arguments.BadArguments untouched other = inr (inr (inr (untouched, other, inl refl)))
    refused-arguments arguments.NoMemory untouched other = inr (inr (inr (untouched, other, inr refl)))

    module _ (why : Refusal) where
      pub refused-replay : AsksForReplay words → RefusesReplay unread left failed why → HasRefused words why unread left alone failed
      refused-replay asked found = inl (asked, found)

      pub refused-verify : AsksFor (codes "verify") words → alone → RefusesFiles why → HasRefused words why unread left alone failed
      refused-verify asked untouched found = inr (inl (asked, untouched, found))

      pub refused-run : AsksFor (codes "run") words → RefusesScenario unread left alone failed why → HasRefused words why unread left alone failed
      refused-run asked found = inr (inr (inl (asked, found)))
