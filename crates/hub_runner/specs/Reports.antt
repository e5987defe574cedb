-- What the report of a journal tells: of each port what it carried, from the state that the journal
-- leads to; and how many calls stalled and how many faults were told, from its events.
use Rattle.std.specs.Prelude.{◌≡◌, ℕ, ◌-◌, Bool, List, length, map, filter}
use Rattle.std.specs.List.{sum_by}
use Rattle.hub_base.specs.declared.head.Head.{Head}
use Rattle.hub_base.specs.Entry.{Entry}
use Rattle.hub_base.specs.declared.event.What.{What}
use Rattle.hub_base.specs.declared.event.Event.{Event}
use Rattle.hub_base.specs.Journal.{JournalView}
use Rattle.hub_base.specs.State.{Channel}
use Rattle.hub_base.specs.Runs.{state, events}
use Rattle.hub_base.specs.declared.value.Value.{Value}
use Rattle.std.specs.Option.{option_map_or}
use Rattle.hub_base.specs.Value.{content, number_in}
use Rattle.hub_base.specs.Values.{is_fault}
pub use Rattle.hub_base.specs.Values.{is_stalled}
use Rattle.hub_laws.specs.Received.{received_from}
use Rattle.hub_runner.specs.declared.report.PortReport.{PortReport}
use Rattle.hub_runner.specs.declared.report.Report.{Report}

-- what a value adds to a sum: bytes add nothing
abbrev pub number_of : Value → ℕ
number_of v = option_map_or (λ n. n) (number_in (content v)) 0

-- of a channel: its capacity, how many values were sent, received and neither, the sum of those that
-- were received, and whether it is closed
abbrev pub told_of : Channel → PortReport
told_of c =
    record {
      cap = c.cap;
      sent = length c.sent;
      received = c.received;
      left = length c.sent - c.received;
      sum = sum_by number_of (received_from c);
      closed = c.closed;
    }

-- the ports of a journal with this head, in order of number
abbrev pub ports_told : Head → List Entry → List PortReport
ports_told h journal = map told_of (state h journal).channels

-- how many of these events tell such
abbrev pub how_many : (What → Bool) → List Event → ℕ
how_many test es = length (filter (λ e. test e.what) es)

-- the events `Stalled` of a journal
abbrev pub stalled_told : Head → List Entry → ℕ
stalled_told h journal = how_many is_stalled (events h journal)

-- its faults
abbrev pub faults_told : Head → List Entry → ℕ
faults_told h journal = how_many is_fault (events h journal)

-- the report holds the journal, and tells these things of it
pub record IsReportOf (given : JournalView) (r : Report) : Type 0 where
  pub journal : r.journal ≡ given
  pub ports : r.ports.items ≡ ports_told given.head given.entries
  pub stalled : r.stalled ≡ stalled_told given.head given.entries
  pub faults : r.faults ≡ faults_told given.head given.entries
