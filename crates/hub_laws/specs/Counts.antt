-- How many values a run can send and receive on a port: no more than the entries of its journal that
-- are no exits. So no count passes the limit of a journal.
use Rattle.std.specs.Prelude.{◌≡◌, ◌≤◌, ℕ, List, length, Some}
use Rattle.hub_base.specs.declared.value.Port.{Port}
use Rattle.hub_base.specs.Entry.{Entry}
use Rattle.hub_base.specs.declared.head.Head.{Head}
use Rattle.hub_base.specs.State.{Channel, channel_at}
use Rattle.hub_base.specs.Runs.{state, kept}
use Rattle.hub_base.specs.Text.{steps_of}

-- a channel that received no more than it sent, and that sent at most so many
pub record CountsWithin (c : Channel) (most : ℕ) : Type 0 where
  pub received : c.received ≤ length c.sent
  pub sent : length c.sent ≤ most

-- each channel of a run, against the run's admitted entries that are no exits
abbrev pub CountsLaw : Head → List Entry → Type 0
CountsLaw h es =
    (p : Port) (c : Channel) → channel_at (state h es) p ≡ Some c →
    CountsWithin c (steps_of (kept h es))
