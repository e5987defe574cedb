-- Who waits: at the end of a journal, and where a step stalls.
use Rattle.std.specs.Prelude.{ℕ, ◌&&◌, not, List, filter, is_some}
use Rattle.hub_base.specs.Entry.{Entry}
use Rattle.hub_base.specs.State.{OpenCall}
pub use Rattle.hub_base.specs.Values.{is_stalled}
use Rattle.hub_laws.specs.Replies.{is_parked}
use Rattle.hub_story.specs.declared.told.Told.{Told}
use Rattle.hub_story.specs.Levels.{came_by}
use Rattle.hub_story.specs.Told.{end_of}
use Rattle.hub_base.specs.Values.{cases_at}

-- the calls that were parked and told nothing since, by arrival
abbrev pub still_waiting : List Told → List Told
still_waiting all =
    filter (λ t. is_parked t.event.what && not (is_some (end_of all t.asked))) all

-- the open call that is told of
abbrev pub open_call : List Entry → Told → OpenCall
open_call es t = record { pid = t.event.pid; cases = cases_at es t.asked }

-- the calls that ended as everybody waited after the entry at this place, by arrival
abbrev pub stalled_by : List Told → ℕ → List Told
stalled_by all place = filter (λ t. is_stalled t.event.what) (came_by place all)
