-- What every journal keeps: it has room for the entries that are kept short.
use Rattle.std.specs.Prelude.{◌≤◌, ◌+◌, ◌++◌, length, vec_len}
use Rattle.std.specs.Vec.{vec_capacity}
use Rattle.hub_core.specs.declared.log.Log.TheInside.{Inside}
use Rattle.hub_core.specs.LogView.{LogView, AreBriefs, StandFrom, written}

-- what contracts see of a journal
abbrev pub log_shown : Inside → LogView
log_shown l =
    record {
      items = l.whole.items ++ written l.briefs.items l.cases.items;
      capacity = vec_capacity l.whole;
      short = length l.briefs.items;
      short_room = vec_capacity l.briefs;
      cases = length l.cases.items;
      case_room = l.cases.room;
      beside = l.cases.beside;
      beside_room = l.cases.beside_room;
    }

pub record LogKeeps (l : Inside) : Type 0 where
  pub briefs : AreBriefs l.briefs.items l.cases.items
  pub begin : StandFrom 0 l.briefs.items
  pub room : vec_len l.whole + length l.briefs.items ≤ vec_capacity l.whole
