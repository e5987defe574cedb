-- What every list of cases keeps: the bytes that they send stand beside.
use Rattle.std.specs.Prelude.{length, vec_len}
use Rattle.std.specs.List.{All}
use Rattle.std.specs.Vec.{vec_capacity}
use Rattle.hub_core.specs.declared.case_list.CaseList.TheInside.{Inside}
use Rattle.hub_core.specs.CaseListView.{CaseListView, StandsBelow, cases_kept}

-- what contracts see of a list of cases
abbrev pub case_list_shown : Inside → CaseListView
case_list_shown l =
    record {
      items = cases_kept l.kept.items l.values.items;
      room = vec_capacity l.kept;
      beside = vec_len l.values;
      beside_room = vec_capacity l.values;
    }

pub record CaseListKeeps (l : Inside) : Type 0 where
  pub stand : All (StandsBelow (length l.values.items)) l.kept.items
