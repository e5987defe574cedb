-- What every list of events keeps: what is kept whole of what they say stands beside.
use Rattle.std.specs.Prelude.{length}
use Rattle.std.specs.List.{All}
use Rattle.hub_story.specs.declared.told_list.ToldList.TheInside.{Inside}
use Rattle.hub_story.specs.ToldLists.{StandsBelow}

pub record ToldKeeps (l : Inside) : Type 0 where
  pub stand : All (λ s. StandsBelow (length l.whats.items) s.what) l.kept.items
