use Rattle.std.proofs.Common.{◌≡◌, ◌++◌, drop}
use Rattle.std.specs.List.{flat_map}
use Rattle.hub_page.specs.Ends.{told_words}
use Rattle.hub_page.specs.Line.{entries_of, told_of}
use Rattle.hub_page.proofs.ends.put_all_told.Given as goal

abbrev pub invariant-loop-told : goal.invariant-loop-told
invariant-loop-told l =
    l.out.items ++ flat_map (told_words (entries_of l.line) (told_of l.line) l.line.place) (drop l.told-index l.line.came.now)
    ≡ l.fn.out.items ++ flat_map (told_words (entries_of l.line) (told_of l.line) l.line.place) l.line.came.now
