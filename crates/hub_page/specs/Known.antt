-- A journal with what is known of it, and which of its steps are told.
use Rattle.std.specs.Prelude.{ℕ, List}
use Rattle.hub_base.specs.declared.head.Head.{Head}
use Rattle.hub_base.specs.Entry.{Entry}
use Rattle.hub_story.specs.declared.told.Told.{Told}
use Rattle.hub_story_text.specs.Explained as explained
use Rattle.hub_page.specs.declared.known.Known.{Known}

abbrev pub entries_of : Known → List Entry
entries_of k = explained.entries_of k.explained

abbrev pub head_of : Known → Head
head_of k = explained.head_of k.explained

-- how many processes there are
abbrev pub procs_of : Known → ℕ
procs_of k = (head_of k).procs

-- what is told of the entries
abbrev pub told_of : Known → List Told
told_of k = explained.told_of k.explained

-- what is known is so
abbrev pub IsKnown : Known → Type 0
IsKnown k = explained.IsExplained k.explained
