-- What contracts see of a journal: its head, and the entries in order.
use Rattle.std.specs.Prelude.{List}
use Rattle.hub_base.specs.Entry.{Entry}
use Rattle.hub_base.specs.declared.head.Head.{Head}

-- a journal
pub record JournalView : Type 0 where
  pub head : Head
  pub entries : List Entry
