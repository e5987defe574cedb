-- The table and the seats of the hub of a name.
use Rattle.std.specs.Prelude.{◌≡◌, [], None, IsSome}
use Rattle.atomic_table.specs.Seated.{TableId}
use Rattle.atomic_table.specs.declared.shared.Seat.{Seat}
use Rattle.hub_core.specs.declared.terms.Terms.{Terms}
use Rattle.hub_live.specs.declared.rule.View.{View}
use Rattle.hub_live.specs.Name.{Name, name_of}
use Rattle.hub_live.specs.Rule.{word_count}

-- the table of the hub
pub record IsTableOf (name : Name) (table : TableId) (terms : Terms) : Type 0 where
  pub same : table ≡ name.table
  pub words : table.words ≡ word_count
  pub slots : table.slots ≡ 0
  pub key : terms ≡ name.terms

-- a table that was made with these terms, whatever its name
abbrev pub IsNewTable : TableId → Terms → Terms → Type 0
IsNewTable table terms key = IsTableOf (name_of table terms) table key

-- a seat of its table
pub record IsToken (name : Name) (token : Seat (Unit {0}) View) : Type 0 where
  pub table : token.table_id ≡ name.table
  pub free : token.me.1 ≡ []

-- a seat of its table with a number, joined to no other
pub record IsSingle (name : Name) (token : Seat (Unit {0}) View) : Type 0 where
  pub is : IsToken name token
  pub number : IsSome token.me.0.number
  pub joined : token.me.0.joined ≡ None
  pub terms : token.me.0.terms ≡ name.terms
