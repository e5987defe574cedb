-- What names a hub.
use Rattle.std.specs.Prelude.{[]}
use Rattle.atomic_table.specs.Seated.{TableId}
use Rattle.hub_base.specs.declared.head.Edition.TheVariants.{One}
use Rattle.hub_core.specs.HubView.{terms_of}
use Rattle.hub_core.specs.declared.terms.Terms.{Terms}

-- its table, and what it was opened with
pub record Name : Type 0 where
  pub table : TableId
  pub terms : Terms

-- the name of a hub with this table and these terms
abbrev pub name_of : TableId → Terms → Name
name_of table terms = record { table = table; terms = terms }

-- the name that std's brand has where a caller picks none
abbrev pub no_name : Name
no_name =
    record {
      table = record {
        words = 0;
        slots = 0;
        views_name = 0;
        atom = 0;
        block = 0;
        offset = 0;
        slot_names = [];
      };
      terms = terms_of One 0 0;
    }
