-- Files that are read, one after the other, as the chapters of a chain.
use Rattle.std.specs.Prelude.{◌≡◌, ℕ, List, Option, Some, map}
use Rattle.chanhub_tool.specs.declared.commands.chain.Broken.{Broken}
use Rattle.chanhub_tool.specs.declared.commands.chain.Broken.TheVariants.{Unread, Malformed, Apart}

-- what reads of some files give is known, and is these texts
abbrev pub Hold : List (Option (List ℕ)) → List (List ℕ) → Type 0
Hold known texts = known ≡ map Some texts

-- what breaks the chain was read, and memory was not refused
abbrev pub IsRead : Broken → Type 0
IsRead (Unread fault) = ⊥
IsRead (Malformed file fault) = Unit {0}
IsRead (Apart file line why) = Unit {0}
