use Rattle.std.proofs.Common.{◌≡◌, ◌++◌, drop}
use Rattle.std.specs.List.{flat_map}
use Rattle.hub_story.specs.declared.told.Told.{Told}
use Rattle.hub_story.specs.Told.{told}
use Rattle.hub_story_text.specs.PortText.{made_line}
use Rattle.hub_story_text.proofs.ports.put_ports.Given as goal

abbrev pub invariant-loop-made : goal.invariant-loop-made
invariant-loop-made l =
    l.out.items
    ++ flat_map (λ (t : Told). made_line l.journal.entries (told l.journal.head l.journal.entries) t t.event.what) (drop l.made-index l.made)
    ≡ l.fn.out.items
    ++ flat_map (λ (t : Told). made_line l.journal.entries (told l.journal.head l.journal.entries) t t.event.what) l.made
