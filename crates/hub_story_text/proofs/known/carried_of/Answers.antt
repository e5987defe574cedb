use Rattle.std.proofs.Common.{◌∙◌, ap, length}
use Rattle.std.proofs.lemmas.List.Sums.{length-filter}
use Rattle.hub_story.specs.declared.told.Told.{Told}
use Rattle.hub_story.specs.Partners.{is_made}
use Rattle.hub_story.specs.Told.{told}
use Rattle.hub_story_text.proofs.known.carried_of.Goals as goal

pub returns-clause-partners : goal.returns-clause-partners
returns-clause-partners c =
    let all = told c.args.journal.now.head c.args.journal.now.entries in
    let found = rw c.entries.ensures at c.in_ok-partners.ensures in
    found all c.requires.moves (ap length c.requires.made ∙ length-filter (λ (t : Told). is_made t.event.what) all)
