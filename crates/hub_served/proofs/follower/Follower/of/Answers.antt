use Rattle.std.proofs.Common.{◌≡◌, ◌∙◌, List, None, ap, subst, sym}
use Rattle.hub_base.specs.Entry.{Entry}
use Rattle.hub_base.specs.Journal.{JournalView}
use Rattle.hub_live.specs.Locked.{none_waits}
use Rattle.hub_served.specs.Follow.{follow_view}
use Rattle.hub_served.specs.Given.{GivenView}
use Rattle.hub_served.specs.Stands.{Follows}
use Rattle.hub_served.proofs.Keeping.{follows_opened}
use Rattle.hub_served.proofs.follower.Follower.of.Goals as goal

pub invariant_of-result : goal.invariant_of-result
invariant_of-result c =
    let given = c.args.given.memory.hub in
    let same : given.journal ≡ c.in_ok-journal.journal.entries = ap (λ (j : JournalView). j.entries) (sym c.in_ok-journal.ensures.journal) in
    let Anew : List Entry → GivenView = λ es. record { entries = es; made = 0 } in
    let whole : Anew given.journal ≡ c.in_ok-of.field-0 = ap Anew same ∙ sym c.in_ok-of.ensures in
    subst (λ (g : GivenView). Follows (follow_view c.of.result g.entries c.args.after None None) g) whole
    (follows_opened c.args.after given c.of.result c.journal_is_legal.ensures.legal c.journal_is_legal.ensures.fits c.journal_is_legal.ensures.few
    c.requires.few (c.of.ensures ∙ ap none_waits c.requires.anew))
