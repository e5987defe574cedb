use Rattle.std.proofs.Common.{◌≡◌, [], arith, length, refl}
use Rattle.hub_core.proofs.Logs.{Gains, gains}
use Rattle.hub_core.proofs.brief.keep.Goals.{After-push_reserved}
use Rattle.hub_core.proofs.brief.keep.Goals as goal

gained : (c : After-push_reserved) → Gains c.args.briefs.now.items c.push_reserved.new.self.items c.args.cases.now.items c.append.new.self.items
    c.args.entry.now
gained c =
    let behind : c.in-Ok.first ≡ length c.args.cases.now.items = grind (arith, c.in-Ok.ensures, c.len.ensures) in
    gains c.args.entry.now c.requires.briefs refl c.brief_of-brief.ensures behind c.push_reserved.ensures.items
    c.cases_beside.ensures.cases c.cases_beside.ensures.few c.in_ok-append.ensures.items

pub returns-clause-briefs : goal.returns-clause-briefs
returns-clause-briefs c = (gained c).briefs

pub returns-clause-begin : goal.returns-clause-begin
returns-clause-begin c = (gained c).begin c.requires.begin

pub returns-clause-ok : goal.returns-clause-ok
returns-clause-ok c = (gained c).items []
