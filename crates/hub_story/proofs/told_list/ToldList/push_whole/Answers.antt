use Rattle.std.proofs.Common.{◌≡◌, ◌∙◌, ◌++◌, ◌∷◌, [], List, ap, arith, length}
use Rattle.hub_story.specs.declared.told.Told.{Told}
use Rattle.hub_story.proofs.ToldLists.{one-whole}
use Rattle.hub_story.proofs.told_list.ToldList.push_whole.Goals as goal

pub returns : goal.returns
returns c =
    let behind : c.len-place.result ≡ length c.self.inside.whats.items = omega (arith, c.len-place.ensures, c.self.inside.whats.ok) in
    let kept = rw c.in_ok-reserve.ensures.items at c.push_reserved-2.ensures.items in
    let whats = rw c.in_ok-reserve-2.ensures.items at c.push_reserved.ensures.items in
    one-whole c.self.inside.kept.items c.self.inside.whats.items c.args.told.now c.self.invariant.stand behind whats kept
    ∙ ap (λ (l : List Told). l ++ c.args.told.now ∷ []) c.self.view_is
