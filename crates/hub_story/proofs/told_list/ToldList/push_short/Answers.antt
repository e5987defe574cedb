use Rattle.std.proofs.Common.{◌∙◌, ◌++◌, ◌∷◌, [], List, ap, length, subst, sym}
use Rattle.std.specs.List.{All}
use Rattle.std.proofs.lemmas.List.Elements.{All-push}
use Rattle.hub_story.specs.declared.told.Told.{Told}
use Rattle.hub_story.specs.declared.told_list.ShortTold.{ShortTold}
use Rattle.hub_story.proofs.ToldLists.{Stands, one-short}
use Rattle.hub_story.proofs.told_list.ToldList.push_short.Goals as goal

pub invariant_of-self-2 : goal.invariant_of-self-2
invariant_of-self-2 c =
    let n = length c.self.inside.whats.items in
    let items = rw c.in_ok-reserve.ensures.items at c.push_reserved.ensures.items in
    record {
      stand =
          subst (λ (l : List ShortTold). All (Stands n) l) (sym items)
          (All-push (Stands n) c.self.inside.kept.items _ c.self.invariant.stand (c.requires.stands n));
    }

pub returns : goal.returns
returns c =
    let whats = c.self.inside.whats.items in
    let items = rw c.in_ok-reserve.ensures.items at c.push_reserved.ensures.items in
    one-short c.self.inside.kept.items whats c.args.told.now c.args.what (c.requires.says whats) items
    ∙ ap (λ (l : List Told). l ++ c.args.told.now ∷ []) c.self.view_is
