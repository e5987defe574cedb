use Rattle.std.proofs.Common.{◌≡◌, ◌∙◌, ap, sym, subst, Some, true, take}
use Rattle.std.proofs.lemmas.Option.{slice_get_within, get_or_from_slice_get}
use Rattle.hub_base.specs.declared.case.Case.{Case}
use Rattle.hub_core.specs.ListKeeps.{IsNamed}
use Rattle.hub_core.specs.ListReady.{can_on}
use Rattle.hub_core.proofs.Choices.{chosen_at, made_at}
use Rattle.hub_core.proofs.select.choose.Goals as goal

pub bounds-cases-index : goal.bounds-cases-index
bounds-cases-index c =
    let found = chosen_at c.args.board.now c.args.cases.now c.args.word c.in_ok-index.index
    (take c.find_ready-count.result c.find_ready-count.new.ready) c.find_ready-count.ensures.numbers c.in_ok-index.ensures in
    slice_get_within c.args.cases.now c.in_ok-index.index found.case found.stands

pub returns : goal.returns
returns c =
    let found = chosen_at c.args.board.now c.args.cases.now c.args.word c.in_ok-index.index
    (take c.find_ready-count.result c.find_ready-count.new.ready) c.find_ready-count.ensures.numbers c.in_ok-index.ensures in
    let there = c.index-cases-index in
    let read = there.is ∙ get_or_from_slice_get c.args.cases.now c.in_ok-index.index found.case there.result found.stands in
    record {
      chosen = ap (λ (k : Case). Some (c.in_ok-index.index, k)) read ∙ sym found.is;
      named = subst (IsNamed c.args.board.now) (sym read)
          (made_at _ c.args.cases.now c.in_ok-index.index found.case c.requires.named found.stands);
      can = subst (λ (k : Case). can_on c.args.board.now k ≡ true) (sym read) found.can;
    }
