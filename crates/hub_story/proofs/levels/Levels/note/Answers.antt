use Rattle.std.proofs.Common.{◌≡◌, ◌<◌, ◌∙◌, ap, refl, subst, sym}
use Rattle.std.specs.Prelude.{IfSome}
use Rattle.std.proofs.lemmas.Result.{on_ok_weaker}
use Rattle.hub_parts.specs.declared.side.Side.TheVariants as side
use Rattle.hub_story.specs.declared.by_port.TheConstants.{PORT_NUMBERS}
use Rattle.hub_story.proofs.Counted.{none-moved, one_more, one-moved}
use Rattle.hub_story.proofs.levels.Levels.note.Goals as goal

pub returns-in_default-clause-counted : goal.returns-in_default-clause-counted
returns-in_default-clause-counted c before was =
    none-moved c.args.entries.now before c.args.told.now c.args.self.now c.requires was (sym c.move_of.ensures.value ∙ c.in_default.is)

pub returns-in-Send-clause-counted : goal.returns-in-Send-clause-counted
returns-in-Send-clause-counted c =
    let old = c.args.self.now in
    let m = c.in-Some.field-0 in
    let at-side = c.in-Some.side-is in
    let sends = c.in-Send.is in
    let on : m.side ≡ side.Send = cc in
    let few = subst (λ o. IfSome o (λ m. m.port.0 < PORT_NUMBERS)) c.move_of.ensures.value c.move_of.ensures.few in
    on_ok_weaker c.count_one.result
    (λ counted before was.
    one-moved c.args.entries.now before c.args.told.now old _ m side.Send c.requires was few (sym c.move_of.ensures.value ∙ c.in-Some.is) on
    (counted ∙ ap (one_more old.sent.items) c.into.ensures) refl)
    c.count_one.ensures.ok

pub returns-in-Recv-clause-counted : goal.returns-in-Recv-clause-counted
returns-in-Recv-clause-counted c =
    let old = c.args.self.now in
    let m = c.in-Some.field-0 in
    let at-side = c.in-Some.side-is in
    let receives = c.in-Recv.is in
    let on : m.side ≡ side.Recv = cc in
    let few = subst (λ o. IfSome o (λ m. m.port.0 < PORT_NUMBERS)) c.move_of.ensures.value c.move_of.ensures.few in
    on_ok_weaker c.count_one-in-Recv.result
    (λ counted before was.
    one-moved c.args.entries.now before c.args.told.now old _ m side.Recv c.requires was few (sym c.move_of.ensures.value ∙ c.in-Some.is) on refl
    (counted ∙ ap (one_more old.received.items) c.into-in-Recv.ensures))
    c.count_one-in-Recv.ensures.ok
