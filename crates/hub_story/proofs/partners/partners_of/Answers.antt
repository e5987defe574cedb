use Rattle.std.proofs.Common.{◌+◌, ◌≡◌, ◌∙◌, ap, sym, subst, arith, length, min, replicate, None}
use Rattle.std.specs.List.{fold}
use Rattle.hub_base.specs.declared.value.Port.{Port}
use Rattle.hub_base.specs.declared.limits.TheConstants.{MOST_PORTS}
use Rattle.hub_story.specs.OfPorts.{things_on}
use Rattle.hub_story.specs.Partners.{AreIn, paired, places_of, ways, ways_from, with_way}
use Rattle.hub_story.proofs.Pairs.{ways-paired}
use Rattle.hub_story.proofs.Table.{port-more, table-tells}
use Rattle.hub_story.proofs.partners.partners_of.Goals as goal

pub loop-place-preserved : goal.loop-place-preserved
loop-place-preserved c all so =
    let p : Port = record { 0 = c.loop-place.place + 1 } in
    let es = c.args.entries.now in
    let sent : c.deref.result.now ≡ places_of (things_on c.args.moves.now.sent p) =
    c.deref.ensures.value ∙ c.in_ok-sent.ensures ∙ ap places_of c.on.ensures in
    let received : c.deref-in-loop-place.result.now ≡ places_of (things_on c.args.moves.now.received p) =
    c.deref-in-loop-place.ensures.value ∙ c.in_ok-received.ensures ∙ ap places_of c.on-in-loop-place.ensures in
    port-more es all c.loop-place.place _ c.loop-place.table.items _ (c.loop-place.invariant all so)
    (c.note_pairs.ensures
    ∙ ap (λ l. fold with_way c.loop-place.table.items (paired l c.deref-in-loop-place.result.now)) sent
    ∙ ap (λ l. fold with_way c.loop-place.table.items (paired (places_of (things_on c.args.moves.now.sent p)) l)) received
    ∙ ap (fold with_way c.loop-place.table.items) (ways-paired es all c.args.moves.now so (c.loop-place.place + 1)))

pub returns : goal.returns
returns c all so made =
    let es = c.args.entries.now in
    let last : c.loop-place.place ≡ c.min-place-end.result = omega (arith, c.loop-place.auto.place-end, c.loop-place-test.false) in
    let many = c.min-place-end.ensures ∙ ap (λ k. min k MOST_PORTS) made in
    subst (AreIn (ways es all) (length es))
    (sym (c.loop-place.invariant all so ∙ ap (λ k. fold with_way (replicate (length es) None) (ways_from es all 1 k)) (last ∙ many)))
    (table-tells (ways es all) (length es))
