use Rattle.std.proofs.Common.{rules, ◌≡◌}
use Rattle.std.proofs.lemmas.List.Elements.{All-set}
use Rattle.hub_live_tests.proofs.live.refusals.make_and_end.Goals as goal

pub end-requires-after_bounds : goal.end-requires-after_bounds
end-requires-after_bounds g c κs within =
    let here : c.make.new.seat.hub ≡ g.K.HubName.name = search (rules, c.make.ensures.later, c.requires.seats) in
    All-set (λ s. s.hub ≡ g.K.HubName.name) c.args.seats.items 2 c.make.new.seat here c.requires.seats
