use Rattle.std.proofs.Common.{arith, sym, subst, ◌≡◌, []}
use Rattle.hub_live.specs.Prelude.{Terms, blank}
use Rattle.hub_live.proofs.Seats.{begins, draws_as}
use Rattle.hub_live.proofs.words.open_table.Goals as goal

pub of_words-requires : goal.of_words-requires
of_words-requires c = begins _

pub compare_exchange-requires : goal.compare_exchange-requires
compare_exchange-requires c =
    let e = c.in_ok-table.ensures in
    let words = e.0 in
    (e.2, omega (arith, e.0), draws_as _ _ _ 0 _ (subst (λ (k : Terms). c.in_ok-table.token.me ≡ (blank k, [])) (sym e.5) e.4))
