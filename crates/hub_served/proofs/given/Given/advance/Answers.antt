use Rattle.std.proofs.Common.{◌∙◌, List, ap, arith}
use Rattle.std.specs.Prelude.{slice_get}
use Rattle.std.specs.Option.{option_map}
use Rattle.hub_base.specs.Entry.{Entry}
use Rattle.hub_served.proofs.Turns.{after}
use Rattle.hub_served.proofs.given.Given.advance.Goals as goal

pub invariant_of-self : goal.invariant_of-self
invariant_of-self c =
    let inside = c.self.inside in (
      c.self.invariant.0,
      after inside.links.items inside.turns.items inside.made c.from.result c.index.result.now inside.journal.entries c.in-Some.pid
          (c.in-Some.ensures ∙ ap (λ (es : List Entry). option_map (λ (e : Entry). e.pid) (slice_get es inside.made)) c.entries.ensures)
          (omega arith) c.from.ensures c.index.ensures c.self.invariant.0 c.self.invariant.1,
    )
