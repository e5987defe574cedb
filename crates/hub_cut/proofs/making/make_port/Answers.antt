use Rattle.std.proofs.Common.{◌≡◌, ◌∷◌, ◌++◌, [], Some, cond, subst, sym, List}
use Rattle.hub_base.specs.Entry.{Entry}
use Rattle.hub_base.specs.Notation.{close, make}
use Rattle.hub_base.specs.State.{State}
use Rattle.hub_base.specs.declared.counts.Look.{Look}
use Rattle.hub_base.specs.declared.value.Port.{Port}
use Rattle.hub_core.specs.HubView.{HubView, state_of}
use Rattle.hub_core.specs.Looks.{look_at}
use Rattle.hub_cut.specs.Cut.{CanMake, Makes}
use Rattle.hub_cut.specs.Written.{port_entries, sent_entries}
use Rattle.hub_cut.proofs.Renewing.{can_first, can_then, made_both, port_is, then_ok}
use Rattle.hub_cut.proofs.making.make_port.Goals as goal

-- the steps of a port: it is made, filled and closed
abbrev first : Look → List Entry
first look = make 0 look.cap ∷ []

abbrev last : Port → Look → List Entry
last p look = cond look.counts.closed (close 0 p.0 ∷ []) []

abbrev rest : State → Port → Look → List Entry
rest s p look = sent_entries s p look.counts.len ++ last p look

-- what can be made, in these parts
whole : (base : HubView) (s : State) (p : Port) (look : Look) → Some look ≡ look_at s p → CanMake base (port_entries s p)
    → CanMake base (first look ++ rest s p look)
whole base s p look there can = subst (CanMake base) (port_is s p look there) can

-- and once it is made, the others
behind : (base made : HubView) (s : State) (p : Port) (look : Look) → Some look ≡ look_at s p → CanMake base (port_entries s p)
    → Makes base (first look) made → CanMake made (rest s p look)
behind base made s p look there can m = can_then base made (first look) (rest s p look) (whole base s p look there can) m

pub make-requires : goal.make-requires
make-requires c =
    let s = state_of c.args.hub.now.memory.hub in
    record { can = can_first _ (first c.in-Some.look) (rest s c.args.port c.in-Some.look) (whole _ s _ _ c.in-Some.ensures c.requires.can) }

pub make_buffer-requires : goal.make_buffer-requires
make_buffer-requires c =
    let s = state_of c.args.hub.now.memory.hub in
    let can = behind _ _ s c.args.port c.in-Some.look c.in-Some.ensures c.requires.can c.in_ok-make.ensures in
    record { can = can_first _ (sent_entries s c.args.port c.in-Some.look.counts.len) (last c.args.port c.in-Some.look) can }

pub make_close-requires : goal.make_close-requires
make_close-requires c =
    let s = state_of c.args.hub.now.memory.hub in
    let p = c.args.port in
    let look = c.in-Some.look in
    let can = behind _ _ s p look c.in-Some.ensures c.requires.can c.in_ok-make.ensures in
    record { can = can_then _ _ (sent_entries s p look.counts.len) (last p look) can c.in_ok-make_buffer.ensures }

pub returns : goal.returns
returns c =
    let base = c.args.next.now.memory.hub in
    let s = state_of c.args.hub.now.memory.hub in
    let p = c.args.port in
    let look = c.in-Some.look in
    let made = c.make.new.next.memory.hub in
    let filled = c.make_buffer.new.next.memory.hub in
    let new = c.make_close.new.next.memory.hub in
    let sent : List Entry = sent_entries s p look.counts.len in
    then_ok c.make_close.result
    (λ closed. subst (λ es. Makes base es new) (sym (port_is s p look c.in-Some.ensures))
    (made_both base made new (first look) (rest s p look) c.in_ok-make.ensures
    (made_both made filled new sent (last p look) c.in_ok-make_buffer.ensures closed)))
    c.make_close.ensures
