use Rattle.std.proofs.Common.{◌∙◌, List, ap, map, subst, sym}
use Rattle.hub_parts.specs.Records.{ChannelLists, Lists, PortLists}
use Rattle.hub_parts.specs.Shapes.{HaveOneShape}
use Rattle.hub_parts.proofs.Copies.{one-shape}
use Rattle.hub_parts.proofs.board.Board.copy_from.Goals as goal

pub copy_channels_over-requires : goal.copy_channels_over-requires
copy_channels_over-requires c =
    let mine = ap (λ (v : Lists). map (λ (p : PortLists). p.cap) v.ports) c.self.view_is in
    let theirs = ap (λ (v : Lists). map (λ (p : PortLists). p.cap) v.ports) c.other.view_is in
    let procs = ap (λ (v : Lists). v.procs) c.self.view_is ∙ c.requires.procs ∙ sym (ap (λ (v : Lists). v.procs) c.other.view_is) in
    let shape : HaveOneShape c.self.inside.ports.items c.other.inside.ports.items =
    one-shape c.self.inside.calls c.other.inside.calls c.self.inside.ports.items c.other.inside.ports.items c.self.invariant c.other.invariant procs
    (mine ∙ c.requires.caps ∙ sym theirs) in
    subst (λ (x : List ChannelLists × List ChannelLists). HaveOneShape x.0 x.1) (λ i. (sym c.deref_mut.ensures.value i, sym c.deref.ensures.value i)) shape
