use Rattle.std.proofs.Common.{◌∙◌, ap, map, sym}
use Rattle.hub_parts.specs.Records.{Lists, PortLists}
use Rattle.hub_parts.specs.Shapes.{IsShapeOf, caps_of}
use Rattle.hub_parts.proofs.Copies.{caps-shown}
use Rattle.hub_parts.proofs.board.Board.has_shape_of.Goals as goal

pub returns-then-procs : goal.returns-then-procs
returns-then-procs c =
    let mine = ap caps_of c.deref.ensures.value ∙ caps-shown c.self.inside.ports.items
    ∙ ap (λ (v : Lists). map (λ (p : PortLists). p.cap) v.ports) c.self.view_is in
    let theirs = ap caps_of c.deref-then-procs.ensures.value ∙ caps-shown c.other.inside.ports.items
    ∙ ap (λ (v : Lists). map (λ (p : PortLists). p.cap) v.ports) c.other.view_is in (
      λ yes. record {
        procs = ap (λ (v : Lists). v.procs) (sym c.self.view_is)
            ∙ sym c.procs.ensures ∙ c.if-procs.true ∙ c.procs-2.ensures ∙ ap (λ (v : Lists). v.procs) c.other.view_is;
        caps = sym mine ∙ c.have_caps_of.ensures.0 yes ∙ theirs;
      },
      λ (shape : IsShapeOf c.args.self.now c.args.other.now). c.have_caps_of.ensures.1 (mine ∙ shape.caps ∙ sym theirs),
    )
