use Rattle.std.proofs.Common.{◌∙◌, ap, sym}
use Rattle.hub_base.specs.Content.Content.{Bytes}
use Rattle.hub_base.specs.Head.{has_content}
use Rattle.hub_base.proofs.Values.{content-saying}
use Rattle.hub_session.proofs.asking.has_bytes.Goals as goal

pub returns : goal.returns
returns c =
    c.has_bytes.ensures
    ∙ ap (has_content c.args.edition) (sym (content-saying (Bytes c.args.bytes.now) (c.requires, λ k. (c.type_inv.bytes k).fits)))
