use Rattle.std.proofs.Common.{◌≡◌, ◌∙◌, true, subst, sym}
use Rattle.hub_base.specs.Head.{has_bytes}
use Rattle.hub_text.specs.Quick.{SendStands}
use Rattle.hub_text.proofs.QuickLines.{send-stands}
use Rattle.hub_text.proofs.quick.send_into.Goals as goal

pub returns-else-not-has_bytes : goal.returns-else-not-has_bytes
returns-else-not-has_bytes c =
    let has : has_bytes c.args.edition ≡ true = sym c.has_bytes.ensures ∙ c.if-not-has_bytes.false in
    let so = c.bytes_into.ensures c.args.edition has in
    subst (λ d. SendStands c.args.edition c.args.bytes.now c.args.start c.args.mark d c.bytes_into.result) (sym so.is)
    (send-stands c.args.edition c.args.bytes.now c.args.start c.args.mark c.in_ok-port.port c.in_ok-port.end c.in_ok-end.end so.value
    c.bytes_into.result c.in_ok-port.ensures.spelled c.in_ok-port.ensures.fits c.in_ok-end.ensures so.there)

pub returns-in_ok-value : goal.returns-in_ok-value
returns-in_ok-value c =
    send-stands c.args.edition c.args.bytes.now c.args.start c.args.mark c.in_ok-port.port c.in_ok-port.end c.in_ok-end.end c.in_ok-value.value
    c.in_ok-value.end c.in_ok-port.ensures.spelled c.in_ok-port.ensures.fits c.in_ok-end.ensures (c.in_ok-value.ensures c.args.edition)
