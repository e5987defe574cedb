use Rattle.std.proofs.Common.{codes}
use Rattle.std.proofs.lemmas.Option.{IfSome_then}
use Rattle.hub_text.proofs.QuickLines.{number-stands, reopen-stands, stands-then}
use Rattle.hub_text.specs.Place.{step_in}
use Rattle.hub_text.proofs.quick.lives_into.Goals as goal

pub returns-in-Some : goal.returns-in-Some
returns-in-Some c =
    IfSome_then c.reopen_into.result c.reopen_into.ensures
    (λ end so. reopen-stands c.args.edition c.args.bytes.now c.args.start c.in-Some.end (step_in c.reopen_into.new.step) end c.in-Some.ensures so)

pub returns-in_ok-behind : goal.returns-in_ok-behind
returns-in_ok-behind c =
    IfSome_then c.start_into.result c.start_into.ensures
    (λ end so. number-stands c.args.edition c.args.bytes.now c.args.start c.in_ok-behind.field-0 (codes "start") (step_in c.start_into.new.step) end
    (stands-then (stands-then (stands-then c.in_ok-end.ensures c.in_ok-end-2.ensures) c.in_ok-end-3.ensures) c.in_ok-behind.ensures) so)
