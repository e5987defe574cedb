use Rattle.std.proofs.Common.{codes}
use Rattle.std.proofs.lemmas.Option.{IfSome_then}
use Rattle.hub_text.proofs.QuickLines.{number-stands, stands-then}
use Rattle.hub_text.specs.Place.{step_in}
use Rattle.hub_text.proofs.quick.rare_into.Goals as goal

pub returns-in_ok-behind : goal.returns-in_ok-behind
returns-in_ok-behind c =
    IfSome_then c.make_into.result c.make_into.ensures
    (λ end so. number-stands c.args.edition c.args.bytes.now c.args.start c.in_ok-behind.field-0 (codes "make") (step_in c.make_into.new.step) end
    (stands-then (stands-then c.in-Some.ensures c.in_ok-end.ensures) c.in_ok-behind.ensures) (so c.args.edition))

pub returns-in_ok-behind-2 : goal.returns-in_ok-behind-2
returns-in_ok-behind-2 c =
    IfSome_then c.close_into.result c.close_into.ensures
    (λ end so. number-stands c.args.edition c.args.bytes.now c.args.start c.in_ok-behind-2.field-0 (codes "close") (step_in c.close_into.new.step) end
    (stands-then (stands-then (stands-then c.in-Some-behind_word.ensures c.in_ok-end-2.ensures) c.in_ok-end-3.ensures) c.in_ok-behind-2.ensures)
    (so c.args.edition))

pub returns-in-Some-behind_words : goal.returns-in-Some-behind_words
returns-in-Some-behind_words c =
    IfSome_then c.cancel_into.result c.cancel_into.ensures
    (λ end so. number-stands c.args.edition c.args.bytes.now c.args.start c.in-Some-behind_words.end (codes "cancel") (step_in c.cancel_into.new.step) end
    c.in-Some-behind_words.ensures so)
