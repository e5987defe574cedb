use Rattle.std.proofs.Common.{sym, ◌∙◌, ap, refl, ◌+◌, ◌-◌}
use Rattle.hub_replay.proofs.Ending.{second-line, second-ends}
use Rattle.hub_replay.proofs.conversation.Conversation.end_second_line.Goals as goal

pub returns : goal.returns
returns c = λ lines line said body answers stands at.
    let conversation = c.args.self.now in
    let (edition, two, second) = second-line conversation lines line said body stands at c.requires.head _ c.deref.ensures.value c.requires.second in
    second-ends conversation lines line said body stands at c.requires.head _ c.in_ok-open.field-0 c.in-Ok.head answers two c.in-Ok.ensures.head
    (sym c.deref.ensures.value ∙ c.in-Ok.ensures.ok edition line body second) c.in_ok-open.ensures c.requires.fits
    (ap (λ n. conversation.place + (n - conversation.front)) c.len.ensures) refl c.len-self.ensures refl refl
