use Rattle.std.proofs.Common.{ap, subst, refl, Option, ◌+◌, ◌-◌}
use Rattle.hub_base.specs.declared.read_fault.Kind.{Kind}
use Rattle.hub_replay.specs.Running.{Goes}
use Rattle.hub_replay.proofs.Ending.{at-entries, entry-line, entry-ends, entry-fails}
use Rattle.hub_replay.proofs.conversation.Conversation.end_entry_line.Goals as goal

pub returns-in-Some-2 : goal.returns-in-Some-2
returns-in-Some-2 c = λ lines line said body stands at.
    let conversation = c.args.self.now in
    let before = at-entries conversation lines line said body stands at c.in-Some.running c.in-Some.is c.requires.fits in
    let goes = subst (λ (o : Option Kind). Goes before.head before.entries body c.answer.new.self.machine c.answer.new.self.steps
    c.args.answers.now.lines c.answer.new.answers.lines o) c.in-Some-2.is
    (c.in_ok-kind.ensures.goes before.head before.entries line body before.runs
    (entry-line conversation lines line said body stands at c.in-Some.running c.in-Some.is c.requires.fits _ c.deref.ensures.value)) in
    (entry-fails conversation lines line said body stands at c.in-Some.running c.in-Some.is c.requires.fits c.in-Some-2.kind goes.0, goes.1)

pub returns : goal.returns
returns c = λ lines line said body stands at.
    let conversation = c.args.self.now in
    let before = at-entries conversation lines line said body stands at c.in-Some.running c.in-Some.is c.requires.fits in
    let goes = subst (λ (o : Option Kind). Goes before.head before.entries body c.answer.new.self.machine c.answer.new.self.steps
    c.args.answers.now.lines c.answer.new.answers.lines o) c.in_default-2.is
    (c.in_ok-kind.ensures.goes before.head before.entries line body before.runs
    (entry-line conversation lines line said body stands at c.in-Some.running c.in-Some.is c.requires.fits _ c.deref.ensures.value)) in
    entry-ends conversation lines line said body stands at c.in-Some.running c.in-Some.is c.requires.fits _ c.answer.new.self
    c.args.answers.now.lines c.answer.new.answers.lines goes (ap (λ n. conversation.place + (n - conversation.front)) c.len.ensures) refl refl
    c.truncate.ensures.items refl
