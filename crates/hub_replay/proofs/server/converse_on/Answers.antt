use Rattle.std.proofs.Common.{ℕ, List, ◌<◌, ◌+◌, sym, subst, arith, rules, length, refl, take}
use Rattle.std.proofs.lemmas.Grind.{common_steps}
use Rattle.hub_base.specs.declared.limits.TheConstants.{MOST_BYTES}
use Rattle.hub_base.specs.declared.read_fault.TextFault.{TextFault}
use Rattle.hub_replay.specs.Serve.{HasConversed, HasNamed, HasStopped, HasHeardAtMost}
use Rattle.hub_replay.specs.Talks.{Grows, HasAnswered, IsAnswer}
use Rattle.hub_replay.proofs.Talking.{conversing-answered, conversing-silent, conversing-stays, ended-whole, ended-faulty, came-few}
use Rattle.hub_replay.proofs.Talking.{came-stopped, came-answer, came-goes, came-named, heard-anew, text-same, text-given, heard-more}
use Rattle.hub_replay.proofs.server.converse_on.Goals as goal

pub returns-in_default : goal.returns-in_default
returns-in_default g c =
    let answered : HasAnswered (g.T.Talk.heard c.hear.new.self) (g.T.Talk.said c.hear.new.self) =
    conversing-answered (conversing-stays c.reads.invariant.0 c.in_default.ensures.bytes c.hear.ensures.silent) in
    search (rules, answered)

pub returns-then-count-eq0 : goal.returns-then-count-eq0
returns-then-count-eq0 g c =
    let ended = c.in-Ok.ensures.bytes.1 c.if-count-eq0.true (grind (arith, common_steps)) in
    let now = conversing-silent c.reads.invariant.0 (take c.in-Ok.count c.hear.new.buf) (grind (arith, common_steps))
    c.in-Ok.ensures.bytes.0 c.hear.ensures.silent in
    let whole : HasConversed (g.T.Talk.heard c.hear.new.self) (g.T.Talk.said c.hear.new.self) =
    ended-whole now (c.in_ok-end.ensures.ok now.lines now.rest now.said now.stands now.whole) in
    search (rules, whole, ended)

pub returns-in_err-end : goal.returns-in_err-end
returns-in_err-end g c = record {
  ok = search rules;
  text =
      λ fault is.
      let ended = c.in-Ok.ensures.bytes.1 c.if-count-eq0.true (grind (arith, common_steps)) in
      let now = conversing-silent c.reads.invariant.0 (take c.in-Ok.count c.hear.new.buf) (grind (arith, common_steps))
      c.in-Ok.ensures.bytes.0 c.hear.ensures.silent in
      let named = ended-faulty now (g.T.Talk.ended c.hear.new.self) c.in_err-end.field-0.0 c.one_reading.ensures.faults ended
      (c.in_err-end.ensures.err now.lines now.rest now.said now.stands now.whole) in
      subst (λ (f : TextFault). HasNamed (g.T.Talk.heard c.hear.new.self) (g.T.Talk.said c.hear.new.self) (g.T.Talk.ended c.hear.new.self) f)
      (text-given c.from_residual.result c.in_err-end.field-0.0 fault c.from_residual.ensures is) named;
  read = search rules;
  write = search rules;
  memory = search rules;
  few = search rules;
  reads_once = search rules;
  writes_once = search rules;
}

pub returns-in_err-fault : goal.returns-in_err-fault
returns-in_err-fault g c =
    let so_far = c.reads.invariant.0 in
    let stopped : HasStopped (g.T.Talk.heard c.hear.new.self) (g.T.Talk.said c.hear.new.self) =
    came-stopped so_far _ _ _ c.in-Ok.ensures.bytes.0 c.hear.ensures.silent in
    let few : HasHeardAtMost (g.T.Talk.heard c.hear.new.self) (MOST_BYTES + 1) =
    came-few so_far _ _ (take c.in-Ok.count c.hear.new.buf) c.in-Ok.ensures.bytes.0 c.hear.ensures.silent _ c.heard.result
    (c.heard.ensures.all so_far.lines so_far.rest so_far.said so_far.stands) (grind (arith, common_steps)) (λ bytes heard. heard) in
    search (rules, stopped, few)

pub returns-in_err-say_whole : goal.returns-in_err-say_whole
returns-in_err-say_whole g c =
    let so_far = c.reads.invariant.0 in
    let few = came-few so_far _ _ (take c.in-Ok.count c.hear.new.buf) c.in-Ok.ensures.bytes.0 c.hear.ensures.silent _ c.heard.result
    (c.heard.ensures.all so_far.lines so_far.rest so_far.said so_far.stands) (grind (arith, common_steps)) c.say_whole.ensures.deaf in
    search (rules, few)

pub returns-in-Some : goal.returns-in-Some
returns-in-Some g c = record {
  ok = search rules;
  text =
      λ fault is.
      let so_far = c.reads.invariant.0 in
      let spoke = subst (λ (t : List ℕ). Grows (g.T.Talk.said c.hear.new.self) (g.T.Talk.said c.say_whole.new.talk) t) c.text.ensures
      c.in_ok-say_whole.ensures.whole in
      let named = came-named so_far _ _ _ c.in-Ok.ensures.bytes.0 c.hear.ensures.silent c.say_whole.ensures.deaf spoke (g.T.Talk.ended c.say_whole.new.talk)
      c.in-Some.fault c.one_reading.ensures.faults (heard-anew so_far _ _ _ _ _ _ c.clear.ensures c.in_ok-fault.ensures c.in-Some.is) in
      subst (λ (f : TextFault). HasNamed (g.T.Talk.heard c.say_whole.new.talk) (g.T.Talk.said c.say_whole.new.talk) (g.T.Talk.ended c.say_whole.new.talk) f)
      (text-same c.in-Some.fault fault is) named;
  read = search rules;
  write = search rules;
  memory = search rules;
  few =
      let so_far = c.reads.invariant.0 in
      came-few so_far _ _ (take c.in-Ok.count c.hear.new.buf) c.in-Ok.ensures.bytes.0 c.hear.ensures.silent _ c.heard.result
      (c.heard.ensures.all so_far.lines so_far.rest so_far.said so_far.stands) (grind (arith, common_steps)) c.say_whole.ensures.deaf;
  reads_once = search rules;
  writes_once = search rules;
}

pub say_whole-requires : goal.say_whole-requires
say_whole-requires g c =
    let so_far = c.reads.invariant.0 in
    subst (λ (t : List ℕ). IsAnswer (g.T.Talk.heard c.hear.new.self) (g.T.Talk.said c.hear.new.self) t) (sym c.text.ensures)
    (came-answer so_far _ _ _ c.in-Ok.ensures.bytes.0 c.hear.ensures.silent _ _ c.in_ok-fault.fault c.one_reading.ensures.faults
    (heard-anew so_far _ _ _ _ _ _ c.clear.ensures c.in_ok-fault.ensures refl))

pub reads-smaller : goal.reads-smaller
reads-smaller g c =
    let so_far = c.reads.invariant.0 in
    let some : 0 < length (take c.in-Ok.count c.hear.new.buf) = grind (arith, common_steps) in
    heard-more so_far (heard-anew so_far _ _ _ _ _ _ c.clear.ensures c.in_ok-fault.ensures c.in_default-fault.is) some

pub reads-preserved : goal.reads-preserved
reads-preserved g c =
    let so_far = c.reads.invariant.0 in
    let spoke = subst (λ (t : List ℕ). Grows (g.T.Talk.said c.hear.new.self) (g.T.Talk.said c.say_whole.new.talk) t) c.text.ensures
    c.in_ok-say_whole.ensures.whole in (
      came-goes so_far _ _ _ c.in-Ok.ensures.bytes.0 c.hear.ensures.silent c.say_whole.ensures.deaf spoke
          (heard-anew so_far _ _ _ _ _ _ c.clear.ensures c.in_ok-fault.ensures c.in_default-fault.is),
      search rules,
      search rules,
    )

pub hear-requires : goal.hear-requires
hear-requires g c = record { answered = conversing-answered c.reads.invariant.0 }
