use Rattle.std.proofs.Common.{◌++◌, take, drop, length, ◌-◌, arith, rules}
use Rattle.std.proofs.lemmas.Grind.{common_steps}
use Rattle.hub_replay.proofs.Saying.{taken-more, grows-more, grows-stays, answer-begun, answer-left}
use Rattle.hub_replay.proofs.server.say_whole.Goals as goal

pub rest-preserved : goal.rest-preserved
rest-preserved g c =
    let (taken, split, grew, deaf, writes, reads) = c.rest.invariant in
    let rest = c.rest.rest.now in
    let n = c.in-Ok.count in (
      taken ++ take n rest,
      taken-more _ _ _ n split,
      grows-more (g.T.Talk.said c.args.talk.now) (g.T.Talk.said c.rest.talk) (g.T.Talk.said c.say.new.self) taken (take n rest) grew c.in-Ok.ensures.bytes,
      (λ bytes h. c.say.ensures.deaf bytes (deaf bytes h)),
      search rules,
      search rules,
    )

pub returns-in_default-clause-beginning : goal.returns-in_default-clause-beginning
returns-in_default-clause-beginning g c =
    let (taken, split, grew, deaf, writes, reads) = c.rest.invariant in
    let rest = c.rest.rest.now in
    let n = c.in-Ok.count in
    answer-begun (g.T.Talk.heard c.args.talk.now) (g.T.Talk.said c.args.talk.now) (g.T.Talk.heard c.say.new.self) (g.T.Talk.said c.say.new.self)
    c.args.text.now (taken ++ take n rest) (take (length rest - n) (drop n rest)) c.requires (taken-more _ _ _ n split)
    (grows-more (g.T.Talk.said c.args.talk.now) (g.T.Talk.said c.rest.talk) (g.T.Talk.said c.say.new.self) taken (take n rest) grew c.in-Ok.ensures.bytes)
    (λ bytes h. c.say.ensures.deaf bytes (deaf bytes h))

pub returns-in_default-2-clause-beginning : goal.returns-in_default-2-clause-beginning
returns-in_default-2-clause-beginning g c =
    let (taken, split, grew, deaf, writes, reads) = c.rest.invariant in
    answer-begun (g.T.Talk.heard c.args.talk.now) (g.T.Talk.said c.args.talk.now) (g.T.Talk.heard c.say.new.self) (g.T.Talk.said c.say.new.self)
    c.args.text.now taken c.rest.rest.now c.requires split
    (grows-stays (g.T.Talk.said c.args.talk.now) (g.T.Talk.said c.rest.talk) (g.T.Talk.said c.say.new.self) taken grew c.in_default.ensures.bytes)
    (λ bytes h. c.say.ensures.deaf bytes (deaf bytes h))

pub say-requires : goal.say-requires
say-requires g c =
    let (taken, split, grew, deaf, writes, reads) = c.rest.invariant in
    record {
      some = grind (arith, common_steps);
      whole =
          answer-left (g.T.Talk.heard c.args.talk.now) (g.T.Talk.said c.args.talk.now) (g.T.Talk.heard c.rest.talk) (g.T.Talk.said c.rest.talk)
          c.args.text.now taken c.rest.rest.now c.requires split grew deaf;
    }
