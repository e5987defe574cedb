use Rattle.hub_session.proofs.Asked.{asked_so, read_fit, read_served, refused_so}
use Rattle.hub_session.proofs.session.Session.call_within.Goals as goal

pub returns-then-not-take_cases : goal.returns-then-not-take_cases
returns-then-not-take_cases g c =
    let not_so = asked_so c.args.self.now c.args.cases.now c.head.result c.take_cases.result c.head.ensures c.take_cases.ensures.all
    c.if-not-take_cases.true in
    refused_so c.args.self.now c.args.pid c.args.cases.now c.args.default c.args.word c.tell_bad_call.new.told not_so c.tell_bad_call.ensures

pub serve_call-requires-clause-fits : goal.serve_call-requires-clause-fits
serve_call-requires-clause-fits g c =
    let so = asked_so c.args.self.now c.args.cases.now c.head.result c.take_cases.result c.head.ensures c.take_cases.ensures.all
    c.if-not-take_cases.false in
    read_fit c.args.self.now c.args.cases.now _ so (c.take_cases.ensures.items c.if-not-take_cases.false)

pub returns : goal.returns
returns g c =
    let so = asked_so c.args.self.now c.args.cases.now c.head.result c.take_cases.result c.head.ensures c.take_cases.ensures.all
    c.if-not-take_cases.false in
    read_served c.args.self.now c.serve_call.new.self c.args.pid c.args.cases.now c.args.default c.args.word c.serve_call.new.told _ so
    (c.take_cases.ensures.items c.if-not-take_cases.false) c.serve_call.ensures
