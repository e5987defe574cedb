use Rattle.std.proofs.Common.{◌∷◌, [], ap, sym}
use Rattle.hub_base.specs.declared.event.Event.{Event}
use Rattle.hub_parts.specs.Lists.{ending_of}
use Rattle.hub_core.proofs.Hearing.{heard_as}
use Rattle.hub_core.proofs.Endings.{closes_one, closes_none}
use Rattle.hub_core.proofs.EndLoops.{none_ended, one_ended, fewer_left, all_ended}
use Rattle.hub_core.proofs.closing.end_calls.Goals as goal

pub loop-ended-init : goal.loop-ended-init
loop-ended-init g c = record { made = c.requires.made; calls = none_ended g.met.E.Hears.begins c.requires.apart c.requires.room }

pub loop-ended-smaller : goal.loop-ended-smaller
loop-ended-smaller g c = fewer_left (closes_one c.args.port c.loop-ended.board (ending_of c.in-Some.ended) c.loop-ended.invariant.calls.apart
    (sym c.in-Some.ensures.taken)) c.in-Some.ensures.left

pub loop-ended-preserved : goal.loop-ended-preserved
loop-ended-preserved g c =
    let one = closes_one c.args.port c.loop-ended.board (ending_of c.in-Some.ended) c.loop-ended.invariant.calls.apart (sym c.in-Some.ensures.taken) in
    let hears = heard_as (record { events = c.hear.ensures.heard; fits = c.hear.ensures.room }) (ap (λ (e : Event). e ∷ []) c.closing_event.ensures) in
    record {
      made = rw c.in-Some.ensures.left c.loop-ended.invariant.made;
      calls = one_ended g.met.E.Hears.goes_on c.loop-ended.invariant.calls one hears c.in-Some.ensures.left;
    }

pub returns : goal.returns
returns g c =
    let all = all_ended c.loop-ended.invariant.calls (closes_none c.args.port c.loop-ended.board (sym c.in_default.ensures.taken)) c.in_default.ensures.left in
    record { board = all.kept; told = all.hears }
