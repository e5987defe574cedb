use Rattle.std.proofs.Common.{◌∙◌, sym, ap, refl, subst, rules}
use Rattle.hub_base.specs.declared.event.Event.{Event}
use Rattle.hub_live.specs.Prelude.{IsHistory, Terms, LockedView, Met, Refuses, Serves, number_of, port_changed_by}
use Rattle.hub_live.proofs.Desks.{hub_steps, next_served, Stepped, stepped, desk_single, desk_seen, reply_there, refusal_seen}
use Rattle.hub_live.proofs.Laters.{met, IsSeatOf, seat_opened, HasSeen, has_seen, asked_nothing}
use Rattle.hub_live.proofs.desk.Desk.step.Given.{Over}
use Rattle.hub_live.proofs.desk.Desk.step.Goals as goal
use Rattle.hub_live.proofs.desk.Desk.step.Goals.{Joined-seat, Joined-seat-2}

pub mark_at-mark-requires : goal.mark_at-mark-requires
mark_at-mark-requires g c =
    let is = hub_steps _ _ _ _ _ c.self.invariant.hub c.in-Ok.ensures.rules.ok.step in
    subst (λ (t : Terms). IsHistory t c.step.new.self.hub.journal) (sym is.terms) is.history

pub publish-requires-clause-next : goal.publish-requires-clause-next
publish-requires-clause-next g c =
    let mine = seat_opened c.requires.hub c.seat.invariant c.seat.view_is (sym c.take.ensures.value ∙ c.in-Some.is) in
    let changes = c.changed-port.ensures ∙ ap (λ (x : Event). number_of (port_changed_by c.args.entry.now.step x.what)) c.answer.ensures in
    next_served c.self.invariant mine c.requires.pid c.join.ensures.sees c.in-Ok.ensures.rules.ok changes c.from.ensures c.mark_at-mark.ensures

stepper : (g : Over) (c : Joined-seat g) → IsSeatOf g.K.HubName.name c.args.seat.now c.seat.inside.pid c.in-Some.mine
stepper g c = seat_opened c.requires.hub c.seat.invariant c.seat.view_is (sym c.take.ensures.value ∙ c.in-Some.is)

served : (g : Over) (c : Joined-seat g)
    → Serves c.self.inside.locked c.args.entry.now c.step.new.self c.step.new.self.last
served g c = c.in-Ok.ensures.rules.ok

made : (g : Over) (c : Joined-seat g)
    → Stepped g.K.HubName.name c.args.seat.now c.args.entry.now c.step.new.self c.split.new.token c.seat.inside.pid
    c.split.result
made g c =
    let p = c.split.ensures in
    stepped c.self.invariant (stepper g c) c.requires.pid c.join.ensures.sees (served g c) c.publish.ensures.view p.token p.left p.given p.back

pub invariant_of-self : goal.invariant_of-self
invariant_of-self g c = (made g c).desk

pub invariant_of-seat : goal.invariant_of-seat
invariant_of-seat g c = (made g c).alone

pub returns-in-Ok : goal.returns-in-Ok
returns-in-Ok g c =
    let m = made g c in
    record {
      rules = record {
        same = search rules;
        seen = m.seen;
        history = m.history;
        begins = m.begins;
        ok = subst (λ (l : LockedView). Serves l c.args.entry.now c.step.new.self c.step.new.self.last) c.self.view_is (served g c);
        own = m.own;
        told = λ clear. reply_there m.desk.hub.terms refl (sym m.seen) (c.in-Ok.ensures.rules.reply clear);
        refused = tt;
        shows = tt;
        left = tt;
        unchanged = tt;
      };
    }

seat : (g : Over) (c : Joined-seat-2 g) → IsSeatOf g.K.HubName.name c.args.seat.now c.seat.inside.pid c.in-Some.mine
seat g c = seat_opened c.requires.hub c.seat.invariant c.seat.view_is (sym c.take.ensures.value ∙ c.in-Some.is)

meeting : (g : Over) (c : Joined-seat-2 g) → Met c.self.inside.token.me.0 c.in-Some.mine.me.0 c.split-in-Err.new.token.me.0 c.split-in-Err.result.me.0
meeting g c =
    let p = c.split-in-Err.ensures in
    met (desk_single c.self.invariant) (seat g c).single c.join.ensures.sees p.left p.back

left : (g : Over) (c : Joined-seat-2 g) → HasSeen c.args.seat.now c.seat.inside.pid c.split-in-Err.result
left g c = has_seen (seat g c) c.split-in-Err.ensures.given (meeting g c).second

pub invariant_of-self-in-Err : goal.invariant_of-self-in-Err
invariant_of-self-in-Err g c =
    desk_seen c.self.invariant (ap (λ (l : LockedView). l.hub) c.in-Err.ensures.rules.unchanged) c.split-in-Err.ensures.token (meeting g c).first

refused : (g : Over) (c : Joined-seat-2 g) → Refuses c.self.inside.locked.hub c.args.entry.now c.in-Err.fault
refused g c = c.in-Err.ensures.rules.refused

pub returns-in-Err : goal.returns-in-Err
returns-in-Err g c =
    let seen = sym (meeting g c).together ∙ (invariant_of-self-in-Err g c).seen in
    let asked = c.args.entry.now in
    let r = c.requires in
    record {
      rules = record {
        same = search rules;
        seen = seen;
        history = search rules;
        begins = (left g c).follows.begins;
        ok = tt;
        own = tt;
        told = tt;
        refused = subst (λ (l : LockedView). Refuses l.hub asked c.in-Err.fault) c.self.view_is (refused g c);
        shows = refusal_seen c.split-in-Err.result asked c.in-Err.fault c.self.invariant (seat g c) (left g c).follows
            (seen ∙ ap (λ (l : LockedView). l.hub.journal) c.in-Err.ensures.rules.unchanged) r.hub r.pid r.free (refused g c);
        left = asked_nothing (left g c).follows r.free;
        unchanged = search rules;
      };
    }
