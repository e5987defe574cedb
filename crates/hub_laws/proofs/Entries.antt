-- The account of each admitted entry: every step, the stall that can follow it, and a fault.
use Rattle.hub_laws.proofs.Prelude.{arith, ◌≡◌, Bool, true, false, List, [], ◌∷◌, ◌++◌, refl, ap, ◌∙◌, sym, subst, Option, Some, None, ℕ, append-nil}
use Rattle.hub_laws.proofs.Prelude.{◌+◌, not}
use Rattle.hub_laws.proofs.Prelude.{length, filter, ◌-◌, ◌<◌, map-append, filter_map-append, list_any, AllByRecursion, slice_set, Entry, Step, Close, Exit}
use Rattle.hub_laws.proofs.Prelude.{Make, Call, Cancel, Event, What, Fault, MOST_PORTS, Pid, Port, is_on, State, Channel, OpenCall, channel_at, Change}
use Rattle.hub_laws.proofs.Prelude.{◌==◌, without, is_among, cancels, tells, shut}
use Rattle.hub_laws.proofs.Prelude.{closes, close_fault, fault_of, answers, turn, effect, of_what, IsAnswered, ends_waiting, port_touched_by, Shown}
use Rattle.hub_laws.proofs.Prelude.{PortSound}
use Rattle.hub_laws.proofs.Prelude.{all_append, all_more, Start, Reopen, reopens, reopened, reopen_fault, has_gone, nat_le, leb-true, ◌≤◌, and_parts}
use Rattle.hub_laws.proofs.Prelude.{or_parts, ◌&&◌, if◌then◌else◌}
use Rattle.hub_base.specs.declared.fault.Fault.TheVariants as fault
use Rattle.hub_base.specs.declared.event.What.TheVariants as what
use Rattle.hub_laws.proofs.Branches.{by-stall, stalled}
use Rattle.hub_laws.proofs.Calls.{fewer-none, fewer-filter}
use Rattle.hub_laws.proofs.Deeds.{deed_of, fresh, IsClosing, shuts, opens, idle, adds, wrote, at}
use Rattle.hub_laws.proofs.Does.{wrote-set, wrote-moves, made-moves, next_port}
use Rattle.hub_laws.proofs.Faults.{journaled}
use Rattle.hub_laws.proofs.Kept.{port-fewer, port-shut, port-fresh, port-reopened}
use Rattle.hub_laws.proofs.Leaving.{Ended, event_of, events_of, EndsWell, nobody, next, leave-join, ClosedAt, closed, Sole, sole, all_stalled}
use Rattle.hub_laws.proofs.Ready.{none_false}
use Rattle.hub_laws.proofs.Account.{Account, alone, silent, named_sound, with_caller, with_leaver, ended_deeds}
use Rattle.hub_laws.proofs.Firing.{calls-account}

-- A close

closed_well : (p : Port) (x : Ended) → ClosedAt p x → EndsWell x
closed_well p x c = rw c.tells (refl, (c.at.case, c.stands))

closed_deeds : (p : Port) (xs : List Ended) → AllByRecursion (ClosedAt p) xs →
    AllByRecursion (IsClosing p) (ended_deeds xs)
closed_deeds p [] all = tt
closed_deeds p (x ∷ xs) all = grind (arith, closed_deeds p xs all.1)

close_account : (s : State) (pid : Pid) (p : Port) (o : Option Channel) → o ≡ channel_at s p → close_fault o ≡ None →
    Account s pid (Close p) (closes s pid p o)
close_account s pid p None is h = cc
close_account s pid p (Some c) is h =
    let parts = closed p s.parked in
    let off : OpenCall → Bool = λ call. not (list_any (is_on p) call.cases) in
    let w = wrote-set s p c (shut c) (sym is) in
    let live : c.closed ≡ false = (none_false c.closed fault.AlreadyClosed None h).0 in
    record {
      answer = what.Done;
      ended = parts.ended;
      told = ap (λ es. tells pid what.Done ∷ es) parts.told;
      fits = refl;
      placed = tt;
      ends = all_more (ClosedAt p) EndsWell parts.ended (λ x. closed_well p x) parts.each;
      leaves = λ a. parts.leaves;
      fewer = fewer-filter off s.parked;
      blocked = λ h. cc;
      sound = λ sound.
          let fine : PortSound p (shut c) (filter off s.parked) = port-shut p c s.parked (sound.ports p c (sym is)) in
          named_sound (Some p) s.channels (slice_set s.channels (p.0 - 1) (shut c)) p c (shut c) (filter off s.parked) refl w fine;
      does = λ sound. wrote p c (shut c) refl w (shuts live refl (closed_deeds p parts.ended parts.each));
      still = λ h. cc;
      moved = λ h sound. wrote-moves s.channels (slice_set s.channels (p.0 - 1) (shut c)) p c (shut c) w
          (λ same. let g : c.closed ≡ true = ap (λ (x : Shown). x.closed) same in cc);
      head = refl;
      gone = refl;
    }

-- A cancel

waits_for : (s : State) (q : Pid) → fault_of s (Cancel q) ≡ None → is_among q.0 s.parked ≡ true
waits_for s q h = grind arith

cancel_account : (s : State) (pid q : Pid) → Sole q s.parked → Account s pid (Cancel q) (cancels s pid q)
cancel_account s pid q one =
    let x : Ended = record { call = one.call; what = what.Cancelled } in
    let kept : List OpenCall = without q s.parked in
    record {
      answer = what.Done;
      ended = x ∷ [];
      told = ap (λ (p : Pid). tells pid what.Done ∷ tells p what.Cancelled ∷ []) (sym one.own);
      fits = refl;
      placed = tt;
      ends = ((refl, tt), tt);
      leaves = λ a. next x [] s.parked kept kept (one.takes a) (nobody kept);
      fewer = fewer-filter (λ call. not (call.pid.0 == q.0)) s.parked;
      blocked = λ h. cc;
      sound = λ sound p c names e. cc;
      does = λ sound. idle refl refl refl;
      still = λ h. cc;
      moved = λ h sound p names. cc;
      head = refl;
      gone = refl;
    }

-- A reopen

reopen_can : (s : State) (p : Port) (cap : ℕ) → fault_of s (Reopen p cap) ≡ None → reopen_fault (channel_at s p) ≡ None
reopen_can s p cap h = grind arith

pub reopen_parts : (c : Channel) → reopen_fault (Some c) ≡ None → (c.closed ≡ true) × (length c.sent ≤ c.received)
reopen_parts c h = by (c.closed && nat_le (length c.sent) c.received) refl h
  where
    by : (b : Bool) → b ≡ (c.closed && nat_le (length c.sent) c.received) → (if b then None else Some fault.InUse) ≡ None →
        (c.closed ≡ true) × (length c.sent ≤ c.received)
    by true is h =
        let parts = and_parts c.closed (nat_le (length c.sent) c.received) (sym is) in
        (parts.0, leb-true (length c.sent) c.received parts.1)
    by false is h = cc

reopen_account : (s : State) (pid : Pid) (p : Port) (cap : ℕ) (o : Option Channel) → o ≡ channel_at s p → reopen_fault o ≡ None →
    Account s pid (Reopen p cap) (reopens s pid p cap o)
reopen_account s pid p cap None is h = cc
reopen_account s pid p cap (Some c) is h =
    let d : Channel = reopened cap c in
    let ts : List Channel = slice_set s.channels (p.0 - 1) d in
    let w = wrote-set s p c d (sym is) in
    let parts = reopen_parts c h in
    alone s ts pid (Reopen p cap) what.Done refl tt (λ h. cc)
    (λ sound. wrote p c d refl w (opens cap refl parts.0 parts.1 refl refl)) (λ h. cc)
    (λ h sound. wrote-moves s.channels ts p c d w (λ same. let g : c.closed ≡ false = ap (λ (x : Shown). x.closed) same in let over = parts.0 in cc))
    (λ sound. named_sound (Some p) s.channels ts p c d s.parked refl w
    (port-reopened p c cap s.parked parts.0 parts.1 (sound.ports p c (sym is))))

-- A step that meets no fault

room_for_port : (s : State) (cap : ℕ) → fault_of s (Make cap) ≡ None → length s.channels < MOST_PORTS
room_for_port s cap h = grind arith

pub effect-account : (s : State) (pid : Pid) (step : Step) → fault_of s step ≡ None →
    Account s pid step (effect s pid step)
effect-account s pid (Make cap) h =
    let ts : List Channel = s.channels ++ fresh cap ∷ [] in
    let new : What = what.Made (record { 0 = length s.channels + 1 }) in
    alone s ts pid (Make cap) new refl tt (λ h. cc) (λ sound. adds cap (room_for_port s cap h) refl refl refl) (λ h. cc)
    (λ h sound p named. made-moves s.channels cap p named)
    (λ sound p c names e.
    let same : record { 0 = length s.channels + 1 } ≡ p = cc in
    let number : p.0 ≡ length s.channels + 1 = sym (ap (λ (r : Port). r.0) same) in
    let new : at ts p ≡ Some (fresh cap) = (next_port s.channels (fresh cap) p number).1 in
    let one : fresh cap ≡ c = cc in
    subst (λ x. PortSound p x s.parked) one (port-fresh s p cap sound number))
effect-account s pid (Call cases default word) h = calls-account s pid cases.items default word
effect-account s pid (Close p) h = grind (arith, close_account)
effect-account s pid Exit h = silent s pid Exit what.Done refl (λ h. cc) refl tt refl
effect-account s pid (Start q) h = silent s pid (Start q) what.Done refl (λ h. cc) refl tt refl
effect-account s pid (Reopen p cap) h = reopen_account s pid p cap (channel_at s p) refl (reopen_can s p cap h)
effect-account s pid (Cancel q) h = cancel_account s pid q (sole q s.parked (waits_for s q h))

-- and a stall, which ends all that wait

stalled_well : (x : Ended) → x.what ≡ what.Stalled → EndsWell x
stalled_well x e = rw e (refl, tt)

stalled_deeds : (xs : List Ended) → AllByRecursion (λ x. x.what ≡ what.Stalled) xs → ended_deeds xs ≡ []
stalled_deeds [] all = refl
stalled_deeds (x ∷ xs) all = rw all.0 (stalled_deeds xs all.1)

stalled_account : (s : State) (pid : Pid) (step : Step) (c : Change) → Account s pid step c →
    Account s pid step (stalled c)
stalled_account s pid step c a =
    let parts = all_stalled c.state.parked in
    let each = all_more (λ x. x.what ≡ what.Stalled) EndsWell parts.ended (λ x. stalled_well x) parts.each in
    let none : ended_deeds (a.ended ++ parts.ended) ≡ ended_deeds a.ended =
    filter_map-append (λ (x : Ended). of_what deed_of x.call.cases x.what) a.ended parts.ended
    ∙ rw (stalled_deeds parts.ended parts.each) (append-nil (ended_deeds a.ended)) in
    record {
      answer = a.answer;
      ended = a.ended ++ parts.ended;
      told = rw (a.told, parts.told) (ap (λ es. tells pid a.answer ∷ es) (sym (map-append event_of a.ended parts.ended)));
      fits = a.fits;
      placed = a.placed;
      ends = all_append EndsWell a.ended parts.ended a.ends each;
      leaves = λ h.
          leave-join a.ended parts.ended (with_caller s.parked pid step a.answer) c.state.parked [] (a.leaves h) parts.leaves;
      fewer = fewer-none (with_caller s.parked pid step a.answer);
      blocked = a.blocked;
      sound = λ sound p d names e.
          port-fewer p d [] c.state.parked (fewer-none c.state.parked) (a.sound sound p d names e);
      does = λ sound. rw none (a.does sound);
      still = a.still;
      moved = a.moved;
      head = a.head;
      gone = a.gone;
    }

-- a fault changes nothing

pub started_none : (q : Pid) (gone : List Pid) → list_any (λ g. g.0 == q.0) gone ≡ false → filter (λ g. not (g.0 == q.0)) gone ≡ gone
started_none q [] h = refl
started_none q (g ∷ gs) h =
    let f = or_parts (g.0 == q.0) (list_any (λ g. g.0 == q.0) gs) h in
    rw f.0 (ap (λ xs. g ∷ xs) (started_none q gs f.1))

start_fails : (s : State) (q : Pid) (f : Fault) → fault_of s (Start q) ≡ Some f → has_gone s q.0 ≡ false
start_fails s q f e = grind arith

no_exit : (s : State) (pid : Pid) (step : Step) (f : Fault) → fault_of s step ≡ Some f →
    with_leaver s.gone pid step ≡ s.gone
no_exit s pid Exit f e = absurd (let g : ⊥ = cc in g)
no_exit s pid (Start q) f e = started_none q s.gone (start_fails s q f e)
no_exit s pid step f e = refl

pub fault_names_none : (step : Step) (f : Fault) → port_touched_by step (what.Fault f) ≡ None
fault_names_none (Make cap) f = refl
fault_names_none step f = refl

pub answers-account : (s : State) (e : Entry) (o : Option Fault) → o ≡ fault_of s e.step →
    Account s e.pid e.step (answers s e o)
answers-account s e None is =
    let c : Change = effect s e.pid e.step in
    let a = effect-account s e.pid e.step (sym is) in
    by-stall (λ (d : Change). Account s e.pid e.step d) c (stalled_account s e.pid e.step c a) a
answers-account s e (Some f) is =
    let events : List Event = tells e.pid (what.Fault f) ∷ [] in
    let fits = journaled s e.step f (sym is) in
    let a = silent s e.pid e.step (what.Fault f) fits (λ h. cc) (fault_names_none e.step f) tt refl in
    subst (λ (g : List Pid). Account s e.pid e.step (record { state = record s { gone = g }; events = events }))
    (no_exit s e.pid e.step f (sym is)) a

-- an admitted entry, in any state
pub turn-account : (s : State) (e : Entry) → Account s e.pid e.step (turn s e)
turn-account s e = answers-account s e (fault_of s e.step) refl

-- in the words of the laws
ended_ends : (xs : List Ended) → AllByRecursion EndsWell xs →
    AllByRecursion (λ x. ends_waiting x.what ≡ true) (events_of xs)
ended_ends [] well = tt
ended_ends (x ∷ xs) well = (well.0.0, ended_ends xs well.1)

pub turn-answered : (s : State) (e : Entry) → IsAnswered e.pid e.step (turn s e).events
turn-answered s e =
    let a = turn-account s e in
    subst (IsAnswered e.pid e.step) (sym a.told)
    (record { own = refl; fits = a.fits; ends = ended_ends a.ended a.ends })
