-- Open calls that end one after the other: all on a port that closes, and all where everyone waits.
use Rattle.std.proofs.Common.{◌≡◌, ℕ, ◌+◌, ◌==◌, Bool, true, false, not, List, [], ◌∷◌, length}
use Rattle.std.proofs.Common.{refl, ap, ◌∙◌, sym, subst, Option, Some, None, arith}
use Rattle.std.specs.Prelude.{is_some, slice_get}
use Rattle.std.specs.List.{list_any, filter_map}
use Rattle.std.specs.Option.{option_map}
use Rattle.std.proofs.lemmas.Grind.{common_steps}
use Rattle.hub_base.specs.declared.value.Pid.{Pid}
use Rattle.hub_base.specs.declared.value.Port.{Port}
use Rattle.hub_base.specs.declared.event.Event.{Event}
use Rattle.hub_base.specs.declared.event.What.TheVariants as what
use Rattle.hub_base.specs.Ready.{is_on, Ending, Placed, or_else, lowest, first_with, without}
use Rattle.hub_base.specs.Steps.{tells, fired, closing_outcome, closing_event}
use Rattle.hub_laws.specs.Sound.{is_among, Apart}
use Rattle.hub_laws.proofs.Calls.{lowest-some, same_number, fewer-filter}
use Rattle.std.proofs.lemmas.Bool.{or_parts, false_from_ne_true, eqb-true}
use Rattle.hub_laws.proofs.Closing.{closes-next}
use Rattle.hub_parts.specs.Records.{Lists, Ticketed}
use Rattle.hub_parts.specs.Lists.{open_calls, still_open, ended_by}
use Rattle.hub_core.specs.ListSteps.{off_port, cleared, none_open, closing_events, stalled_events}

pub open_calls-still_open : (pid : Pid) (ws : List Ticketed) → open_calls (still_open pid ws) ≡ without pid (open_calls ws)
open_calls-still_open pid [] = refl
open_calls-still_open pid (w ∷ ws) = grind (arith, common_steps, open_calls-still_open pid ws)

pub apart-still_open : (pid : Pid) (ws : List Ticketed) → Apart (open_calls ws) → Apart (open_calls (still_open pid ws))
apart-still_open pid ws apart =
    subst Apart (sym (open_calls-still_open pid ws)) ((fewer-filter (λ call. not (call.pid.0 == pid.0)) (open_calls ws)).apart apart)

passes_over : (pid : Pid) (w : Ticketed) (ws : List Ticketed) → (w.call.pid.0 == pid.0) ≡ false → still_open pid (w ∷ ws) ≡ w ∷ still_open pid ws
passes_over pid w ws e = rw e refl

ends : (pid : Pid) (w : Ticketed) (ws : List Ticketed) → (w.call.pid.0 == pid.0) ≡ true → still_open pid (w ∷ ws) ≡ still_open pid ws
ends pid w ws e = rw e refl

still_open-none : (pid : Pid) (ws : List Ticketed) → is_among pid.0 (open_calls ws) ≡ false → still_open pid ws ≡ ws
still_open-none pid [] e = refl
still_open-none pid (w ∷ ws) e =
    let parts = or_parts (w.call.pid.0 == pid.0) (is_among pid.0 (open_calls ws)) e in
    passes_over pid w ws parts.0 ∙ ap (λ vs. w ∷ vs) (still_open-none pid ws parts.1)

-- the first call's own end leaves the others
pub still_open-first : (w : Ticketed) (ws : List Ticketed) → is_among w.call.pid.0 (open_calls ws) ≡ false → still_open w.call.pid (w ∷ ws) ≡ ws
still_open-first w ws e = ends w.call.pid w ws (same_number w.call.pid.0) ∙ still_open-none w.call.pid ws e

other_pid : (pid : Pid) (w : Ticketed) (ws : List Ticketed) → is_among w.call.pid.0 (open_calls ws) ≡ false → is_among pid.0 (open_calls ws) ≡ true
    → (w.call.pid.0 == pid.0) ≡ false
other_pid pid w ws apart among = false_from_ne_true (w.call.pid.0 == pid.0)
    (λ h. let g : is_among pid.0 (open_calls ws) ≡ false = subst (λ (n : ℕ). is_among n (open_calls ws) ≡ false) (eqb-true w.call.pid.0 pid.0 h) apart in cc)

-- one call fewer
pub length-still_open : (pid : Pid) (ws : List Ticketed) → Apart (open_calls ws) → is_among pid.0 (open_calls ws) ≡ true
    → length (still_open pid ws) + 1 ≡ length ws
length-still_open pid [] apart e = cc
length-still_open pid (w ∷ ws) apart e = length_by pid w ws apart (w.call.pid.0 == pid.0) refl e (λ h. length-still_open pid ws apart.1 h) where
  length_by : (pid : Pid) (w : Ticketed) (ws : List Ticketed) → Apart (open_calls (w ∷ ws)) → (b : Bool) → (w.call.pid.0 == pid.0) ≡ b
      → is_among pid.0 (open_calls (w ∷ ws)) ≡ true → (is_among pid.0 (open_calls ws) ≡ true → length (still_open pid ws) + 1 ≡ length ws)
      → length (still_open pid (w ∷ ws)) + 1 ≡ length (w ∷ ws)
  length_by pid w ws apart true is e ih =
      let same : is_among pid.0 (open_calls ws) ≡ false = subst (λ (n : ℕ). is_among n (open_calls ws) ≡ false) (eqb-true w.call.pid.0 pid.0 is) apart.0 in
      let kept : still_open pid (w ∷ ws) ≡ ws = ends pid w ws is ∙ still_open-none pid ws same in
      omega (arith, ap length kept)
  length_by pid w ws apart false is e ih =
      let later : is_among pid.0 (open_calls ws) ≡ true = (rw is at e) in
      omega (arith, ap length (passes_over pid w ws is), ih later)

-- ---- calls that end one by one, where `told` is what the calls that wait are told, and `left` the board once they have ended
-- the call of this process has ended, and was told this event
pub record EndsOne (told : List Ticketed → List Event) (left : Lists → Lists) (b : Lists) (pid : Pid) (e : Event) : Type 0 where
  pub events : told b.waiting ≡ e ∷ told (still_open pid b.waiting)
  pub kept : left (ended_by pid b) ≡ left b
  pub apart : Apart (open_calls (still_open pid b.waiting))
  pub fewer : length (still_open pid b.waiting) + 1 ≡ length b.waiting

-- none is left to end
pub record EndsNone (told : List Ticketed → List Event) (left : Lists → Lists) (b : Lists) : Type 0 where
  pub events : told b.waiting ≡ []
  pub kept : left b ≡ b

-- ---- a close: the oldest call on the port has ended
off_by : (p : Port) (w : Ticketed) (ws : List Ticketed) (e : Ending) (o : Option Placed) (b : Bool) → b ≡ list_any (is_on p) w.call.cases → b ≡ is_some o
    → is_among w.call.pid.0 (open_calls ws) ≡ false → (first_with (is_on p) (open_calls ws) ≡ Some e → off_port p (still_open e.pid ws) ≡ off_port p ws)
    → (first_with (is_on p) (open_calls ws) ≡ Some e → is_among e.pid.0 (open_calls ws) ≡ true)
    → or_else (option_map (λ c. record { pid = w.call.pid; at = c }) o) (first_with (is_on p) (open_calls ws)) ≡ Some e
    → off_port p (still_open e.pid (w ∷ ws)) ≡ off_port p (w ∷ ws)
off_by p w ws e None false on some apart rest among h =
    let skip : (vs : List Ticketed) → off_port p (w ∷ vs) ≡ w ∷ off_port p vs = λ vs. rw (sym on) refl in
    ap (off_port p) (passes_over e.pid w ws (other_pid e.pid w ws apart (among h))) ∙ skip (still_open e.pid ws) ∙ ap (λ vs. w ∷ vs) (rest h) ∙ sym (skip ws)
off_by p w ws e None true on some apart rest among h = cc
off_by p w ws e (Some a) false on some apart rest among h = cc
off_by p w ws e (Some a) true on some apart rest among h =
    let same : w.call.pid ≡ e.pid = cc in
    let left : off_port p (w ∷ ws) ≡ off_port p ws = rw (sym on) refl in
    ap (λ (q : Pid). off_port p (still_open q (w ∷ ws))) (sym same) ∙ ap (off_port p) (still_open-first w ws apart) ∙ sym left

among_first : (p : Port) (ws : List Ticketed) (e : Ending) → Apart (open_calls ws) → first_with (is_on p) (open_calls ws) ≡ Some e
    → is_among e.pid.0 (open_calls ws) ≡ true
among_first p ws e apart h = ((closes-next p (open_calls ws) apart).next e h).2

off-still_open : (p : Port) (ws : List Ticketed) (e : Ending) → Apart (open_calls ws) → first_with (is_on p) (open_calls ws) ≡ Some e
    → off_port p (still_open e.pid ws) ≡ off_port p ws
off-still_open p [] e apart h = cc
off-still_open p (w ∷ ws) e apart h =
    off_by p w ws e (lowest (is_on p) w.call.cases) (list_any (is_on p) w.call.cases) refl (sym (lowest-some 0 (is_on p) w.call.cases)) apart.0
    (λ f. off-still_open p ws e apart.1 f) (λ f. among_first p ws e apart.1 f) h

pub closes_one : (p : Port) (b : Lists) (e : Ending) → Apart (open_calls b.waiting) → first_with (is_on p) (open_calls b.waiting) ≡ Some e
    → EndsOne (closing_events p) (cleared p) b e.pid (fired e.pid e.at.index (closing_outcome e.at.case))
closes_one p b e apart h =
    let next = (closes-next p (open_calls b.waiting) apart).next e h in
    record {
      events = next.0 ∙ ap (λ calls. fired e.pid e.at.index (closing_outcome e.at.case) ∷ filter_map (closing_event p) calls)
          (sym (open_calls-still_open e.pid b.waiting));
      kept = ap (λ (ws : List Ticketed). record b { waiting = ws }) (off-still_open p b.waiting e apart h);
      apart = apart-still_open e.pid b.waiting apart;
      fewer = length-still_open e.pid b.waiting apart next.2;
    }

-- no call is on the port
record ClosesNone (p : Port) (ws : List Ticketed) : Type 0 where
  events : closing_events p ws ≡ []
  kept : off_port p ws ≡ ws

none_by : (p : Port) (w : Ticketed) (ws : List Ticketed) (o : Option Placed) (b : Bool) → o ≡ lowest (is_on p) w.call.cases
    → b ≡ list_any (is_on p) w.call.cases → b ≡ is_some o → (first_with (is_on p) (open_calls ws) ≡ None → ClosesNone p ws)
    → or_else (option_map (λ c. record { pid = w.call.pid; at = c }) o) (first_with (is_on p) (open_calls ws)) ≡ None → ClosesNone p (w ∷ ws)
none_by p w ws None false at on some rest h =
    let skip : off_port p (w ∷ ws) ≡ w ∷ off_port p ws = rw (sym on) refl in
    let quiet : closing_events p (w ∷ ws) ≡ closing_events p ws = rw (sym at) refl in
    record { events = quiet ∙ (rest h).events; kept = skip ∙ ap (λ vs. w ∷ vs) (rest h).kept }
none_by p w ws None true at on some rest h = cc
none_by p w ws (Some a) b at on some rest h = cc

none_on : (p : Port) (ws : List Ticketed) → first_with (is_on p) (open_calls ws) ≡ None → ClosesNone p ws
none_on p [] h = record { events = refl; kept = refl }
none_on p (w ∷ ws) h =
    none_by p w ws (lowest (is_on p) w.call.cases) (list_any (is_on p) w.call.cases) refl refl
    (sym (lowest-some 0 (is_on p) w.call.cases)) (λ f. none_on p ws f) h

pub closes_none : (p : Port) (b : Lists) → first_with (is_on p) (open_calls b.waiting) ≡ None → EndsNone (closing_events p) (cleared p) b
closes_none p b h =
    let none = none_on p b.waiting h in
    record { events = none.events; kept = ap (λ (ws : List Ticketed). record b { waiting = ws }) none.kept }

-- ---- a stall: the oldest call has ended
pub stops_one : (b : Lists) (pid : Pid) → Apart (open_calls b.waiting) → Some pid ≡ option_map (λ w. w.call.pid) (slice_get b.waiting 0)
    → EndsOne stalled_events none_open b pid (tells pid what.Stalled)
stops_one b pid apart h = first_stops b.waiting apart h where
  first_stops : (ws : List Ticketed) → Apart (open_calls ws) → Some pid ≡ option_map (λ w. w.call.pid) (slice_get ws 0)
      → EndsOne stalled_events none_open (record b { waiting = ws }) pid (tells pid what.Stalled)
  first_stops [] apart h = cc
  first_stops (w ∷ ws) apart h =
      let same : w.call.pid ≡ pid = cc in
      let left : still_open pid (w ∷ ws) ≡ ws = ap (λ (q : Pid). still_open q (w ∷ ws)) (sym same) ∙ still_open-first w ws apart.0 in
      record {
        events = ap (λ (q : Pid). tells q what.Stalled ∷ stalled_events ws) same ∙ ap (λ vs. tells pid what.Stalled ∷ stalled_events vs) (sym left);
        kept = refl;
        apart = subst (λ (vs : List Ticketed). Apart (open_calls vs)) (sym left) apart.1;
        fewer = omega (arith, ap length left);
      }

no_first : (ws : List Ticketed) → None ≡ option_map (λ w. w.call.pid) (slice_get ws 0) → ws ≡ []
no_first [] h = refl
no_first (w ∷ ws) h = cc

pub stops_none : (b : Lists) → None ≡ option_map (λ w. w.call.pid) (slice_get b.waiting 0) → EndsNone stalled_events none_open b
stops_none b h =
    let none = no_first b.waiting h in
    record { events = ap stalled_events none; kept = ap (λ (ws : List Ticketed). record b { waiting = ws }) (sym none) }
