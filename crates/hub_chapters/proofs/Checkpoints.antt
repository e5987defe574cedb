-- The checkpoint of a state that a run reaches: legal, leads to a state that is alike, and short.
use Rattle.hub_laws.proofs.Prelude.{◌≡◌, Bool, true, false, List, [], ◌∷◌, ◌++◌, refl, ap, ◌∙◌, sym, subst, Option, Some, None, ℕ, ◌+◌, ◌≤◌, ◌<◌}
use Rattle.hub_laws.proofs.Prelude.{cond, zero, suc, length, arith, map, option_map}
use Rattle.std.specs.Prelude.{◌*◌}
use Rattle.hub_laws.proofs.Prelude.{length-append, length-map, length-drop, AllByRecursion, filter}
use Rattle.hub_laws.proofs.Prelude.{Entry, Close, Fault, Head, Pid, Port, Channel, State, OpenCall, MOST_CAP, MOST_PORTS}
use Rattle.hub_laws.proofs.Prelude.{opening, state, state_after, admits, refusal, steps_of, all_wait, has_gone, buffer_of, channel_at, IsSound}
use Rattle.hub_laws.proofs.Prelude.{PortSound, CallFits}
use Rattle.std.specs.List.{range_with_len}
use Rattle.hub_base.specs.declared.fault.Fault.TheVariants as fault
use Rattle.hub_laws.proofs.Lasting.{head-after, ports-law}
use Rattle.hub_laws.proofs.Account.{procs-of}
use Rattle.hub_laws.proofs.Rules.{state-sound}
use Rattle.hub_laws.proofs.States.{count-law}
use Rattle.hub_chapters.specs.Alike.{afresh, Alike}
use Rattle.hub_base.specs.Lines.{by}
use Rattle.hub_base.specs.Notation.{exit}
use Rattle.hub_chapters.specs.Checkpoint.{send_again, port_again, ports_again, call_again, exited, checkpoint, CheckpointLaw}
use Rattle.hub_chapters.proofs.Buffers.{at-afresh}
use Rattle.hub_chapters.proofs.Steps.{all_wait-like}
use Rattle.hub_chapters.proofs.Leading.{Leads, leads-more}
use Rattle.hub_chapters.proofs.Ports.{quiet, Within, ports-lead}
use Rattle.hub_chapters.proofs.Exits.{left, pid_of, exits-lead, gone-same}
use Rattle.hub_chapters.proofs.Calls.{parks-lead}
use Rattle.hub_chapters.proofs.Editions.{checkpoint-steps, checkpoint-fits}
use Rattle.hub_chapters.proofs.Weights.{one, weights, weight-law}
use Rattle.hub_chapters.proofs.Reached.{awake-law, below-law, within-law}

-- the state that a checkpoint leads to
abbrev pub renewed : State → State
renewed s = record { head = s.head; gone = map pid_of (exited s); parked = s.parked; channels = map afresh s.channels }

-- what is known of each state that a run reaches
pub record Reached (s : State) : Type 0 where
  pub some : 1 ≤ length s.channels → 1 ≤ s.head.procs
  pub sound : IsSound s
  pub ports : length s.channels ≤ MOST_PORTS
  pub within : AllByRecursion Within s.channels
  pub below : (q : ℕ) → has_gone s q ≡ true → q < s.head.procs
  pub awake : all_wait s ≡ false

-- a hub without processes admits nothing
none_admitted : (h : Head) (pid : Pid) → h.procs ≡ 0 → refusal (opening h) pid ≡ Some fault.NoProcess
none_admitted h pid none = grind arith

stays_empty : (h : Head) (es : List Entry) → h.procs ≡ 0 → state h es ≡ opening h
stays_empty h [] none = refl
stays_empty h (e ∷ es) none =
    ap (λ (o : Option Fault). state_after (admits (opening h) e o).state es) (none_admitted h e.pid none) ∙ stays_empty h es none

maker_there : (h : Head) (es : List Entry) → 1 ≤ length (state h es).channels → 1 ≤ h.procs
maker_there h es made = by h.procs refl
  where
    by : (n : ℕ) → n ≡ h.procs → 1 ≤ n
    by zero is = let none = ap (λ (s : State). length s.channels) (stays_empty h es (sym is)) in absurd (omega arith)
    by (suc n) is = omega arith

pub reached : (h : Head) (es : List Entry) → Reached (state h es)
reached h es = record {
  some = λ made. let n = procs-of (head-after (opening h) es) in let m = maker_there h es made in omega arith;
  sound = state-sound h es;
  ports = ports-law h es;
  within = within-law h es;
  below = below-law h es;
  awake = awake-law h es;
}

-- It is alike

afresh_twice : (cs : List Channel) → map afresh (map afresh cs) ≡ map afresh cs
afresh_twice [] = refl
afresh_twice (c ∷ cs) = ap (λ xs. afresh c ∷ xs) (afresh_twice cs)

pub renewed-alike : (s : State) → Reached s → Alike (renewed s) s
renewed-alike s r = record {
  head = refl;
  gone = λ q. gone-same (has_gone s) s.head.procs q (r.below q);
  parked = refl;
  channels = afresh_twice s.channels;
}

-- and is sound

port_afresh : (p : Port) (c : Channel) (calls : List OpenCall) → PortSound p c calls → PortSound p (afresh c) calls
port_afresh p c calls f =
    let l = length-drop c.received c.sent in
    record {
      received = omega arith;
      fits = let g = f.fits in omega arith;
      receivers = λ e. let g = f.receivers e in omega arith;
      senders = λ e. let g = f.senders e in omega arith;
      ended = f.ended;
      alone = f.alone;
    }

port_renewed : (s : State) (p : Port) (d : Channel) (o : Option Channel) → o ≡ channel_at s p → IsSound s → option_map afresh o ≡ Some d →
    PortSound p d s.parked
port_renewed s p d None is sound e = absurd (let g : ⊥ = cc in g)
port_renewed s p d (Some c) is sound e =
    let same : afresh c ≡ d = cc in subst (λ (x : Channel). PortSound p x s.parked) same (port_afresh p c s.parked (sound.ports p c (sym is)))

pub renewed-sound : (s : State) → Reached s → IsSound (renewed s)
renewed-sound s r = record {
  apart = r.sound.apart;
  present = λ q w. let there = r.sound.present q w in (there.0, gone-same (has_gone s) s.head.procs q (r.below q) ∙ there.1);
  calls = subst (λ n. AllByRecursion (CallFits s.head.edition n) s.parked) (sym (length-map s.channels afresh)) r.sound.calls;
  ports = λ p d e. port_renewed s p d (channel_at s p) refl r.sound (sym (at-afresh s.channels p) ∙ e);
}

-- The checkpoint leads there

pub checkpoint-leads : (s : State) → Reached s → Leads (opening s.head) (checkpoint s) (renewed s)
checkpoint-leads s r =
    let h : Head = s.head in
    let cs : List Channel = map afresh s.channels in
    let gone : List Pid = map pid_of (exited s) in
    let made : Leads (opening h) (ports_again 1 s.channels) (quiet h cs) =
    ports-lead h [] s.channels 1 r.some refl (let g = r.ports in omega arith) r.within in
    let exits : Leads (quiet h cs) (map exit (exited s)) (left h cs gone) =
    exits-lead h cs (has_gone s) h.procs 0 [] (omega arith) (λ q z. refl) in
    let awake = all_wait-like (renewed s) s (renewed-alike s r) ∙ r.awake in
    let calls : Leads (left h cs gone) (map call_again s.parked) (renewed s) = parks-lead (left h cs gone) [] s.parked (renewed-sound s r) awake in
    leads-more (opening h) (left h cs gone) (renewed s) (ports_again 1 s.channels ++ map exit (exited s)) (map call_again s.parked)
    (leads-more (opening h) (quiet h cs) (left h cs gone) (ports_again 1 s.channels) (map exit (exited s)) made exits) calls

-- It is short

last_short : (n : ℕ) (b : Bool) → length (cond b (by 0 (Close (record { 0 = n })) ∷ []) []) ≤ 1
last_short n true = omega arith
last_short n false = omega arith

port_short : (n : ℕ) (c : Channel) → Within c → length (port_again n c) ≤ MOST_CAP + 2
port_short n c w =
    let closes : List Entry = cond c.closed (by 0 (Close (record { 0 = n })) ∷ []) [] in
    let a = length-append (map (send_again n) (buffer_of c)) closes in
    let m = length-map (buffer_of c) (send_again n) in
    let l = last_short n c.closed in
    let few = w.few in
    let fits = w.fits in
    omega arith

ports_short : (n : ℕ) (cs : List Channel) → AllByRecursion Within cs → length (ports_again n cs) ≤ length cs * (MOST_CAP + 2)
ports_short n [] all = omega arith
ports_short n (c ∷ cs) all =
    let a = length-append (port_again n c) (ports_again (n + 1) cs) in
    let one = port_short n c all.0 in
    let rest = ports_short (n + 1) cs all.1 in
    omega arith

numbers_short : (test : ℕ → Bool) (a n : ℕ) → length (filter test (range_with_len a n)) ≤ n
numbers_short test a zero = omega arith
numbers_short test a (suc n) = by (test a) (numbers_short test (a + 1) n)
  where
    by : (b : Bool) → length (filter test (range_with_len (a + 1) n)) ≤ n →
        length (cond b (a ∷ filter test (range_with_len (a + 1) n)) (filter test (range_with_len (a + 1) n))) ≤ suc n
    by true h = omega arith
    by false h = omega arith

pub checkpoint-short : (s : State) → Reached s → length (checkpoint s) ≤ MOST_PORTS * (MOST_CAP + 2) + s.head.procs + s.head.procs
checkpoint-short s r =
    let exits : List Entry = map exit (exited s) in
    let calls : List Entry = map call_again s.parked in
    let a = length-append (ports_again 1 s.channels ++ exits) calls in
    let b = length-append (ports_again 1 s.channels) exits in
    let ports : length s.channels * (MOST_CAP + 2) ≤ MOST_PORTS * (MOST_CAP + 2) = let most = r.ports in omega arith in
    let p = ports_short 1 s.channels r.within in
    let e = length-map (exited s) exit in
    let c = length-map s.parked call_again in
    let n = numbers_short (has_gone s) 0 s.head.procs in
    let m = count-law s r.sound in
    let most = r.ports in
    omega arith

-- and has few steps

closed_once : (b : Bool) → one b ≤ 1
closed_once true = omega arith
closed_once false = omega arith

weights_few : (cs : List Channel) → AllByRecursion Within cs → weights cs ≤ length cs * (MOST_CAP + 2)
weights_few [] all = omega arith
weights_few (c ∷ cs) all =
    let few = all.0.few in
    let fits = all.0.fits in
    omega (arith, closed_once c.closed, weights_few cs all.1)

pub checkpoint-few : (s : State) → Reached s → steps_of (checkpoint s) ≤ MOST_PORTS * (MOST_CAP + 2) + s.head.procs
checkpoint-few s r =
    let ports : length s.channels * (MOST_CAP + 2) ≤ MOST_PORTS * (MOST_CAP + 2) = let most = r.ports in omega arith in
    omega (arith, checkpoint-steps s, weights_few s.channels r.within, count-law s r.sound)

pub checkpoint-law : (h : Head) (es : List Entry) → CheckpointLaw h es
checkpoint-law h es =
    let s : State = state h es in
    let r = reached h es in
    let same : s.head ≡ h = head-after (opening h) es in
    let procs = procs-of same in
    let leads : Leads (opening h) (checkpoint s) (renewed s) =
    subst (λ (x : Head). Leads (opening x) (checkpoint s) (renewed s)) same (checkpoint-leads s r) in
    record {
      legal = leads.legal;
      alike = subst (λ (t : State). Alike t s) (sym leads.there) (renewed-alike s r);
      steps = omega (arith, checkpoint-steps s, weight-law h es);
      few_steps = let few = checkpoint-few s r in omega arith;
      short = let short = checkpoint-short s r in omega arith;
      fits = checkpoint-fits h es;
    }

-- States that are alike have one checkpoint

ports_afresh : (n : ℕ) (cs : List Channel) → ports_again n (map afresh cs) ≡ ports_again n cs
ports_afresh n [] = refl
ports_afresh n (c ∷ cs) = ap (λ es. port_again n c ++ es) (ports_afresh (n + 1) cs)

pub one-checkpoint : (s t : State) → Alike s t → checkpoint s ≡ checkpoint t
one-checkpoint s t a =
    let ports : ports_again 1 s.channels ≡ ports_again 1 t.channels =
    sym (ports_afresh 1 s.channels) ∙ ap (λ (cs : List Channel). ports_again 1 cs) a.channels ∙ ports_afresh 1 t.channels in
    let gone : exited s ≡ exited t =
    ap (λ (h : Head). filter (has_gone s) (range_with_len 0 h.procs)) a.head ∙ (λ i. filter (λ q. a.gone q i) (range_with_len 0 t.head.procs)) in
    ap (λ es. es ++ map exit (exited s) ++ map call_again s.parked) ports
    ∙ ap (λ qs. ports_again 1 t.channels ++ map exit qs ++ map call_again s.parked) gone
    ∙ ap (λ (cs : List OpenCall). ports_again 1 t.channels ++ map exit (exited t) ++ map call_again cs) a.parked
