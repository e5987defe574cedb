-- Why an entry of a seat is refused, and that its process has no open call.
use Rattle.std.proofs.Common.{◌≡◌, ℕ, ◌<◌, ◌≤◌, ◌==◌, Bool, true, false, cond, not, ◌||◌, nat_lt, List, []}
use Rattle.std.proofs.Common.{◌∷◌, ◌++◌, length, refl, ap, ◌∙◌, subst, arith, Option, Some, None}
use Rattle.std.specs.List.{list_any}
use Rattle.std.proofs.lemmas.List.{length-append}
use Rattle.std.proofs.lemmas.List.Elements.{filter-append}
use Rattle.std.proofs.lemmas.Bool.Decides.{nat_tests}
use Rattle.hub_base.specs.declared.fault.Fault.TheVariants as fault
use Rattle.hub_base.specs.Steps.{has_gone}
use Rattle.hub_laws.proofs.Lasting.{procs-after}
use Rattle.hub_laws.proofs.Replies.{replies-law}
use Rattle.hub_core.specs.HubView.{Grows}
use Rattle.hub_live.specs.Calls.{LeavesRoom, AsksNothing}
use Rattle.hub_live.specs.Prelude.{IsPrefix, Pid, Step, Make, Call, Close, Exit, Cancel, Start, Reopen, Entry, Fault, refusal, is_waiting}
use Rattle.hub_live.specs.Prelude.{state, is_exit}
use Rattle.hub_live.specs.Prelude.{steps_of, own, reply, HubView, Refuses, state_of, Terms, IsHub, Shows}

-- ---- entries of others

empty : {A : Type 0} (xs : List A) → length xs ≡ 0 → xs ≡ []
empty [] e = refl
empty (x ∷ xs) e = absurd (omega arith)

own_nothing : (q : ℕ) (es fs : List Entry) → own q (es ++ fs) ≡ own q es → own q fs ≡ []
own_nothing q es fs same =
    let split : own q (es ++ fs) ≡ own q es ++ own q fs = filter-append (λ (e : Entry). e.pid.0 == q) es fs in
    empty (own q fs) (omega (arith, ap length same, ap length split, length-append (own q es) (own q fs)))

none_more : (q : ℕ) (f : Entry) (fs : List Entry) (b : Bool) → (own q fs ≡ [] → list_any (λ e. e.pid.0 == q) fs ≡ false)
    → cond b (f ∷ own q fs) (own q fs) ≡ [] → (b || list_any (λ e. e.pid.0 == q) fs) ≡ false
none_more q f fs true rest h = absurd (let g : ⊥ = cc in g)
none_more q f fs false rest h = rest h

none_own : (q : ℕ) (fs : List Entry) → own q fs ≡ [] → list_any (λ e. e.pid.0 == q) fs ≡ false
none_own q [] none = refl
none_own q (f ∷ fs) none = none_more q f fs (f.pid.0 == q) (none_own q fs) none

-- a process without an open call asked nothing where the journal went on with no entry of it
pub asks_nothing : (t : Terms) (pid : Pid) (before after : List Entry) → IsPrefix before after → own pid.0 after ≡ own pid.0 before
    → is_waiting (state t.head before) pid.0 ≡ false → AsksNothing t pid before after
asks_nothing t pid before after p same free =
    let same' : own pid.0 (before ++ p.0) ≡ own pid.0 before = ap (own pid.0) p.1 ∙ same in
    let still = replies-law t.head before pid.0 p.0 free (none_own pid.0 p.0 (own_nothing pid.0 before p.0 same')) in
    record {
      own = same;
      reply = subst (λ (es : List Entry). reply pid.0 t.head es ≡ reply pid.0 t.head before) p.1 still.reply;
      free = subst (λ (es : List Entry). is_waiting (state t.head es) pid.0 ≡ false) p.1 still.free;
    }

-- ---- refusals

abbrev refused : Bool → Bool → Bool → Option Fault
refused a b c = cond a (Some fault.NoProcess) (cond b (Some fault.Gone) (cond c (Some fault.Busy) None))

-- the test that refused
abbrev tested : Bool → Bool → Bool → Fault → Type 0
tested a b c fault.NoProcess = a ≡ true
tested a b c fault.Gone = b ≡ true
tested a b c fault.Busy = c ≡ true
tested a b c other = Unit {0}

refused_so : (a b c : Bool) (f : Fault) → refused a b c ≡ Some f → tested a b c f
refused_so true b c f h = let e : fault.NoProcess ≡ f = cc in subst (tested true b c) e refl
refused_so false true c f h = let e : fault.Gone ≡ f = cc in subst (tested false true c) e refl
refused_so false false true f h = let e : fault.Busy ≡ f = cc in subst (tested false false true) e refl
refused_so false false false f h = absurd (cc)

growing : (step : Step) (places : ℕ) → Grows step places → is_exit step ≡ false
growing (Make cap) places g = refl
growing (Call cases default word) places g = refl
growing (Close p) places g = refl
growing Exit places g = absurd g
growing (Cancel q) places g = refl
growing (Start q) places g = refl
growing (Reopen p cap) places g = refl

below_not : (p n : ℕ) → p < n → not (nat_lt p n) ≡ true → ⊥
below_not p n lt h = grind (arith, nat_tests)

-- what a refusal shows, where the process is one of the hub's and has no open call
pub shows : (t : Terms) (h : HubView) (e : Entry) (f : Fault) → IsHub t h → e.pid.0 < t.head.procs → is_waiting (state_of h) e.pid.0 ≡ false
    → Refuses h e f → Shows t e h.journal f
shows t h e fault.JournalFull is below free r =
    (r.0, let le : h.terms.limit ≤ steps_of h.journal = r.1 in omega (arith, is.within, ap (λ (t : Terms). t.limit) is.terms))
shows t h e fault.NoProcess is below free r = absurd (below_not e.pid.0 (state_of h).head.procs (omega (
  arith,
  below,
  ap (λ (t : Terms). t.head.procs) is.terms,
  procs-after h.terms.head h.journal,
)) (refused_so _ _ _ fault.NoProcess r.1))
shows t h e fault.Gone is below free r =
    let room : LeavesRoom t e h.journal = λ exit. subst (λ (t : Terms). steps_of h.journal < t.limit) is.terms (r.0 exit) in
    let gone : has_gone (state_of h) e.pid.0 ≡ true =
    refused_so _ _ _ fault.Gone r.1 in
    (room, subst (λ (t : Terms). has_gone (state t.head h.journal) e.pid.0 ≡ true) is.terms gone)
shows t h e fault.Busy is below free r =
    let busy : is_waiting (state_of h) e.pid.0 ≡ true =
    refused_so _ _ _ fault.Busy r.1 in
    absurd (let g : ⊥ = cc in g)
shows t h e fault.NoMemory is below free r =
    let step : is_exit e.step ≡ false = growing e.step h.places r.2 in (
      step,
      subst (λ (t : Terms). steps_of h.journal < t.limit) is.terms (r.0 step),
      subst (λ (t : Terms). refusal (state t.head h.journal) e.pid ≡ None) is.terms r.1,
    )
shows t h e fault.TooManyCases is below free r = absurd r
shows t h e fault.NoPort is below free r = absurd r
shows t h e fault.BadCap is below free r = absurd r
shows t h e fault.TooManyPorts is below free r = absurd r
shows t h e fault.NilClose is below free r = absurd r
shows t h e fault.AlreadyClosed is below free r = absurd r
shows t h e fault.NotParked is below free r = absurd r
shows t h e fault.InUse is below free r = absurd r
shows t h e fault.NotGone is below free r = absurd r
