-- What a write does to the channels, and what follows of each port from what a step can do to them.
use Rattle.hub_laws.proofs.Prelude.{common_steps, ◌≡◌, Bool, true, false, List, [], ◌∷◌, ◌++◌, refl, ap, ◌∙◌, sym, subst, Option, Some, None, ℕ, ◌==◌}
use Rattle.hub_laws.proofs.Prelude.{zero}
use Rattle.hub_laws.proofs.Prelude.{suc, ◌+◌, ◌≤◌, cond, length, arith, ◌-◌, ◌<◌, length-set, eqb-true, eqb-false, slice_get_past, slice_get_within}
use Rattle.hub_laws.proofs.Prelude.{slice_get-get_or, AllByRecursion, option_map, slice_get, slice_set, get_or, MOST_PORTS, Port, Value, port_of, State}
use Rattle.hub_laws.proofs.Prelude.{Channel, channel_at, after_send, next_value, shown, is_port, IsMade, IsSound, all_more}
use Rattle.hub_laws.proofs.Deeds.{Deed, at, fresh, Wrote, Does, idle, adds, wrote, DoesAt, stays_at, makes_at, moves_at, Moved}
use Rattle.hub_laws.proofs.Fires.{longer}
use Rattle.hub_laws.proofs.Ports.{above_zero, made, written, get_set_other, same_port}

-- the channels after a write

other_by : (b : Bool) (cs : List Channel) (i : ℕ) (d : Channel) (p : Port) → b ≡ (p.0 == 0) → (b ≡ false → i ≡ p.0 - 1 → ⊥)
    → cond b None (slice_get (slice_set cs i d) (p.0 - 1)) ≡ cond b None (slice_get cs (p.0 - 1))
other_by true cs i d p is h = refl
other_by false cs i d p is h = get_set_other cs i (p.0 - 1) d (h refl)

pub wrote-set : (s : State) (q : Port) (c d : Channel) → channel_at s q ≡ Some c → Wrote s.channels (slice_set s.channels (q.0 - 1) d) q c d
wrote-set s q c d e = record {
  old = e;
  new = written s (record s { channels = slice_set s.channels (q.0 - 1) d }) q c d refl e;
  others = λ p h. other_by (p.0 == 0) s.channels (q.0 - 1) d p refl (λ b same.
      let n = (made s q c e).number in
      let m = above_zero p.0 (b) in
      eqb-false q.0 p.0 h (omega arith));
  ports = length-set s.channels (q.0 - 1) d;
}

pub wrote-same : (s : State) (q : Port) (c : Channel) → channel_at s q ≡ Some c → Wrote s.channels s.channels q c c
wrote-same s q c e = record { old = e; new = e; others = λ p h. refl; ports = refl }

-- where it leaves the port as it was, nothing changes
pub wrote-still : (cs ts : List Channel) (q : Port) (c d : Channel) → Wrote cs ts q c d → d ≡ c → (p : Port) → at ts p ≡ at cs p
wrote-still cs ts q c d w same p = grind arith

-- where it leaves another to be shown, so does the port
pub wrote-moves : (cs ts : List Channel) (q : Port) (c d : Channel) → Wrote cs ts q c d → (shown c ≡ shown d → ⊥) →
    (p : Port) → Some q ≡ Some p → option_map shown (at cs p) ≡ option_map shown (at ts p) → ⊥
wrote-moves cs ts q c d w other p named h = grind arith

-- a port that is made was none before
last_one : (xs : List Channel) (d : Channel) → slice_get (xs ++ d ∷ []) (length xs) ≡ Some d
last_one [] d = refl
last_one (x ∷ xs) d = last_one xs d

pub next_port : (cs : List Channel) (d : Channel) (p : Port) → p.0 ≡ length cs + 1 → (at cs p ≡ None) × (at (cs ++ d ∷ []) p ≡ Some d)
next_port cs d p is = grind (arith, slice_get_past cs (length cs) (omega arith), last_one cs d)

pub made-moves : (cs : List Channel) (cap : ℕ) (p : Port) → Some (record { 0 = length cs + 1 }) ≡ Some p →
    option_map shown (at cs p) ≡ option_map shown (at (cs ++ fresh cap ∷ []) p) → ⊥
made-moves cs cap p named h =
    let same : record { 0 = length cs + 1 } ≡ p = cc in
    let n = next_port cs (fresh cap) p (sym (ap (λ (r : Port). r.0) same)) in
    let told : None ≡ Some (shown (fresh cap)) = sym (ap (option_map shown) n.0) ∙ h ∙ ap (option_map shown) n.1 in
    absurd (let g : ⊥ = cc in g)

-- where a value is sent there is one to receive

pub next_sent : (s : State) (p : Port) (v : Value) (c : Channel) → IsSound s → channel_at s p ≡ Some c → (w : Value) × (next_value (after_send v c) ≡ Some w)
next_sent s p v c sound e =
    let within : c.received < length (c.sent ++ v ∷ []) = omega (arith, (sound.ports p c e).received, longer v c) in
    (get_or (c.sent ++ v ∷ []) c.received v, slice_get-get_or (c.sent ++ v ∷ []) c.received v within)

-- one channel more

get_snoc : (xs : List Channel) (i : ℕ) (d : Channel) → (i ≡ length xs → ⊥) →
    slice_get (xs ++ d ∷ []) i ≡ slice_get xs i
get_snoc [] zero d h = absurd (h refl)
get_snoc [] (suc i) d h = refl
get_snoc (x ∷ xs) zero d h = refl
get_snoc (x ∷ xs) (suc i) d h = get_snoc xs i d (λ e. h (ap suc e))

other_port : (cs : List Channel) (d : Channel) (p : Port) → (length cs + 1 == p.0) ≡ false → at (cs ++ d ∷ []) p ≡ at cs p
other_port cs d p h = grind (arith, get_snoc)

-- What follows from what a step can do

-- the port that is named is made
pub does-made : (cs ts : List Channel) (named again : Option Port) (deeds : List Deed) → Does cs ts named again deeds →
    (p : Port) → named ≡ Some p → IsMade p (length ts)
does-made cs ts named again deeds x4 p h = grind (arith, common_steps, slice_get_within)

-- and no other is written
pub does-others : (cs ts : List Channel) (named again : Option Port) (deeds : List Deed) → Does cs ts named again deeds →
    (p : Port) → is_port named p ≡ false → at ts p ≡ at cs p
does-others cs ts named again deeds x4 p h = grind (arith, other_port)

-- no more ports than there may be
pub does-few : (cs ts : List Channel) (named again : Option Port) (deeds : List Deed) → Does cs ts named again deeds →
    length cs ≤ MOST_PORTS → length ts ≤ MOST_PORTS
does-few cs ts named again deeds x4 few = grind (arith, common_steps)

-- and none is lost
pub does-grows : (cs ts : List Channel) (named again : Option Port) (deeds : List Deed) → Does cs ts named again deeds →
    length cs ≤ length ts
does-grows cs ts named again deeds x4 = grind (arith, common_steps)

-- where it moves one port, all communications are on that, and none on another
pub elsewhere : (p q : Port) (c d : Channel) (again : Option Port) (deeds : List Deed) → (q.0 == p.0) ≡ false → Moved q c d again deeds →
    AllByRecursion (λ x. ((port_of x.case).0 == p.0) ≡ false) deeds
elsewhere p q c d again deeds h x6 = grind (arith, all_more)

-- at each port
pub does-at : (cs ts : List Channel) (named again : Option Port) (deeds : List Deed) → Does cs ts named again deeds → (p : Port) → DoesAt cs ts again deeds p
does-at cs ts named again deeds (idle none same e) p = stays_at (ap (λ xs. at xs p) same) (rw e tt)
does-at cs ts named again deeds (adds cap room names same e) p = by (length cs + 1 == p.0) refl
  where
    by : (b : Bool) → b ≡ (length cs + 1 == p.0) → DoesAt cs ts again deeds p
    by true is = let n = next_port cs (fresh cap) p (sym (eqb-true (length cs + 1) p.0 (sym is))) in makes_at cap n.0 (rw same n.1) e
    by false is = stays_at (rw same (other_port cs (fresh cap) p (sym is))) (rw e tt)
does-at cs ts named again deeds (wrote q c d names w m) p = by (q.0 == p.0) refl
  where
    by : (b : Bool) → b ≡ (q.0 == p.0) → DoesAt cs ts again deeds p
    by true is = subst (DoesAt cs ts again deeds) (same_port q p (eqb-true q.0 p.0 (sym is))) (moves_at c d w.old w.new m)
    by false is = stays_at (w.others p (sym is)) (elsewhere p q c d again deeds (sym is) m)
