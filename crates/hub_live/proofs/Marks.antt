-- A mark tells the counts of its port, and one entry changes at most one mark.
use Rattle.std.proofs.Common.{◌≡◌, ◌≢◌, ◌<◌, ◌≤◌, ◌==◌, ℕ, ◌+◌, ◌-◌, ◌*◌, ◌/◌, ◌%◌, Bool, true, false, cond, List}
use Rattle.std.proofs.Common.{[], ◌∷◌, ◌++◌, length, Option, None, Some, refl, sym, ap, ◌∙◌, subst, arith}
use Rattle.std.specs.Prelude.{MatchBool, nat_le, slice_get}
use Rattle.std.specs.Option.{option_map, option_map_or}
use Rattle.std.proofs.lemmas.Bool.Decides.{nat_tests}
use Rattle.std.proofs.lemmas.Bool.{eqb-true}
use Rattle.std.proofs.lemmas.Option.{slice_get_past}
use Rattle.hub_base.specs.declared.counts.Counts.{Counts}
use Rattle.hub_base.specs.declared.counts.Look.{Look}
use Rattle.hub_base.specs.declared.limits.TheConstants.{MOST_STEPS}
use Rattle.hub_base.specs.State.{channel_at}
use Rattle.hub_laws.specs.OnePort.{found_closed, Shown, shown, port_touched, port_touched_by, IsPort}
use Rattle.hub_laws.proofs.OnePort.{one_port-law}
use Rattle.hub_laws.proofs.Counts.{counts-law}
use Rattle.hub_laws.proofs.States.{state-laws}
use Rattle.hub_core.specs.Looks.{look_at}
use Rattle.hub_live.specs.Mark.{of_a_send, of_a_port, of_a_close, counts_in, counts_at}
use Rattle.hub_live.specs.Prelude.{Head, Port, Entry, MOST_PORTS, Step, Event, Channel, moves, state, steps_of, IsLegal, changed, number_of, port_changed}
use Rattle.hub_live.specs.Prelude.{counts_of, mark_of, read_back, mark_at, port_numbered, mark, MarksOne, IsOther}

-- counts as a hub has them
pub record IsCounted (c : Counts) : Type 0 where
  pub len : c.len ≡ c.sent - c.received
  pub received : c.received ≤ c.sent
  pub sent : c.sent ≤ MOST_STEPS

-- the parts of a mark
parts : (b : Bool) (sent received : ℕ) → sent ≤ MOST_STEPS → received ≤ MOST_STEPS
    → (m : ℕ) → m ≡ cond b of_a_close 0 + of_a_port + of_a_send * sent + received
    → (m % of_a_send ≡ received) × (m / of_a_send % of_a_send ≡ sent) × (nat_le of_a_close m ≡ b) × ((m == 0) ≡ false)
parts true sent received s r m is = (omega arith, omega arith, grind (arith, nat_tests), grind (arith, nat_tests))
parts false sent received s r m is = (omega arith, omega arith, grind (arith, nat_tests), grind (arith, nat_tests))

-- a mark tells the counts that it was made of
pub read_back-mark : (c : Counts) → IsCounted c → read_back (mark_of c) ≡ Some c
read_back-mark c is =
    let p = parts c.closed c.sent c.received is.sent (omega (arith, is.received, is.sent)) (mark_of c) refl in
    ap (λ (b : Bool). cond b None (Some (counts_in (mark_of c)))) p.3
    ∙ ap Some (λ i. record {
      len = (ap (λ x. x - mark_of c % of_a_send) p.1 ∙ (ap (λ x. c.sent - x) p.0 ∙ sym is.len)) i;
      sent = p.1 i;
      received = p.0 i;
      closed = p.2 i;
    })

-- ---- the counts of a run

-- the counts of a channel in a run with no more than so many steps
counted : (head : Head) (es : List Entry) (p : Port) (o : Option Channel) → channel_at (state head es) p ≡ o → IsLegal head es → steps_of es ≤ MOST_STEPS
    → read_back (option_map_or mark_of (option_map counts_of o) 0) ≡ option_map counts_of o
counted head es p None is legal few = refl
counted head es p (Some c) is legal few = read_back-mark (counts_of c) (is_counted head es p c is legal few)
  where
    is_counted : (head : Head) (es : List Entry) (p : Port) (c : Channel) → channel_at (state head es) p ≡ Some c → IsLegal head es
        → steps_of es ≤ MOST_STEPS → IsCounted (counts_of c)
    is_counted head es p c is legal few =
        let k = counts-law head es p c is in
        record { len = refl; received = k.received; sent = omega (arith, k.sent, ap steps_of legal, few) }

-- a mark tells the counts of its port
pub mark-tells : (head : Head) (es : List Entry) (p : Port) → IsLegal head es → steps_of es ≤ MOST_STEPS
    → read_back (mark_at (state head es) p) ≡ counts_at (state head es) p
mark-tells head es p legal few = counted head es p (channel_at (state head es) p) refl legal few

few_counts : (head : Head) (es : List Entry) (p : Port) (o : Option Channel) (l : Look) → channel_at (state head es) p ≡ o
    → IsLegal head es → steps_of es ≤ MOST_STEPS → option_map (λ c. record { cap = c.cap; counts = counts_of c }) o ≡ Some l
    → (l.counts.sent ≤ MOST_STEPS) × (l.counts.received ≤ MOST_STEPS) × (mark_of l.counts ≡ option_map_or mark_of (option_map counts_of o) 0)
few_counts head es p None l is legal few at = absurd (let h : ⊥ = cc in h)
few_counts head es p (Some c) l is legal few at =
    let k = counts-law head es p c is in
    let same : l ≡ record { cap = c.cap; counts = counts_of c } = cc in
    let sent : length c.sent ≤ MOST_STEPS = omega (arith, k.sent, ap steps_of legal, few) in (
      subst (λ (x : Look). x.counts.sent ≤ MOST_STEPS) (sym same) sent,
      subst (λ (x : Look). x.counts.received ≤ MOST_STEPS) (sym same) (omega (arith, sent, k.received)),
      ap (λ (x : Look). mark_of x.counts) same,
    )

-- a look tells counts that have a mark
pub look-mark : (head : Head) (es : List Entry) (p : Port) (l : Look) → IsLegal head es → steps_of es ≤ MOST_STEPS → look_at (state head es) p ≡ Some l
    → (l.counts.sent ≤ MOST_STEPS) × (l.counts.received ≤ MOST_STEPS) × (mark_of l.counts ≡ mark_at (state head es) p)
look-mark head es p l legal few at = few_counts head es p (channel_at (state head es) p) l refl legal few at

none_at : (b : Bool) (cs : List Channel) (i : ℕ) → (b ≡ false → length cs ≤ i) → option_map counts_of (cond b None (slice_get cs i)) ≡ None
none_at true cs i le = refl
none_at false cs i le = ap (option_map counts_of) (slice_get_past cs i (le refl))

-- port 0 and those above the greatest are not made
pub no_port : (head : Head) (es : List Entry) (p : Port) → (0 < p.0 → p.0 ≤ MOST_PORTS → ⊥) → counts_at (state head es) p ≡ None
no_port head es p out =
    let few = (state-laws head es).few in
    none_at (p.0 == 0) (state head es).channels (p.0 - 1)
    (λ h. let some : 0 < p.0 = grind (arith, nat_tests) in let many : p.0 ≤ MOST_PORTS → ⊥ = out some in omega (arith, few, many))

-- ---- one entry, one mark

-- the number of the port that an entry may write: 0 for none, and no more than there may be ports
few_ports : (head : Head) (es : List Entry) (e : Entry) (o : Option Port) → ((p : Port) → o ≡ Some p → IsPort p (state head (es ++ e ∷ [])))
    → number_of o ≤ MOST_PORTS
few_ports head es e None made = omega arith
few_ports head es e (Some p) made = omega (arith, (made p refl).few, (state-laws head (es ++ e ∷ [])).few)

changed_named : (step : Step) (events : List Event) (p : Port) → port_changed step events ≡ Some p → port_touched step events ≡ Some p
changed_named step [] p h = h
changed_named step (x ∷ xs) p h = by (found_closed x.what) h
  where
    by : (b : Bool) → cond b None (port_touched_by step x.what) ≡ Some p → port_touched_by step x.what ≡ Some p
    by true h = cc
    by false h = h

pub changed-few : (head : Head) (es : List Entry) (e : Entry) → number_of (changed head es e) ≤ MOST_PORTS
changed-few head es e =
    few_ports head es e (changed head es e) (λ p h. (one_port-law head es e).made p (changed_named e.step (moves (state head es) e).events p h))

one_mark : (head : Head) (es : List Entry) (e : Entry) (word number : ℕ) (b : Bool) → (number == word) ≡ b → word ≡ number_of (changed head es e)
    → MatchBool b (mark head (es ++ e ∷ []) number ≡ mark head (es ++ e ∷ []) word) (mark head (es ++ e ∷ []) number ≡ mark head es number)
one_mark head es e word number true same is = ap (mark head (es ++ e ∷ [])) (eqb-true number word same)
one_mark head es e word number false other is =
    let apart : (number_of (changed head es e) == number) ≡ false = let h : number ≢ number_of (changed head es e) =
    λ k. (let g : number ≢ word = grind (arith, nat_tests) in g) (k ∙ sym is) in grind (arith, nat_tests) in
    ap (λ (o : Option Channel). option_map_or mark_of (option_map counts_of o) 0) ((one_port-law head es e).numbers (port_numbered number) apart)

-- one entry changes at most the mark of the port that it changes
pub marks_one : (head : Head) (es : List Entry) (e : Entry) (word : ℕ) → word ≡ number_of (changed head es e)
    → MarksOne head es e word (mark head (es ++ e ∷ []) word)
marks_one head es e word is number lo hi = one_mark head es e word number (number == word) refl is

abbrev shown_of : Counts → Shown
shown_of k = record { closed = k.closed; sent = k.sent; received = k.received }

shown_at : (o : Option Channel) → option_map shown_of (option_map counts_of o) ≡ option_map shown o
shown_at None = refl
shown_at (Some c) = refl

-- and that mark is another than before
pub mark_other : (head : Head) (es : List Entry) (e : Entry) (word : ℕ) → IsLegal head es → steps_of es ≤ MOST_STEPS → IsLegal head (es ++ e ∷ [])
    → steps_of (es ++ e ∷ []) ≤ MOST_STEPS → word ≡ number_of (changed head es e) → IsOther head es word (mark head (es ++ e ∷ []) word)
mark_other head es e word legal few legal_then few_then is above same = by (changed head es e) refl is
  where
    by : (o : Option Port) → changed head es e ≡ o → word ≡ number_of o → ⊥
    by None none is = absurd (omega (arith, is, above))
    by (Some p) named is =
        let q : Port = port_numbered word in
        let here : p ≡ q = ap port_numbered (sym is) in
        let counts : counts_at (state head es) q ≡ counts_at (state head (es ++ e ∷ [])) q =
        sym (mark-tells head es q legal few) ∙ ap read_back same ∙ mark-tells head (es ++ e ∷ []) q legal_then few_then in
        let told : option_map shown (channel_at (state head es) q) ≡ option_map shown (channel_at (state head (es ++ e ∷ [])) q) =
        sym (shown_at (channel_at (state head es) q)) ∙ ap (option_map shown_of) counts ∙ shown_at (channel_at (state head (es ++ e ∷ [])) q) in
        (one_port-law head es e).moved q (named ∙ ap (λ r. Some r) here) told
