-- Where the first entry of a process stands, from a place on, and the tables that tell it.
use Rattle.std.proofs.Common.{◌≡◌, ◌∙◌, ◌+◌, ◌-◌, ◌==◌, ◌≤◌, ◌<◌, ℕ, Bool, true, false, List, [], ◌∷◌, Option, Some, None, refl, ap, sym, subst}
use Rattle.std.proofs.Common.{add-one, arith, length, drop, zero, suc, cond, eq-eqb, length-drop, get_or, set}
use Rattle.std.specs.Prelude.{◌≢◌, slice_get, unwrap_or, IfSome}
use Rattle.std.specs.List.{position_from}
use Rattle.std.proofs.Math.ListN.{length-set}
use Rattle.std.proofs.lemmas.Bool.{eqb-true}
use Rattle.std.proofs.lemmas.List.{get_or-set_other, get_or-set_same}
use Rattle.std.proofs.lemmas.Option.{get_or_from_slice_get, slice_get_read, slice_get_within}
use Rattle.std.specs.Option.{option_map}
use Rattle.hub_base.specs.Entry.{Entry}
use Rattle.hub_base.specs.declared.value.Pid.{Pid}
use Rattle.hub_served.specs.Given.{AreLinks, AreTurns, GivenView, place_from, turn_from}

-- what stands from a place on
left : (place : ℕ) (es : List Entry) (e : Entry) → slice_get es place ≡ Some e → drop place es ≡ e ∷ drop (suc place) es
left place [] e at = absurd (cc)
left zero (f ∷ fs) e at = let same : f ≡ e = cc in ap (λ (x : Entry). x ∷ fs) same
left (suc place) (f ∷ fs) e at = left place fs e at

-- it is at this place, or from the next one on
turn_by : (n place : ℕ) (es : List Entry) (e : Entry) → slice_get es place ≡ Some e
    → turn_from n place es ≡ cond (e.pid.0 == n) (Some place) (turn_from n (place + 1) es)
turn_by n place es e at =
    ap (position_from (λ (f : Entry). f.pid.0 == n) place) (left place es e at ∙ ap (λ k. e ∷ drop k es) (sym (add-one place)))

pub turn_here : (n place : ℕ) (es : List Entry) (e : Entry) → slice_get es place ≡ Some e → (e.pid.0 == n) ≡ true
    → turn_from n place es ≡ Some place
turn_here n place es e at own = turn_by n place es e at ∙ ap (λ b. cond b (Some place) (turn_from n (place + 1) es)) own

turn_later : (n place : ℕ) (es : List Entry) (e : Entry) → slice_get es place ≡ Some e → (e.pid.0 == n) ≡ false
    → turn_from n place es ≡ turn_from n (place + 1) es
turn_later n place es e at other = turn_by n place es e at ∙ ap (λ b. cond b (Some place) (turn_from n (place + 1) es)) other

-- so its place is this one, or the same as from the next one on
place_here : (n place : ℕ) (es : List Entry) (e : Entry) → slice_get es place ≡ Some e → (e.pid.0 == n) ≡ true
    → place_from n place es ≡ place
place_here n place es e at own = ap (λ o. unwrap_or o (length es)) (turn_here n place es e at own)

place_later : (n place : ℕ) (es : List Entry) (e : Entry) → slice_get es place ≡ Some e → (e.pid.0 == n) ≡ false
    → place_from n place es ≡ place_from n (place + 1) es
place_later n place es e at other = ap (λ o. unwrap_or o (length es)) (turn_later n place es e at other)

-- ---- it stands within the journal

within_cond : (b : Bool) (o : Option ℕ) (place count : ℕ) → IfSome o (λ q. (place + 1 ≤ q) × (q < place + 1 + count))
    → IfSome (cond b (Some place) o) (λ q. (place ≤ q) × (q < place + suc count))
within_cond true o place count later = (omega arith, omega arith)
within_cond false None place count later = tt
within_cond false (Some q) place count later = (omega (arith, later.0), omega (arith, later.1))

within_list : (n place : ℕ) (es : List Entry)
    → IfSome (position_from (λ e. e.pid.0 == n) place es) (λ q. (place ≤ q) × (q < place + length es))
within_list n place [] = tt
within_list n place (e ∷ es) = within_cond (e.pid.0 == n) (position_from (λ f. f.pid.0 == n) (place + 1) es) place (length es) (within_list n (place + 1) es)

within_all : (o : Option ℕ) (place count all : ℕ) → count ≡ all - place → IfSome o (λ q. (place ≤ q) × (q < place + count))
    → IfSome o (λ q. (place ≤ q) × (q < all))
within_all None place count all is there = tt
within_all (Some q) place count all is there = (there.0, omega (arith, is, there.0, there.1))

pub turn_within : (n place : ℕ) (es : List Entry) → IfSome (turn_from n place es) (λ q. (place ≤ q) × (q < length es))
turn_within n place es =
    within_all (turn_from n place es) place (length (drop place es)) (length es) (length-drop place es) (within_list n place (drop place es))

-- where its place is within the journal it is there, else nowhere
pub turn_told : (o : Option ℕ) (least all place : ℕ) → IfSome o (λ q. (least ≤ q) × (q < all)) → place ≡ unwrap_or o all
    → place < all → Some place ≡ o
turn_told None least all place within is below = absurd (omega (arith, is, below))
turn_told (Some q) least all place within is below = ap Some is

pub turn_none : (o : Option ℕ) (least all place : ℕ) → IfSome o (λ q. (least ≤ q) × (q < all)) → place ≡ unwrap_or o all
    → all ≤ place → None ≡ o
turn_none None least all place within is past = refl
turn_none (Some q) least all place within is past = absurd (omega (arith, within.1, is, past))

pub turn_behind : (o : Option ℕ) (least all place : ℕ) → IfSome o (λ q. (least ≤ q) × (q < all)) → place ≡ unwrap_or o all
    → place < all → least ≤ place
turn_behind None least all place within is below = absurd (omega (arith, is, below))
turn_behind (Some q) least all place within is below = omega (arith, within.0, is)

-- ---- tables

-- what is read at a place within a table
pub read_at : (xs : List ℕ) (n x : ℕ) → n < length xs → x ≡ get_or xs n x → x ≡ get_or xs n 0
read_at xs n x below is = sym (get_or_from_slice_get xs n x 0 (slice_get_read xs (length xs) n x refl below is))

-- what is read of a process in the table of a journal with this view
pub place_is : (turns : List ℕ) (n m place : ℕ) (v g : GivenView) → AreTurns turns v.made v.entries → v ≡ g → n < 256 → m ≡ n →
    place ≡ get_or turns m place → place ≡ place_from n g.made g.entries
place_is turns n m place v g are same below own is =
    let there : place ≡ get_or turns n 0 =
    read_at turns n place (omega (arith, below, are.whole)) (is ∙ ap (λ k. get_or turns k place) own) in
    subst (λ (w : GivenView). place ≡ place_from n w.made w.entries) same (there ∙ are.first n below)

-- a process that is told of an entry is that of one
pub entry_of : (o : Option Entry) (pid : Pid) → Some pid ≡ option_map (λ e. e.pid) o → (e : Entry) × (o ≡ Some e) × (e.pid ≡ pid)
entry_of None pid is = absurd (cc)
entry_of (Some e) pid is = let own : pid ≡ e.pid = cc in (e, refl, sym own)

-- within the journal one is told
pub told_within : (es : List Entry) (place : ℕ) → place < length es → None ≡ option_map (λ e. e.pid) (slice_get es place) → ⊥
told_within [] place below none = absurd (omega (arith, below))
told_within (e ∷ es) zero below none = absurd (cc)
told_within (e ∷ es) (suc place) below none = told_within es place (omega (arith, below)) none

-- with the entry at this place, those of its process begin there,
first_before : (turns : List ℕ) (place : ℕ) (es : List Entry) (e : Entry) (n : ℕ) (b : Bool) → slice_get es place ≡ Some e
    → e.pid.0 < length turns
    → (e.pid.0 == n) ≡ b → get_or turns n 0 ≡ place_from n (place + 1) es → get_or (set turns e.pid.0 place) n 0 ≡ place_from n place es
first_before turns place es e n true at below own first =
    ap (λ k. get_or (set turns e.pid.0 place) k 0) (sym (eqb-true e.pid.0 n own)) ∙ get_or-set_same turns e.pid.0 place 0 below
    ∙ sym (place_here n place es e at own)
first_before turns place es e n false at below other first =
    get_or-set_other turns e.pid.0 n place 0 (λ same. absurd (let is = eq-eqb e.pid.0 n (sym same) in cc)) ∙ first
    ∙ sym (place_later n place es e at other)

pub turns_before : (turns : List ℕ) (place : ℕ) (es : List Entry) (e : Entry) → slice_get es place ≡ Some e → e.pid.0 < 256
    → AreTurns turns (place + 1) es → AreTurns (set turns e.pid.0 place) place es
turns_before turns place es e at below are =
    record {
      whole = length-set turns e.pid.0 place ∙ are.whole;
      first = λ n few. first_before turns place es e n (e.pid.0 == n) at (omega (arith, below, are.whole)) refl (are.first n few);
    }

-- and its link leads to the next of them
lead_before : (links turns : List ℕ) (place : ℕ) (es : List Entry) (e : Entry) (there : ℕ) (f : Entry) (b : Bool)
    → slice_get es place ≡ Some e
    → e.pid.0 < 256 → AreLinks links (place + 1) es → AreTurns turns (place + 1) es → place ≤ there → slice_get es there ≡ Some f
    → (there == place) ≡ b → get_or (set links place (get_or turns e.pid.0 0)) there 0 ≡ place_from f.pid.0 (there + 1) es
lead_before links turns place es e there f true at below leads are from stands is =
    let here : there ≡ place = eqb-true there place is in
    let found : slice_get es place ≡ Some f = ap (slice_get es) (sym here) ∙ stands in
    let same : e ≡ f = cc in
    let few : place < length links = omega (arith, slice_get_within es place e at, leads.whole) in
    ap (λ k. get_or (set links place (get_or turns e.pid.0 0)) k 0) here ∙ get_or-set_same links place (get_or turns e.pid.0 0) 0 few
    ∙ are.first e.pid.0 below ∙ ap (λ (g : Entry). place_from g.pid.0 (place + 1) es) same
    ∙ ap (λ k. place_from f.pid.0 (k + 1) es) (sym here)
lead_before links turns place es e there f false at below leads are from stands is =
    let other : there ≢ place = λ same. absurd (let equal = eq-eqb there place same in cc) in
    get_or-set_other links place there (get_or turns e.pid.0 0) 0 other ∙ leads.lead there f (omega (arith, from, other)) stands

pub links_before : (links turns : List ℕ) (place : ℕ) (es : List Entry) (e : Entry) → slice_get es place ≡ Some e → e.pid.0 < 256
    → AreLinks links (place + 1) es → AreTurns turns (place + 1) es → AreLinks (set links place (get_or turns e.pid.0 0)) place es
links_before links turns place es e at below leads are =
    record {
      whole = length-set links place (get_or turns e.pid.0 0) ∙ leads.whole;
      lead = λ there f from stands. lead_before links turns place es e there f (there == place) at below leads are from stands refl;
    }

-- once it is made, the next of its process is where its link leads
first_after : (links turns : List ℕ) (place : ℕ) (es : List Entry) (e : Entry) (n : ℕ) (b : Bool) → slice_get es place ≡ Some e
    → e.pid.0 < length turns
    → AreLinks links 0 es → (e.pid.0 == n) ≡ b → get_or turns n 0 ≡ place_from n place es
    → get_or (set turns e.pid.0 (get_or links place 0)) n 0 ≡ place_from n (place + 1) es
first_after links turns place es e n true at below leads own first =
    ap (λ k. get_or (set turns e.pid.0 (get_or links place 0)) k 0) (sym (eqb-true e.pid.0 n own))
    ∙ get_or-set_same turns e.pid.0 (get_or links place 0) 0 below ∙ leads.lead place e (omega arith) at
    ∙ ap (λ k. place_from k (place + 1) es) (eqb-true e.pid.0 n own)
first_after links turns place es e n false at below leads other first =
    get_or-set_other turns e.pid.0 n (get_or links place 0) 0 (λ same. absurd (let is = eq-eqb e.pid.0 n (sym same) in cc)) ∙ first
    ∙ place_later n place es e at other

pub turns_after : (links turns : List ℕ) (place : ℕ) (es : List Entry) (e : Entry) → slice_get es place ≡ Some e → e.pid.0 < 256
    → AreLinks links 0 es → AreTurns turns place es → AreTurns (set turns e.pid.0 (get_or links place 0)) (place + 1) es
turns_after links turns place es e at below leads are =
    record {
      whole = length-set turns e.pid.0 (get_or links place 0) ∙ are.whole;
      first = λ n few. first_after links turns place es e n (e.pid.0 == n) at (omega (arith, below, are.whole)) leads refl (are.first n few);
    }

-- ---- a step of each loop

pub before : (links turns : List ℕ) (left place n link : ℕ) (es : List Entry) (pid : Pid) → left ≡ place + 1
    → Some pid ≡ option_map (λ e. e.pid) (slice_get es place) → pid.0 < 256 → n ≡ pid.0 → link ≡ get_or turns n link
    → AreLinks links left es → AreTurns turns left es
    → AreLinks (set links place link) place es × AreTurns (set turns n place) place es
before links turns left place n link es pid next told below number is leads are =
    let there = entry_of (slice_get es place) pid told in
    let own : n ≡ there.0.pid.0 = number ∙ ap (λ (q : Pid). q.0) (sym there.2) in
    let few : there.0.pid.0 < 256 = omega (arith, number, own, below) in
    let links_next : AreLinks links (place + 1) es = subst (λ k. AreLinks links k es) next leads in
    let turns_next : AreTurns turns (place + 1) es = subst (λ k. AreTurns turns k es) next are in
    let link_is : link ≡ get_or turns there.0.pid.0 0 =
    read_at turns n link (omega (arith, number, below, are.whole)) is ∙ ap (λ k. get_or turns k 0) own in (
      subst (λ k. AreLinks (set links place k) place es) (sym link_is) (links_before links turns place es there.0 there.1 few links_next turns_next),
      subst (λ k. AreTurns (set turns k place) place es) (sym own) (turns_before turns place es there.0 there.1 few turns_next),
    )

pub after : (links turns : List ℕ) (place n link : ℕ) (es : List Entry) (pid : Pid)
    → Some pid ≡ option_map (λ e. e.pid) (slice_get es place) → pid.0 < 256 → n ≡ pid.0 → link ≡ get_or links place link
    → AreLinks links 0 es → AreTurns turns place es
    → AreTurns (set turns n link) (place + 1) es
after links turns place n link es pid told below number is leads are =
    let there = entry_of (slice_get es place) pid told in
    let own : n ≡ there.0.pid.0 = number ∙ ap (λ (q : Pid). q.0) (sym there.2) in
    let few : there.0.pid.0 < 256 = omega (arith, number, own, below) in
    let within : place < length links = omega (arith, slice_get_within es place there.0 there.1, leads.whole) in
    subst (λ k. AreTurns (set turns k link) (place + 1) es) (sym own)
    (subst (λ k. AreTurns (set turns there.0.pid.0 k) (place + 1) es) (sym (read_at links place link within is))
    (turns_after links turns place es there.0 there.1 few leads are))
