-- The entries that are shown, one after the other.
use Rattle.std.proofs.Common.{◌≡◌, ◌≤◌, ◌<◌, ◌+◌, ◌∙◌, ℕ, Bool, true, false, cond, List, [], ◌∷◌, ◌++◌, length, drop, get_or, filter}
use Rattle.std.proofs.Common.{refl, ap, sym, add-one, append-nil, append_assoc, arith, min, nat_le, nat_lt, ◌&&◌, Option, None, Some, slice_get}
use Rattle.std.proofs.Math.Bool.{and-false}
use Rattle.std.proofs.Math.Seq.{drop-cons}
use Rattle.std.proofs.lemmas.List.{drop_all}
use Rattle.std.proofs.lemmas.Option.{get_or_from_slice_get}
use Rattle.hub_base.specs.declared.entry.Step.TheVariants.{Exit}
use Rattle.hub_base.specs.Entry.{Entry}
use Rattle.hub_base.specs.declared.value.Pid.{Pid}
use Rattle.hub_story.specs.declared.story.Story.{Story}
use Rattle.hub_story.specs.Ends.{ended_at}
use Rattle.hub_story.specs.declared.window.Window.{Window}
use Rattle.hub_story.specs.Windows.{has_any}
use Rattle.hub_picture.specs.declared.asked.Asked.{Asked}
use Rattle.hub_picture.specs.declared.asked.Shown.{Shown}
use Rattle.hub_picture.specs.declared.asked.Shown.TheVariants.{Boxes, Bars}
use Rattle.hub_picture.specs.Drawings.{asked, asked_at, ended_by, is_shown, shows}

-- those from a place on
abbrev pub shown_from : Shown → Window → Option Pid → Story → List Entry → ℕ → List Asked
shown_from shown w clock s es i = filter (is_shown shown w) (asked clock es s i (drop i es))

next : (shown : Shown) (w : Window) (clock : Option Pid) (s : Story) (es : List Entry) (i : ℕ) (d : Entry) (b : Bool) → i < length es →
    b ≡ shows shown w i (ended_by (ended_at s i)) →
    shown_from shown w clock s es i
    ≡ cond b (asked_at clock es s i (get_or es i d) ∷ shown_from shown w clock s es (i + 1)) (shown_from shown w clock s es (i + 1))
next shown w clock s es i d b below is =
    ap (λ l. filter (is_shown shown w) (asked clock es s i l)) (drop-cons es i d below ∙ ap (λ k. get_or es i d ∷ drop k es) (sym (add-one i)))
    ∙ ap
    (λ c. cond c (asked_at clock es s i (get_or es i d) ∷ shown_from shown w clock s es (i + 1)) (shown_from shown w clock s es (i + 1)))
    (sym is)

-- the entry at the place is shown, and it is not
pub shown-next : (shown : Shown) (w : Window) (clock : Option Pid) (s : Story) (es : List Entry) (i : ℕ) (e : Entry) (old new all : List Asked) →
    i < length es → true ≡ shows shown w i (ended_by (ended_at s i)) → slice_get es i ≡ Some e →
    old ++ shown_from shown w clock s es i ≡ all → new ≡ old ++ asked_at clock es s i e ∷ [] →
    new ++ shown_from shown w clock s es (i + 1) ≡ all
shown-next shown w clock s es i e old new all below shows-it at so is =
    let one : Asked = asked_at clock es s i e in
    ap (λ l. l ++ shown_from shown w clock s es (i + 1)) is ∙ append_assoc old (one ∷ []) (shown_from shown w clock s es (i + 1))
    ∙ ap (λ x. old ++ asked_at clock es s i x ∷ shown_from shown w clock s es (i + 1)) (sym (get_or_from_slice_get es i e e at))
    ∙ ap (λ l. old ++ l) (sym (next shown w clock s es i e true below shows-it)) ∙ so

pub hidden-next : (shown : Shown) (w : Window) (clock : Option Pid) (s : Story) (es : List Entry) (i : ℕ) (old all : List Asked) → i < length es →
    false ≡ shows shown w i (ended_by (ended_at s i)) → old ++ shown_from shown w clock s es i ≡ all →
    old ++ shown_from shown w clock s es (i + 1) ≡ all
hidden-next shown w clock s es i old all below hides-it so =
    ap (λ l. old ++ l) (sym (next shown w clock s es i (record { pid = record { 0 = 0 }; step = Exit }) false below hides-it)) ∙ so

pub none-left : (shown : Shown) (w : Window) (clock : Option Pid) (s : Story) (es : List Entry) (i : ℕ) (old all : List Asked) → length es ≤ i →
    old ++ shown_from shown w clock s es i ≡ all → old ≡ all
none-left shown w clock s es i old all past so =
    sym (ap (λ l. old ++ filter (is_shown shown w) (asked clock es s i l)) (drop_all i es past) ∙ append-nil old) ∙ so

-- ---- behind the window
hides : (shown : Shown) (w : Window) (i : ℕ) (until : Option ℕ) → nat_lt i w.end ≡ false → shows shown w i until ≡ false
hides Boxes w i until behind = rw behind (and-false (nat_le w.first i))
hides Bars w i None behind = rw behind (and-false (has_any w))
hides Bars w i (Some until) behind =
    rw behind (ap (λ b. nat_lt i until && b) (and-false (has_any w)) ∙ and-false (nat_lt i until))

all-hidden : (shown : Shown) (w : Window) (clock : Option Pid) (all : List Entry) (s : Story) (es : List Entry) (i : ℕ) → w.end ≤ i →
    filter (is_shown shown w) (asked clock all s i es) ≡ []
all-hidden shown w clock all s [] i past = refl
all-hidden shown w clock all s (e ∷ es) i past =
    let behind : nat_lt i w.end ≡ false = grind arith in
    rw (hides shown w i (ended_by (ended_at s i)) behind) (all-hidden shown w clock all s es (i + 1) (omega (arith, past)))

pub none-behind : (shown : Shown) (w : Window) (clock : Option Pid) (s : Story) (es : List Entry) (i : ℕ) (old all : List Asked) →
    min (length es) w.end ≤ i → old ++ shown_from shown w clock s es i ≡ all → old ≡ all
none-behind shown w clock s es i old all past so = by (nat_le w.end i) refl
  where
    by : (b : Bool) → b ≡ nat_le w.end i → old ≡ all
    by true is =
        let past : w.end ≤ i = grind arith in
        sym (ap (λ l. old ++ l) (all-hidden shown w clock es s (drop i es) i past) ∙ append-nil old) ∙ so
    by false is =
        let last : length es ≤ i = grind arith in
        none-left shown w clock s es i old all last so
