-- Who was the last to move a value on a port, after one event more.
use Rattle.std.proofs.Common.{◌≡◌, ◌<◌, ◌≤◌, ◌+◌, ◌==◌, ◌&&◌, ℕ, Bool, true, false, cond, List, [], ◌∷◌, ◌++◌, length, filter, take, get_or, replicate}
use Rattle.std.proofs.Common.{refl, ap, ◌∙◌, sym, subst, arith, append-nil, zero, suc, nat_lt, Option, None, Some, slice_index_or}
use Rattle.std.specs.Prelude.{IfSome, slice_set}
use Rattle.std.specs.List.{cons_option, filter_map}
use Rattle.std.specs.Option.{option_and_then, option_map}
use Rattle.std.proofs.lemmas.Bool.{eqb-true, eqb-false}
use Rattle.std.proofs.lemmas.List.{get_or-set_same, get_or-set_other}
use Rattle.std.proofs.lemmas.List.Elements.{filter_map-append, filter_more}
use Rattle.hub_base.specs.declared.value.Port.{Port}
use Rattle.hub_base.specs.declared.value.Value.{Value}
use Rattle.hub_base.specs.Entry.{Entry}
use Rattle.hub_base.specs.Values.{cases_at}
use Rattle.hub_parts.specs.declared.side.Side.{Side}
use Rattle.hub_parts.specs.declared.side.Side.TheVariants as side
use Rattle.hub_story.specs.declared.by_port.TheConstants.{PORT_NUMBERS}
use Rattle.hub_story.specs.declared.last_moves.AtPort.{AtPort}
use Rattle.hub_story.specs.declared.last_moves.LastMoves.{LastMoves}
use Rattle.hub_story.specs.declared.last_moves.Mover.{Mover}
use Rattle.hub_story.specs.declared.moved.Moved.{Moved}
use Rattle.hub_story.specs.declared.moves.Move.{Move}
use Rattle.hub_story.specs.declared.told.Told.{Told}
use Rattle.hub_story.specs.LastMoves.{AreLast, IsWhole, known_at, known_of, latest, mover_of, mover_at, with_mover}
use Rattle.hub_story.specs.Levels.{told_by}
use Rattle.hub_story.specs.Moves.{is_same, move_of, value_at}
use Rattle.hub_story.specs.OfPorts.{things_on}
use Rattle.hub_story.specs.Passing.{moved_by, receives, sends}
use Rattle.hub_story.specs.Receivers.{AreReceivers, are_gone}
use Rattle.hub_story.specs.Sides.{value_on}
use Rattle.hub_story.proofs.Gone.{gone-is}
use Rattle.hub_story.proofs.OneSide.{moved-on}

latest-append : (o : Option Mover) (xs ys : List Moved) → latest o (xs ++ ys) ≡ latest (latest o xs) ys
latest-append o [] ys = refl
latest-append o (x ∷ xs) ys = latest-append (Some (mover_of x.told)) xs ys

-- what one event more tells is the last of all
latest-next : {X : Type 0} (f : X → Option Moved) (o : Option Mover) (before : List X) (x : X) →
    latest o (filter_map f (before ++ x ∷ [])) ≡ latest (latest o (filter_map f before)) (filter_map f (x ∷ []))
latest-next f o before x = ap (latest o) (filter_map-append f before (x ∷ [])) ∙ latest-append o (filter_map f before) (filter_map f (x ∷ []))

abbrev told_so : Told → Option Value → List Moved
told_so t o = cons_option (option_map (λ v. record { told = t; value = v }) o) []

-- a table after what moved
mover-set : (s : Side) (p : Port) (table : List (Option Mover)) (t : Told) (o : Option Move) → IfSome o (λ m. m.port.0 < length table) →
    mover_at (with_mover s table o (mover_of t)) p ≡ latest (mover_at table p) (told_so t (option_and_then (value_at s p) o))
mover-set s p table t None few = refl
mover-set s p table t (Some m) few = by (is_same s m.side)
  where
    on : (here : Bool) → here ≡ (m.port.0 == p.0) →
        mover_at (slice_set table m.port.0 (Some (mover_of t))) p ≡ latest (mover_at table p) (told_so t (cond here (Some m.value) None))
    on true is =
        ap (λ k. slice_index_or (slice_set table m.port.0 (Some (mover_of t))) k None) (sym (eqb-true m.port.0 p.0 (sym is)))
        ∙ get_or-set_same table m.port.0 (Some (mover_of t)) None few
    on false is = get_or-set_other table m.port.0 p.0 (Some (mover_of t)) None (λ e. eqb-false m.port.0 p.0 (sym is) (sym e))

    by : (same : Bool) → mover_at (cond same (slice_set table m.port.0 (Some (mover_of t))) table) p
        ≡ latest (mover_at table p) (told_so t (cond (same && (m.port.0 == p.0)) (Some m.value) None))
    by false = refl
    by true = on (m.port.0 == p.0) refl

-- and after one event more, by all that was told before it
mover-more : (s : Side) (es : List Entry) (before : List Told) (t : Told) (p : Port) (table : List (Option Mover)) →
    IfSome (move_of es t) (λ m. m.port.0 < length table) → mover_at table p ≡ latest None (filter_map (moved_by (value_on s p) es) before) →
    mover_at (with_mover s table (move_of es t) (mover_of t)) p ≡ latest None (filter_map (moved_by (value_on s p) es) (before ++ t ∷ []))
mover-more s es before t p table few was =
    mover-set s p table t (move_of es t) few
    ∙ ap (λ o. latest (mover_at table p) (told_so t o)) (sym (moved-on s p (cases_at es t.asked) t.event.what))
    ∙ ap (λ o. latest o (filter_map (moved_by (value_on s p) es) (t ∷ []))) was
    ∙ sym (latest-next (moved_by (value_on s p) es) None before t)

abbrev at : Option Mover → Option Mover → Bool → AtPort
at s r g = record { sender = s; receiver = r; gone = g }

-- what the tables tell of a port
known-is : (es : List Entry) (all : List Told) (moves : LastMoves) (p : Port) → mover_at moves.sent.items p ≡ latest None (sends es all p) →
    mover_at moves.received.items p ≡ latest None (receives es all p) → AreReceivers es all moves.receivers → known_at moves p ≡ known_of es all p
known-is es all moves p sent received so =
    ap (λ s. at s (mover_at moves.received.items p) (are_gone moves.receivers.left.items (things_on moves.receivers.pids p))) sent
    ∙ ap (λ r. at (latest None (sends es all p)) r (are_gone moves.receivers.left.items (things_on moves.receivers.pids p))) received
    ∙ ap (at (latest None (sends es all p)) (latest None (receives es all p))) (gone-is es all moves.receivers so p)

-- ---- event by event
pub last-more : (es : List Entry) (before : List Told) (t : Told) (old new : LastMoves) → IsWhole old → AreLast es before old →
    IfSome (move_of es t) (λ m. m.port.0 < PORT_NUMBERS) →
    new.sent.items ≡ with_mover side.Send old.sent.items (move_of es t) (mover_of t) →
    new.received.items ≡ with_mover side.Recv old.received.items (move_of es t) (mover_of t) →
    AreReceivers es (before ++ t ∷ []) new.receivers → AreLast es (before ++ t ∷ []) new
last-more es before t old new whole was few sent received receivers = record {
  known = λ p.
      known-is es (before ++ t ∷ []) new p
      (ap (λ l. mover_at l p) sent
      ∙ mover-more side.Send es before t p old.sent.items (within old.sent.items whole.sent) (ap (λ (k : AtPort). k.sender) (was.known p)))
      (ap (λ l. mover_at l p) received
      ∙ mover-more side.Recv es before t p old.received.items (within old.received.items whole.received) (ap (λ (k : AtPort). k.receiver) (was.known p)))
      receivers;
  receivers = receivers;
}
  where
    within : (table : List (Option Mover)) → length table ≡ PORT_NUMBERS → IfSome (move_of es t) (λ m. m.port.0 < length table)
    within table many = subst (λ n. IfSome (move_of es t) (λ m. m.port.0 < n)) (sym many) few

none-at : (n k : ℕ) → slice_index_or (replicate {A = Option Mover} n None) k None ≡ None
none-at zero k = refl
none-at (suc n) zero = refl
none-at (suc n) (suc k) = none-at n k

pub nobody-yet : (es : List Entry) (moves : LastMoves) (n : ℕ) → moves.sent.items ≡ replicate n None → moves.received.items ≡ replicate n None →
    AreReceivers es [] moves.receivers → AreLast es [] moves
nobody-yet es moves n sent received none = record {
  known = λ p. known-is es [] moves p (ap (λ l. mover_at l p) sent ∙ none-at n p.0) (ap (λ l. mover_at l p) received ∙ none-at n p.0) none;
  receivers = none;
}

-- what is nobody's clone is nobody
pub none-only : (P : Option Mover → Type 0) → ((m : Mover) → P (Some m) → ⊥) → (y : Option Mover) → P y → y ≡ None
none-only P f None p = refl
none-only P f (Some m) p = absurd (f m p)

-- ---- those by a step
abbrev is_by : ℕ → Told → Bool
is_by step t = nat_lt t.by (step + 1)

pub by-then : (es : List Entry) (all : List Told) (i step : ℕ) (x : Told) (new : LastMoves) → i < length all → x ≡ get_or all i x → x.by ≤ step →
    AreLast es (told_by (step + 1) (take i all) ++ x ∷ []) new → AreLast es (told_by (step + 1) (take (i + 1) all)) new
by-then es all i step x new below is early so =
    subst (λ l. AreLast es l new)
    (ap (λ l. told_by (step + 1) (take i all) ++ l) (sym (one x (omega (arith, early))) ∙ ap (λ t. filter (is_by step) (t ∷ [])) is)
    ∙ sym (filter_more (is_by step) all i x below)) so
  where
    one : (t : Told) → t.by < step + 1 → filter (is_by step) (t ∷ []) ≡ t ∷ []
    one t below = let hit : nat_lt t.by (step + 1) ≡ true = grind arith in rw hit refl

pub not-by-then : (es : List Entry) (all : List Told) (i step : ℕ) (x : Told) (moves : LastMoves) → i < length all → x ≡ get_or all i x →
    step < x.by → AreLast es (told_by (step + 1) (take i all)) moves → AreLast es (told_by (step + 1) (take (i + 1) all)) moves
not-by-then es all i step x moves below is late so =
    subst (λ l. AreLast es l moves)
    (sym (append-nil (told_by (step + 1) (take i all)))
    ∙ ap (λ l. told_by (step + 1) (take i all) ++ l) (sym (none x late) ∙ ap (λ t. filter (is_by step) (t ∷ [])) is)
    ∙ sym (filter_more (is_by step) all i x below)) so
  where
    none : (t : Told) → step < t.by → filter (is_by step) (t ∷ []) ≡ []
    none t above = let miss : nat_lt t.by (step + 1) ≡ false = grind arith in rw miss refl
