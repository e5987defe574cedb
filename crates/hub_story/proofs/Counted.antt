-- What the tables count, after one event more.
use Rattle.std.proofs.Common.{◌≡◌, ◌<◌, ◌+◌, ◌==◌, ◌&&◌, ℕ, zero, suc, Bool, true, false, cond, List, [], ◌∷◌, ◌++◌, length, length-append, replicate}
use Rattle.std.proofs.Common.{refl, ap, ◌∙◌, sym, subst, arith, Option, None, Some, slice_index_or}
use Rattle.std.specs.Prelude.{IfSome, slice_set}
use Rattle.std.specs.List.{cons_option, filter_map}
use Rattle.std.specs.Option.{option_and_then, option_map}
use Rattle.std.proofs.lemmas.Bool.{eqb-true, eqb-false}
use Rattle.std.proofs.lemmas.List.{get_or-set_same, get_or-set_other}
use Rattle.std.proofs.lemmas.List.Elements.{filter_map-append}
use Rattle.hub_base.specs.declared.value.Port.{Port}
use Rattle.hub_base.specs.declared.value.Value.{Value}
use Rattle.hub_base.specs.Entry.{Entry}
use Rattle.hub_base.specs.Values.{cases_at}
use Rattle.hub_parts.specs.declared.side.Side.{Side}
use Rattle.hub_parts.specs.declared.side.Side.TheVariants as side
use Rattle.hub_story.specs.declared.by_port.TheConstants.{PORT_NUMBERS}
use Rattle.hub_story.specs.declared.levels.Levels.{Levels}
use Rattle.hub_story.specs.declared.moved.Moved.{Moved}
use Rattle.hub_story.specs.declared.moves.Move.{Move}
use Rattle.hub_story.specs.declared.told.Told.{Told}
use Rattle.hub_story.specs.Levels.{AreLevels, IsWhole, count_at}
use Rattle.hub_story.specs.Moves.{is_same, move_of, value_at}
use Rattle.hub_story.specs.Passing.{moved_by}
use Rattle.hub_story.specs.Sides.{value_on}
use Rattle.hub_story.proofs.OneSide.{moved-on}

abbrev told_so : Told → Option Value → List Moved
told_so t o = cons_option (option_map (λ v. record { told = t; value = v }) o) []

-- a table with one value more
abbrev pub one_more : List ℕ → ℕ → List ℕ
one_more table k = slice_set table k (slice_index_or table k 0 + 1)

-- with what moved, where it did so on that side
abbrev with_move : Side → List ℕ → Option Move → List ℕ
with_move s table None = table
with_move s table (Some m) = cond (is_same s m.side) (one_more table m.port.0) table

count-set : (s : Side) (p : Port) (table : List ℕ) (t : Told) (o : Option Move) → IfSome o (λ m. m.port.0 < length table) →
    count_at (with_move s table o) p ≡ count_at table p + length (told_so t (option_and_then (value_at s p) o))
count-set s p table t None few = omega arith
count-set s p table t (Some m) few = by (is_same s m.side)
  where
    on : (here : Bool) → here ≡ (m.port.0 == p.0) →
        count_at (one_more table m.port.0) p ≡ count_at table p + length (told_so t (cond here (Some m.value) None))
    on true is =
        ap (λ k. slice_index_or (one_more table m.port.0) k 0) (sym (eqb-true m.port.0 p.0 (sym is)))
        ∙ get_or-set_same table m.port.0 (slice_index_or table m.port.0 0 + 1) 0 few
        ∙ ap (λ k. slice_index_or table k 0 + 1) (eqb-true m.port.0 p.0 (sym is))
    on false is =
        get_or-set_other table m.port.0 p.0 (slice_index_or table m.port.0 0 + 1) 0 (λ e. eqb-false m.port.0 p.0 (sym is) (sym e)) ∙ omega arith

    by : (same : Bool) → count_at (cond same (one_more table m.port.0) table) p
        ≡ count_at table p + length (told_so t (cond (same && (m.port.0 == p.0)) (Some m.value) None))
    by false = omega arith
    by true = on (m.port.0 == p.0) refl

-- and after one event more, by all that was told before it
count-more : (s : Side) (es : List Entry) (before : List Told) (t : Told) (p : Port) (table : List ℕ) →
    IfSome (move_of es t) (λ m. m.port.0 < length table) → count_at table p ≡ length (filter_map (moved_by (value_on s p) es) before) →
    count_at (with_move s table (move_of es t)) p ≡ length (filter_map (moved_by (value_on s p) es) (before ++ t ∷ []))
count-more s es before t p table few was =
    count-set s p table t (move_of es t) few
    ∙ ap (λ o. count_at table p + length (told_so t o)) (sym (moved-on s p (cases_at es t.asked) t.event.what))
    ∙ ap (λ n. n + length (filter_map (moved_by (value_on s p) es) (t ∷ []))) was
    ∙ sym (ap length (filter_map-append (moved_by (value_on s p) es) before (t ∷ []))
    ∙ length-append (filter_map (moved_by (value_on s p) es) before) (filter_map (moved_by (value_on s p) es) (t ∷ [])))

levels-more : (es : List Entry) (before : List Told) (t : Told) (old new : Levels) → IsWhole old → AreLevels es before old →
    IfSome (move_of es t) (λ m. m.port.0 < PORT_NUMBERS) → new.sent.items ≡ with_move side.Send old.sent.items (move_of es t) →
    new.received.items ≡ with_move side.Recv old.received.items (move_of es t) → AreLevels es (before ++ t ∷ []) new
levels-more es before t old new whole was few sent received = record {
  sent = λ p. ap (λ l. count_at l p) sent ∙ count-more side.Send es before t p old.sent.items (within old.sent.items whole.sent) (was.sent p);
  received = λ p.
      ap (λ l. count_at l p) received ∙ count-more side.Recv es before t p old.received.items (within old.received.items whole.received) (was.received p);
}
  where
    within : (table : List ℕ) → length table ≡ PORT_NUMBERS → IfSome (move_of es t) (λ m. m.port.0 < length table)
    within table many = subst (λ n. IfSome (move_of es t) (λ m. m.port.0 < n)) (sym many) few

-- where nothing moved
pub none-moved : (es : List Entry) (before : List Told) (t : Told) (old : Levels) → IsWhole old → AreLevels es before old → move_of es t ≡ None →
    AreLevels es (before ++ t ∷ []) old
none-moved es before t old whole was is =
    levels-more es before t old old whole was (subst (λ o. IfSome o (λ m. m.port.0 < PORT_NUMBERS)) (sym is) tt)
    (sym (ap (with_move side.Send old.sent.items) is)) (sym (ap (with_move side.Recv old.received.items) is))

-- where a value did on this side
pub one-moved : (es : List Entry) (before : List Told) (t : Told) (old new : Levels) (m : Move) (s : Side) → IsWhole old → AreLevels es before old →
    IfSome (move_of es t) (λ m. m.port.0 < PORT_NUMBERS) → move_of es t ≡ Some m → m.side ≡ s →
    new.sent.items ≡ cond (is_same side.Send s) (one_more old.sent.items m.port.0) old.sent.items →
    new.received.items ≡ cond (is_same side.Recv s) (one_more old.received.items m.port.0) old.received.items → AreLevels es (before ++ t ∷ []) new
one-moved es before t old new m s whole was few is at sent received =
    levels-more es before t old new whole was few (on side.Send old.sent.items new.sent.items sent)
    (on side.Recv old.received.items new.received.items received)
  where
    on : (side : Side) (table now : List ℕ) → now ≡ cond (is_same side s) (one_more table m.port.0) table → now ≡ with_move side table (move_of es t)
    on side table now moved = moved ∙ sym (ap (with_move side table) is ∙ ap (λ s. cond (is_same side s) (one_more table m.port.0) table) at)

-- a table that is the same everywhere
pub all-same : {A : Type 0} (a : A) (n k : ℕ) → slice_index_or (replicate n a) k a ≡ a
all-same a zero k = refl
all-same a (suc n) zero = refl
all-same a (suc n) (suc k) = all-same a n k

pub none-yet : (es : List Entry) (levels : Levels) (n : ℕ) → levels.sent.items ≡ replicate n zero → levels.received.items ≡ replicate n zero →
    AreLevels es [] levels
none-yet es levels n sent received = record {
  sent = λ p. ap (λ l. count_at l p) sent ∙ all-same zero n p.0;
  received = λ p. ap (λ l. count_at l p) received ∙ all-same zero n p.0;
}
