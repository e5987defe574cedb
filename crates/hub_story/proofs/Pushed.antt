-- Which calls moved values, after one event more.
use Rattle.std.proofs.Common.{◌≡◌, ◌==◌, ◌&&◌, Bool, true, false, cond, List, [], ◌∷◌, ◌++◌, map, Option, None, Some}
use Rattle.std.proofs.Common.{refl, ap, ◌∙◌, sym, append-nil}
use Rattle.std.specs.List.{cons_option, filter_map}
use Rattle.std.specs.Option.{option_and_then, option_map}
use Rattle.std.proofs.lemmas.List.{map-append}
use Rattle.std.proofs.lemmas.List.Elements.{filter_map-append}
use Rattle.hub_base.specs.declared.value.Port.{Port}
use Rattle.hub_base.specs.declared.value.Value.{Value}
use Rattle.hub_base.specs.Entry.{Entry}
use Rattle.hub_base.specs.Values.{cases_at}
use Rattle.hub_parts.specs.declared.side.Side.{Side}
use Rattle.hub_parts.specs.declared.side.Side.TheVariants as side
use Rattle.hub_story.specs.declared.moved.Moved.{Moved}
use Rattle.hub_story.specs.declared.moves.Move.{Move}
use Rattle.hub_story.specs.declared.port_moves.PortMove.{PortMove}
use Rattle.hub_story.specs.declared.port_moves.PortMoves.{PortMoves}
use Rattle.hub_story.specs.declared.told.Told.{Told}
use Rattle.hub_story.specs.Moves.{is_same, move_of, value_at}
use Rattle.hub_story.specs.OfPorts.{one_of, things_on}
use Rattle.hub_story.specs.Passing.{moved_by}
use Rattle.hub_story.specs.PortMoves.{AreMoves, move_at}
use Rattle.hub_story.specs.Sides.{value_on}
use Rattle.hub_story.proofs.OneSide.{moved-on}

abbrev pub call_of : Told → PortMove
call_of t = record { place = t.asked; by = t.by }

-- the call, where this moved on that side of the port
abbrev pushed : Side → Port → Told → Option Move → List PortMove
pushed s p t None = []
pushed s p t (Some m) = cond (is_same s m.side) (one_of m.port p (call_of t)) []

pushed-is : (s : Side) (p : Port) (t : Told) (o : Option Move) →
    pushed s p t o ≡ map move_at (cons_option (option_map (λ v. record { told = t; value = v }) (option_and_then (value_at s p) o)) [])
pushed-is s p t None = refl
pushed-is s p t (Some m) = by (is_same s m.side) (m.port.0 == p.0)
  where
    by : (same here : Bool) → cond same (cond here (call_of t ∷ []) [])
        [] ≡ map move_at (cons_option (option_map (λ v. record { told = t; value = v }) (cond (same && here) (Some m.value) None)) [])
    by true true = refl
    by true false = refl
    by false here = refl

side-more : (s : Side) (es : List Entry) (before : List Told) (t : Told) (p : Port) (old new : List PortMove) →
    old ≡ map move_at (filter_map (moved_by (value_on s p) es) before) → new ≡ old ++ pushed s p t (move_of es t) →
    new ≡ map move_at (filter_map (moved_by (value_on s p) es) (before ++ t ∷ []))
side-more s es before t p old new was more =
    let f : Told → Option Moved = moved_by (value_on s p) es in
    more ∙ ap (λ l. l ++ pushed s p t (move_of es t)) was
    ∙ ap (λ l. map move_at (filter_map f before) ++ l) (pushed-is s p t (move_of es t)
    ∙ ap (λ (o : Option Value). map move_at (cons_option (option_map (λ v. record { told = t; value = v }) o) []))
    (sym (moved-on s p (cases_at es t.asked) t.event.what)))
    ∙ sym (ap (map move_at) (filter_map-append f before (t ∷ [])) ∙ map-append move_at (filter_map f before) (filter_map f (t ∷ [])))

-- ---- where nothing moved, and where a value did on this side
pub none-pushed : (es : List Entry) (before : List Told) (t : Told) (old : PortMoves) → AreMoves es before old → move_of es t ≡ None →
    AreMoves es (before ++ t ∷ []) old
none-pushed es before t old was is = record {
  sent = λ p. side-more side.Send es before t p _ _ (was.sent p) (nothing side.Send p (things_on old.sent p));
  received = λ p. side-more side.Recv es before t p _ _ (was.received p) (nothing side.Recv p (things_on old.received p));
}
  where
    nothing : (s : Side) (p : Port) (l : List PortMove) → l ≡ l ++ pushed s p t (move_of es t)
    nothing s p l = sym (append-nil l) ∙ ap (λ o. l ++ pushed s p t o) (sym is)

pub one-pushed : (es : List Entry) (before : List Told) (t : Told) (old new : PortMoves) (m : Move) (s : Side) → AreMoves es before old →
    move_of es t ≡ Some m → m.side ≡ s →
    ((p : Port) → things_on new.sent p ≡ things_on old.sent p ++ cond (is_same side.Send s) (one_of m.port p (call_of t)) []) →
    ((p : Port) → things_on new.received p ≡ things_on old.received p ++ cond (is_same side.Recv s) (one_of m.port p (call_of t)) []) →
    AreMoves es (before ++ t ∷ []) new
one-pushed es before t old new m s was is at sent received = record {
  sent = λ p. side-more side.Send es before t p _ _ (was.sent p) (on side.Send p _ _ (sent p));
  received = λ p. side-more side.Recv es before t p _ _ (was.received p) (on side.Recv p _ _ (received p));
}
  where
    on : (side : Side) (p : Port) (old new : List PortMove) → new ≡ old ++ cond (is_same side s) (one_of m.port p (call_of t)) [] →
        new ≡ old ++ pushed side p t (move_of es t)
    on side p old new moved =
        moved ∙ ap (λ l. old ++ l) (sym (ap (pushed side p t) is ∙ ap (λ s. cond (is_same side s) (one_of m.port p (call_of t)) []) at))
