-- What is told of other ports counts for nothing on this one.
use Rattle.std.proofs.Common.{◌≡◌, ◌∙◌, ℕ, Bool, true, false, cond, List, [], ◌∷◌, filter, refl, ap, sym, Option, None, Some, slice_get, arith}
use Rattle.std.specs.List.{filter_map}
use Rattle.hub_base.specs.declared.value.Port.{Port}
use Rattle.hub_base.specs.declared.value.Value.{Value}
use Rattle.hub_base.specs.declared.case.Case.{Case}
use Rattle.hub_base.specs.declared.case.Case.TheVariants.{Send, Recv}
use Rattle.hub_base.specs.Entry.{Entry}
use Rattle.hub_base.specs.declared.event.Outcome.{Outcome}
use Rattle.hub_base.specs.declared.event.Outcome.TheVariants.{Sent, Got}
use Rattle.hub_base.specs.declared.event.What.{What}
use Rattle.hub_base.specs.declared.event.What.TheVariants as what
use Rattle.hub_base.specs.Values.{cases_at, of_what, sent_on, got_on}
use Rattle.hub_story.specs.declared.levels.Level.{Level}
use Rattle.hub_story.specs.declared.moves.Move.{Move}
use Rattle.hub_story.specs.declared.told.Told.{Told}
use Rattle.hub_story.specs.declared.window.Window.{Window}
use Rattle.hub_story.specs.Levels.{empty}
use Rattle.hub_story.specs.Moves.{move_in, move_of}
use Rattle.hub_story.specs.Passing.{beside, moved_by, passages, receives, sends}
use Rattle.hub_picture.specs.declared.strips.Strip.{Strip}
use Rattle.hub_picture.specs.Levels.{after, is_same, levels_from, levels_on, shows_level, with_move}
use Rattle.hub_picture.specs.Moves.{is_through, is_told_on}

no-send : (p : Port) (c : Option Case) (o : Outcome) → is_through p (move_in c o) ≡ false → sent_on p c o ≡ None
no-send p (Some (Send q v)) Sent other = rw other refl
no-send p c o other = refl

no-receive : (p : Port) (c : Option Case) (o : Outcome) → is_through p (move_in c o) ≡ false → got_on p c o ≡ None
no-receive p (Some (Recv q)) (Got v) other = rw other refl
no-receive p c o other = refl

-- a reading of cases that tells nothing of other ports
nothing : (p : Port) (pick : Option Case → Outcome → Option Value) (cases : List Case) (w : What) →
    ((c : Option Case) (o : Outcome) → is_through p (move_in c o) ≡ false → pick c o ≡ None) →
    is_through p (of_what move_in cases w) ≡ false → of_what pick cases w ≡ None
nothing p pick cases (what.Fired i o) none other = none (slice_get cases i) o other
nothing p pick cases w none other = refl

no-sent : (es : List Entry) (p : Port) (t : Told) → is_told_on es p t ≡ false → of_what (sent_on p) (cases_at es t.asked) t.event.what ≡ None
no-sent es p t other = nothing p (sent_on p) (cases_at es t.asked) t.event.what (no-send p) other

no-got : (es : List Entry) (p : Port) (t : Told) → is_told_on es p t ≡ false → of_what (got_on p) (cases_at es t.asked) t.event.what ≡ None
no-got es p t other = nothing p (got_on p) (cases_at es t.asked) t.event.what (no-receive p) other

-- ---- what passed
-- what a reading gives of the items that a test keeps, where it gives nothing of the others
kept : {X Y : Type 0} (f : X → Option Y) (q : X → Bool) (xs : List X) → ((x : X) → q x ≡ false → f x ≡ None) →
    filter_map f (filter q xs) ≡ filter_map f xs
kept f q [] none = refl
kept f q (x ∷ xs) none = by (q x) refl (kept f q xs none)
  where
    by : (b : Bool) → b ≡ q x → filter_map f (filter q xs) ≡ filter_map f xs →
        filter_map f (cond b (x ∷ filter q xs) (filter q xs)) ≡ filter_map f (x ∷ xs)
    by true is rest = rw rest refl
    by false is rest = rw (none x (sym is)) rest

pub same-passages : (es : List Entry) (all : List Told) (p : Port) → passages es (filter (is_told_on es p) all) p ≡ passages es all p
same-passages es all p =
    let sent : sends es (filter (is_told_on es p) all) p ≡ sends es all p =
    kept (moved_by (sent_on p) es) (is_told_on es p) all (λ t other. rw (no-sent es p t other) refl) in
    let got : receives es (filter (is_told_on es p) all) p ≡ receives es all p =
    kept (moved_by (got_on p) es) (is_told_on es p) all (λ t other. rw (no-got es p t other) refl) in
    ap (λ xs. beside xs (receives es (filter (is_told_on es p) all) p)) sent ∙ ap (beside (sends es all p)) got

-- ---- what was held
unmoved : (es : List Entry) (p : Port) (l : Level) (t : Told) → is_told_on es p t ≡ false → after es p l t ≡ l
unmoved es p l t other = by (move_of es t) other
  where
    by : (o : Option Move) → is_through p o ≡ false → with_move p l o ≡ l
    by None other = refl
    by (Some m) other = rw other refl

is-itself : (l : Level) → is_same l l ≡ true
is-itself l = grind arith

same-from : (es : List Entry) (s : Strip) (from : ℕ) (l : Level) (ts : List Told) →
    levels_from es s from l (filter (is_told_on es s.port) ts) ≡ levels_from es s from l ts
same-from es s from l [] = refl
same-from es s from l (t ∷ ts) = by (is_told_on es s.port t) refl (same-from es s from l ts) (same-from es s t.by (after es s.port l t) ts)
  where
    rest : List Told
    rest = filter (is_told_on es s.port) ts

    next : Level
    next = after es s.port l t

    by : (b : Bool) → b ≡ is_told_on es s.port t → levels_from es s from l rest ≡ levels_from es s from l ts →
        levels_from es s t.by next rest ≡ levels_from es s t.by next ts →
        levels_from es s from l (cond b (t ∷ rest) rest) ≡ levels_from es s from l (t ∷ ts)
    by true is same moved = rw (same, moved) refl
    by false is same moved =
        let still : is_same l next ≡ true = ap (is_same l) (unmoved es s.port l t (sym is)) ∙ is-itself l in
        rw still same

pub same-levels : (w : Window) (es : List Entry) (all : List Told) (s : Strip) → levels_on w es (filter (is_told_on es s.port) all) s ≡ levels_on w es all s
same-levels w es all s = ap (filter (shows_level w)) (same-from es s 0 empty all)
