-- The strips that are shown, a row each, one strip after the other.
use Rattle.std.proofs.Common.{◌≡◌, ◌<◌, ◌≤◌, ◌+◌, ◌∙◌, ◌++◌, ◌∷◌, [], ℕ, suc, Bool, true, false, cond, not, ◌==◌, List, length, get_or, drop, filter}
use Rattle.std.proofs.Common.{ap, sym, refl, append-nil, append_assoc, arith, None, Some, length-append}
use Rattle.std.specs.List.{flat_map}
use Rattle.std.proofs.lemmas.List.{at_drop_more, length_push, nil_from_length}
use Rattle.std.proofs.lemmas.Grind.{flat_map-append}
use Rattle.hub_base.specs.Entry.{Entry}
use Rattle.hub_story.specs.declared.levels.Level.{Level}
use Rattle.hub_story.specs.declared.told.Told.{Told}
use Rattle.hub_story.specs.declared.window.Window.{Window}
use Rattle.hub_picture.specs.declared.levels.Held.{Held}
use Rattle.hub_picture.specs.declared.strips.Strip.{Strip}
use Rattle.hub_story.specs.Levels.{empty}
use Rattle.hub_picture.specs.Levels.{after, held, holds_any, in_row, is_same, levels_from, levels_on, rows_from, shows_level}

-- ---- as many levels are shown in any row
one-more : (b : Bool) (h other : Held) (xs ys : List Held) → length xs ≡ length ys → length (cond b (h ∷ xs) xs) ≡ length (cond b (other ∷ ys) ys)
one-more true h other xs ys same = ap suc same
one-more false h other xs ys same = same

as-many-from : (w : Window) (es : List Entry) (s : Strip) (row from : ℕ) (l : Level) (ts : List Told) →
    length (filter (shows_level w) (levels_from es s from l ts)) ≡ length (filter (shows_level w) (levels_from es (in_row row s) from l ts))
as-many-from w es s row from l [] =
    one-more (shows_level w (held s from None l)) (held s from None l) (held (in_row row s) from None l) [] [] refl
as-many-from w es s row from l (t ∷ ts) =
    by (is_same l next) (as-many-from w es s row from l ts) (as-many-from w es s row t.by next ts)
  where
    next : Level
    next = after es s.port l t

    number : List Held → ℕ
    number hs = length (filter (shows_level w) hs)

    by : (b : Bool) → number (levels_from es s from l ts) ≡ number (levels_from es (in_row row s) from l ts) →
        number (levels_from es s t.by next ts) ≡ number (levels_from es (in_row row s) t.by next ts) →
        number (cond b (levels_from es s from l ts) (held s from (Some t.by) l ∷ levels_from es s t.by next ts))
        ≡ number (cond b (levels_from es (in_row row s) from l ts) (held (in_row row s) from (Some t.by) l ∷ levels_from es (in_row row s) t.by next ts))
    by true same moved = same
    by false same moved =
        one-more (shows_level w (held s from (Some t.by) l)) (held s from (Some t.by) l) (held (in_row row s) from (Some t.by) l) _ _ moved

as-many : (w : Window) (es : List Entry) (all : List Told) (s : Strip) (row : ℕ) →
    length (levels_on w es all s) ≡ length (levels_on w es all (in_row row s))
as-many w es all s row = as-many-from w es s row 0 empty all

holds-so : (w : Window) (es : List Entry) (all : List Told) (s : Strip) (row : ℕ) → holds_any w es all (in_row row s) ≡ holds_any w es all s
holds-so w es all s row = ap (λ n. not (n == 0)) (sym (as-many w es all s row))

-- ---- one strip more
next : (w : Window) (es : List Entry) (all : List Told) (made : List Strip) (i row : ℕ) (d blank : Strip) (b : Bool) → i < length made →
    d ≡ get_or made i blank →
    holds_any w es all (in_row row d) ≡ b →
    rows_from w es all row (drop i made)
    ≡ cond b (in_row row d ∷ rows_from w es all (row + 1) (drop (i + 1) made)) (rows_from w es all row (drop (i + 1) made))
next w es all made i row d blank b below at holds =
    let rest : List Strip = drop (i + 1) made in
    at_drop_more (rows_from w es all row) made i blank below ∙ ap (λ s. rows_from w es all row (s ∷ rest)) (sym at)
    ∙ ap (λ h. cond h (in_row row d ∷ rows_from w es all (row + 1) rest) (rows_from w es all row rest)) (sym (holds-so w es all d row) ∙ holds)

pub row-shown : (w : Window) (es : List Entry) (all : List Told) (made : List Strip) (i : ℕ) (d blank : Strip) (old new text : List Strip) → i < length made →
    d ≡ get_or made i blank → holds_any w es all (in_row (length old) d) ≡ true → new ≡ old ++ in_row (length old) d ∷ [] →
    old ++ rows_from w es all (length old) (drop i made) ≡ text → new ++ rows_from w es all (length new) (drop (i + 1) made) ≡ text
row-shown w es all made i d blank old new text below at holds is so =
    let s : Strip = in_row (length old) d in
    let rest : List Strip = drop (i + 1) made in
    ap (λ l. l ++ rows_from w es all (length l) rest) is ∙ append_assoc old (s ∷ []) (rows_from w es all (length (old ++ s ∷ [])) rest)
    ∙ ap (λ k. old ++ s ∷ rows_from w es all k rest) (length_push old s)
    ∙ ap (λ l. old ++ l) (sym (next w es all made i (length old) d blank true below at holds)) ∙ so

pub row-hidden : (w : Window) (es : List Entry) (all : List Told) (made : List Strip) (i : ℕ) (d blank : Strip) (old text : List Strip) → i < length made →
    d ≡ get_or made i blank → holds_any w es all (in_row (length old) d) ≡ false →
    old ++ rows_from w es all (length old) (drop i made) ≡ text → old ++ rows_from w es all (length old) (drop (i + 1) made) ≡ text
row-hidden w es all made i d blank old text below at holds so =
    ap (λ l. old ++ l) (sym (next w es all made i (length old) d blank false below at holds)) ∙ so

-- ---- the levels of one strip more
some : (n : ℕ) → 0 < n → not (n == 0) ≡ true
some n more = grind arith

pub holds-some : (w : Window) (es : List Entry) (all : List Told) (s : Strip) (old new : List Held) → new ≡ old ++ levels_on w es all s →
    length old < length new → holds_any w es all s ≡ true
holds-some w es all s old new is grew =
    let long : length new ≡ length old + length (levels_on w es all s) = ap length is ∙ length-append old (levels_on w es all s) in
    some (length (levels_on w es all s)) (omega (arith, grew, long))

none-on : (w : Window) (es : List Entry) (all : List Told) (s : Strip) (old new : List Held) → new ≡ old ++ levels_on w es all s →
    length new ≤ length old → levels_on w es all s ≡ []
none-on w es all s old new is still =
    let long : length new ≡ length old + length (levels_on w es all s) = ap length is ∙ length-append old (levels_on w es all s) in
    nil_from_length (levels_on w es all s) (omega (arith, still, long))

pub holds-none : (w : Window) (es : List Entry) (all : List Told) (s : Strip) (old new : List Held) → new ≡ old ++ levels_on w es all s →
    length new ≤ length old → holds_any w es all s ≡ false
holds-none w es all s old new is still = ap (λ hs. not (length hs == 0)) (none-on w es all s old new is still)

pub levels-shown : (w : Window) (es : List Entry) (all : List Told) (s : Strip) (strips more : List Strip) (old new : List Held) →
    new ≡ old ++ levels_on w es all s → more ≡ strips ++ s ∷ [] → old ≡ flat_map (levels_on w es all) strips →
    new ≡ flat_map (levels_on w es all) more
levels-shown w es all s strips more old new is pushed so =
    let f = levels_on w es all in
    is ∙ ap (λ l. l ++ f s) so ∙ ap (λ l. flat_map f strips ++ l) (sym (append-nil (f s))) ∙ sym (flat_map-append f strips (s ∷ []))
    ∙ ap (flat_map f) (sym pushed)

pub levels-hidden : (w : Window) (es : List Entry) (all : List Told) (s : Strip) (strips : List Strip) (old new : List Held) →
    new ≡ old ++ levels_on w es all s → length new ≤ length old → old ≡ flat_map (levels_on w es all) strips →
    new ≡ flat_map (levels_on w es all) strips
levels-hidden w es all s strips old new is still so =
    is ∙ ap (λ l. old ++ l) (none-on w es all s old new is still) ∙ append-nil old ∙ so
