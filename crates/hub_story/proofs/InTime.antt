-- Passages do not go back: at each step no more values were received on a port than sent, and what is
-- told later is told by a later step.
use Rattle.std.proofs.Common.{◌≡◌, ◌≤◌, ℕ, zero, suc, ◌+◌, List, [], ◌∷◌, ◌++◌, length, take, refl, ap, ◌∙◌, sym, arith, Option, Some, None}
use Rattle.std.proofs.Common.{append-nil, append_assoc, length-append, subst}
use Rattle.std.specs.List.{AllByRecursion, filter_map, cons_option}
use Rattle.std.specs.Option.{option_map, option_map_or}
use Rattle.std.proofs.lemmas.List.{length-map}
use Rattle.std.proofs.lemmas.List.Elements.{filter_map-append}
use Rattle.std.proofs.lemmas.Option.{same_Some}
use Rattle.hub_base.specs.declared.head.Head.{Head}
use Rattle.hub_base.specs.declared.value.Port.{Port}
use Rattle.hub_base.specs.declared.value.Value.{Value}
use Rattle.hub_base.specs.declared.case.Case.{Case}
use Rattle.hub_base.specs.Entry.{Entry}
use Rattle.hub_base.specs.declared.event.Outcome.{Outcome}
use Rattle.hub_base.specs.declared.event.Event.{Event}
use Rattle.hub_base.specs.State.{State, Channel, opening}
use Rattle.hub_base.specs.Runs.{state, state_after, moves}
use Rattle.hub_base.specs.Values.{cases_at, Turned, turns_after, of_what, sent_on, got_on, values_from}
use Rattle.hub_base.proofs.Lists.{all_append, all_more}
use Rattle.hub_laws.proofs.Deeds.{at}
use Rattle.hub_story.specs.declared.told.Told.{Told}
use Rattle.hub_story.specs.declared.moved.Moved.{Moved}
use Rattle.hub_story.specs.Told.{asked_by, tells_it, told_from, told}
use Rattle.hub_story.specs.Passing.{moved_by, beside, sends, receives, passages}
use Rattle.hub_story.specs.Laws.{IsInTime, InTimeLaw}
use Rattle.hub_story.proofs.Stories.{stand-turns, stand-more, values-told}
use Rattle.hub_story.proofs.Passages.{sent-all, received-all}

pub all-given : {X Y : Type 0} (P : X → Type 0) (Q : Y → Type 0) (h : X → Option Y) → ((x : X) (y : Y) → h x ≡ Some y → P x → Q y) →
    (xs : List X) → AllByRecursion P xs → AllByRecursion Q (filter_map h xs)
all-given P Q h f [] all = tt
all-given {X = X} {Y = Y} P Q h f (x ∷ xs) all = by (h x) refl (all-given P Q h f xs all.1)
  where
    by : (o : Option Y) → h x ≡ o → AllByRecursion Q (filter_map h xs) → AllByRecursion Q (cons_option o (filter_map h xs))
    by None e rest = rest
    by (Some y) e rest = (f x y e all.0, rest)

pub all-any : {A : Type 0} (P : A → Type 0) → ((x : A) → P x) → (xs : List A) → AllByRecursion P xs
all-any P f [] = tt
all-any P f (x ∷ xs) = (f x, all-any P f xs)

moved-told : (pick : Option Case → Outcome → Option Value) (es : List Entry) (t : Told) (m : Moved) → moved_by pick es t ≡ Some m → m.told ≡ t
moved-told pick es t m = by (of_what pick (cases_at es t.asked) t.event.what)
  where
    by : (o : Option Value) → option_map (λ v. record { told = t; value = v }) o ≡ Some m → m.told ≡ t
    by None h = absurd cc
    by (Some v) h = ap (λ (x : Moved). x.told) (sym (same_Some _ _ h))

pub tells-by : (before : List Turned) (t : Turned) (e : Event) (x : Told) → tells_it before t e ≡ Some x → x.by ≡ length before
tells-by before t e x = by (asked_by before t e)
  where
    by : (o : Option ℕ) → option_map (λ a. record { asked = a; by = length before; event = e }) o ≡ Some x → x.by ≡ length before
    by None h = absurd cc
    by (Some a) h = ap (λ (x : Told). x.by) (sym (same_Some _ _ h))

-- what a turn tells is told by it
pub turn-by : (before : List Turned) (t : Turned) → AllByRecursion (λ x. x.by ≡ length before) (filter_map (tells_it before t) t.events)
turn-by before t =
    all-given (λ e. ℕ) (λ x. x.by ≡ length before) (tells_it before t) (λ e x h any. tells-by before t e x h) t.events (all-any (λ e. ℕ) (λ e. 0) t.events)

raise : (a b c d : ℕ) → a ≤ b + c → b ≡ d + 1 → a ≤ d + suc c
raise a b c d h e = omega arith

below : (a b c : ℕ) → a ≡ b → a ≤ b + suc c
below a b c h = omega arith

told-below : (before ts : List Turned) → AllByRecursion (λ x. x.by ≤ length before + length ts) (told_from before ts)
told-below before [] = tt
told-below before (t ∷ ts) =
    let new : List Told = filter_map (tells_it before t) t.events in
    let more : List Turned = before ++ t ∷ [] in
    all_append (λ x. x.by ≤ length before + suc (length ts)) new (told_from more ts)
    (all_more (λ x. x.by ≡ length before) (λ x. x.by ≤ length before + suc (length ts)) new
    (λ x h. below x.by (length before) (length ts) h) (turn-by before t))
    (all_more (λ x. x.by ≤ length more + length ts) (λ x. x.by ≤ length before + suc (length ts)) (told_from more ts)
    (λ x h. raise x.by (length more) (length ts) (length before) h (length-append before (t ∷ []))) (told-below more ts))

between : (a b c : ℕ) → a ≤ c → b ≡ c → a ≤ b
between a b c h e = omega arith

-- what was sent up to a step stands in time beside what is received by it
late : (b : ℕ) (xs ys : List Moved) → AllByRecursion (λ m. m.told.by ≤ b) xs → AllByRecursion (λ m. m.told.by ≡ b) ys →
    AllByRecursion IsInTime (beside xs ys)
late b [] ys hx hy = tt
late b (x ∷ xs) [] hx hy = tt
late b (x ∷ xs) (y ∷ ys) hx hy = (between x.told.by y.told.by b hx.0 hy.0, late b xs ys hx.1 hy.1)

less : (a b : ℕ) → suc a ≤ suc b → a ≤ b
less a b h = omega arith

grown : (b : ℕ) (xs ys more new : List Moved) → length ys ≤ length xs → AllByRecursion IsInTime (beside xs ys) →
    AllByRecursion (λ m. m.told.by ≤ b) (xs ++ more) → AllByRecursion (λ m. m.told.by ≡ b) new →
    AllByRecursion IsInTime (beside (xs ++ more) (ys ++ new))
grown b [] [] more new few h hx hy = late b more new hx hy
grown b [] (y ∷ ys) more new few h hx hy = absurd (omega arith)
grown b (x ∷ xs) [] more new few h hx hy = late b (x ∷ xs ++ more) new hx hy
grown b (x ∷ xs) (y ∷ ys) more new few h hx hy = (h.0, grown b xs ys more new (less (length ys) (length xs) few) h.1 hx.1 hy)

pub turns-entry : (s : State) (es : List Entry) (e : Entry) →
    turns_after s (es ++ e ∷ []) ≡ turns_after s es ++ record { entry = e; events = (moves (state_after s es) e).events } ∷ []
turns-entry s [] e = refl
turns-entry s (x ∷ es) e = ap (λ ts. record { entry = x; events = (moves s x).events } ∷ ts) (turns-entry (moves s x).state es e)

pub told_from-entry : (before ts : List Turned) (t : Turned) →
    told_from before (ts ++ t ∷ []) ≡ told_from before ts ++ filter_map (tells_it (before ++ ts) t) t.events
told_from-entry before [] t =
    append-nil (filter_map (tells_it before t) t.events) ∙ ap (λ b. filter_map (tells_it b t) t.events) (sym (append-nil before))
told_from-entry before (x ∷ ts) t =
    let more : List Turned = before ++ x ∷ [] in
    let new : List Told = filter_map (tells_it before x) x.events in
    ap (λ l. new ++ l) (told_from-entry more ts t)
    ∙ sym (append_assoc new (told_from more ts) (filter_map (tells_it (more ++ ts) t) t.events))
    ∙ ap (λ b. (new ++ told_from more ts) ++ filter_map (tells_it b t) t.events) (append_assoc before (x ∷ []) ts)

-- one entry more tells what its events tell
pub told-entry : (h : Head) (es : List Entry) (e : Entry) → let before : List Turned = turns_after (opening h) es in
    let t : Turned = record { entry = e; events = (moves (state h es) e).events } in
    told h (es ++ e ∷ []) ≡ told h es ++ filter_map (tells_it before t) t.events
told-entry h es e =
    ap (told_from []) (turns-entry (opening h) es e)
    ∙ told_from-entry [] (turns_after (opening h) es) (record { entry = e; events = (moves (state h es) e).events })

-- ---- no more was received than sent
take-few : {A : Type 0} (k : ℕ) (xs : List A) → length (take k xs) ≤ length xs
take-few zero xs = omega arith
take-few (suc k) [] = omega arith
take-few (suc k) (x ∷ xs) = let h = take-few k xs in omega (arith, h)

few-total : (o : Option Channel) → length (option_map_or (λ c. take c.received c.sent) o []) ≤ length (option_map_or (λ c. c.sent) o [])
few-total None = omega arith
few-total (Some c) = take-few c.received c.sent

-- of a run that these entries begin with
module _ (h : Head) (es fs : List Entry) where
  abbrev all : List Entry
  all = es ++ fs

  pub counted : (pick : Option Case → Outcome → Option Value) → ((o : Outcome) → pick None o ≡ None) →
      length (filter_map (moved_by pick all) (told h es)) ≡ length (values_from pick [] (turns_after (opening h) es))
  counted pick none =
      sym (length-map (filter_map (moved_by pick all) (told h es)) (λ m. m.value))
      ∙ ap length (values-told pick none all (turns_after (opening h) es) (stand-more es fs 0 (turns_after (opening h) es) (stand-turns (opening h) es)))

  few : (p : Port) → length (receives all (told h es) p) ≤ length (sends all (told h es) p)
  few p =
      omega (
        arith,
        counted (sent_on p) (λ o. refl),
        counted (got_on p) (λ o. refl),
        ap length (sent-all h es p),
        ap length (received-all h es p),
        few-total (at (state h es).channels p),
      )

-- ---- entry by entry
-- what is moved is told by such steps where all that is told is
moved-by : (P : ℕ → Type 0) (pick : Option Case → Outcome → Option Value) (es : List Entry) (ts : List Told) →
    AllByRecursion (λ t. P t.by) ts → AllByRecursion (λ m. P m.told.by) (filter_map (moved_by pick es) ts)
moved-by P pick es ts all =
    all-given (λ t. P t.by) (λ m. P m.told.by) (moved_by pick es)
    (λ t m h here. subst (λ (x : Told). P x.by) (sym (moved-told pick es t m h)) here) ts all

at-most : (a b : ℕ) → a ≡ b → a ≤ b
at-most a b e = omega arith

one : (h : Head) (p : Port) (es : List Entry) (e : Entry) (fs : List Entry) →
    AllByRecursion IsInTime (passages (es ++ e ∷ fs) (told h es) p) →
    AllByRecursion IsInTime (passages (es ++ e ∷ fs) (told h (es ++ e ∷ [])) p)
one h p es e fs before =
    let all : List Entry = es ++ e ∷ fs in
    let ts : List Turned = turns_after (opening h) es in
    let t : Turned = record { entry = e; events = (moves (state h es) e).events } in
    let new : List Told = filter_map (tells_it ts t) t.events in
    let old_by : AllByRecursion (λ x. x.by ≤ length ts) (told h es) =
    all_more (λ x. x.by ≤ 0 + length ts) (λ x. x.by ≤ length ts) (told h es) (λ x b. omega (arith, b)) (told-below [] ts) in
    let new_by = all_more (λ x. x.by ≡ length ts) (λ x. x.by ≤ length ts) new (λ x b. at-most x.by (length ts) b) (turn-by ts t) in
    rw (told-entry h es e, filter_map-append (moved_by (sent_on p) all) (told h es) new, filter_map-append (moved_by (got_on p) all) (told h es) new)
    (grown (length ts) (sends all (told h es) p) (receives all (told h es) p) (sends all new p) (receives all new p) (few h es (e ∷ fs) p) before
    (all_append (λ m. m.told.by ≤ length ts) (sends all (told h es) p) (sends all new p)
    (moved-by (λ k. k ≤ length ts) (sent_on p) all (told h es) old_by) (moved-by (λ k. k ≤ length ts) (sent_on p) all new new_by))
    (moved-by (λ k. k ≡ length ts) (got_on p) all new (turn-by ts t)))

in-time-from : (h : Head) (p : Port) (es fs : List Entry) →
    AllByRecursion IsInTime (passages (es ++ fs) (told h es) p) → AllByRecursion IsInTime (passages (es ++ fs) (told h (es ++ fs)) p)
in-time-from h p es [] before =
    subst (λ l. AllByRecursion IsInTime (passages (es ++ []) (told h l) p)) (sym (append-nil es)) before
in-time-from h p es (e ∷ fs) before =
    let step = in-time-from h p (es ++ e ∷ []) fs in
    rw (append_assoc es (e ∷ []) fs) at step (one h p es e fs before)

pub in-time-law : (h : Head) (es : List Entry) → InTimeLaw h es
in-time-law h es p = in-time-from h p [] es tt
