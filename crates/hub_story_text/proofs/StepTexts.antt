-- The text of the steps, one by one.
use Rattle.std.proofs.Common.{◌≡◌, ◌≤◌, ◌<◌, ◌+◌, ℕ, Bool, true, false, List, [], ◌∷◌}
use Rattle.std.proofs.Common.{◌++◌, length, drop, filter, refl, ap, ◌∙◌, sym, append-nil, append_assoc, arith, get_or, codes}
use Rattle.std.proofs.Common.{Option, Some, if◌then◌else◌, add-one}
use Rattle.std.specs.List.{flat_map}
use Rattle.std.proofs.Math.Seq.{drop-cons}
use Rattle.std.proofs.lemmas.List.{drop_all}
use Rattle.hub_base.specs.declared.value.Pid.{Pid}
use Rattle.hub_base.specs.declared.value.Port.{Port}
use Rattle.hub_base.specs.declared.case.Case.{Case}
use Rattle.hub_base.specs.declared.case.Case.TheVariants.{Send, Recv}
use Rattle.hub_base.specs.Entry.{Entry}
use Rattle.hub_story.specs.declared.told.Told.{Told}
use Rattle.hub_story.specs.Leavers.{leavers}
use Rattle.hub_story.specs.Levels.{told_by}
use Rattle.hub_story.specs.Waiting.{is_stalled, stalled_by}
use Rattle.hub_base.specs.Values.{cases_at}
use Rattle.hub_story.specs.declared.last_moves.AtPort.{AtPort}
use Rattle.hub_story.specs.declared.last_moves.LastMoves.{LastMoves}
use Rattle.hub_story.specs.declared.window.Window.{Window}
use Rattle.hub_story.specs.ByClock.{to_others}
use Rattle.hub_story.specs.LastMoves.{AreLast, known_at, known_of}
use Rattle.hub_story_text.specs.StoryText.{came_by, stall_heading, step_text, steps_from, steps_text, who_waits}
use Rattle.hub_story_text.specs.declared.paint.Paint.{Paint}
use Rattle.hub_story_text.specs.Paint.{painted_line}
use Rattle.hub_story_text.specs.WaiterText.{case_words, gone_words, left_words, port_words, waiter_words, waiters_words, who_words}
use Rattle.hub_story.specs.Windows.{has}

-- ---- the same movers give the same words
same-case : (k k' : Port → AtPort) → ((p : Port) → k p ≡ k' p) → (c : Case) → case_words k c ≡ case_words k' c
same-case k k' h (Send p v) =
    ap (λ (a : AtPort). codes "            to send on port " ++ port_words a p ++ gone_words a.gone ++ codes "\n") (h p)
same-case k k' h (Recv p) = ap (λ (a : AtPort). codes "            to receive from port " ++ port_words a p ++ codes "\n") (h p)

same-flat : {X A : Type 0} (f g : X → List A) → ((x : X) → f x ≡ g x) → (xs : List X) → flat_map f xs ≡ flat_map g xs
same-flat f g h [] = refl
same-flat f g h (x ∷ xs) = ap (λ l. l ++ flat_map f xs) (h x) ∙ ap (λ l. g x ++ l) (same-flat f g h xs)

same-waiters : (nobody heading : List ℕ) (es : List Entry) (k k' : Port → AtPort) → ((p : Port) → k p ≡ k' p) →
    (left ts : List Told) → waiters_words nobody heading es k left ts ≡ waiters_words nobody heading es k' left ts
same-waiters nobody heading es k k' h left [] = refl
same-waiters nobody heading es k k' h left (t ∷ ts) =
    ap (λ l. heading ++ left_words left ++ l) (same-flat (waiter_words es k) (waiter_words es k')
    (λ t. ap (λ l. who_words (codes " waits since step ") t ++ l)
    (same-flat (case_words k) (case_words k') (same-case k k' h) (cases_at es t.asked))) (t ∷ ts))

-- what the tables tell
pub waiters-told : (nobody heading : List ℕ) (clock : Option Pid) (es : List Entry) (until : List Told) (moves : LastMoves) → AreLast es until moves →
    (ts : List Told) →
    waiters_words nobody heading es (known_at moves) moves.receivers.left.items (to_others clock ts)
    ≡ who_waits nobody heading clock es until ts
waiters-told nobody heading clock es until moves so ts =
    ap (λ left. waiters_words nobody heading es (known_at moves) left (to_others clock ts)) so.receivers.left
    ∙ same-waiters nobody heading es (known_at moves) (known_of es until) so.known (leavers es until) (to_others clock ts)

-- ---- one step more
-- what is shown of a step where this says so
abbrev shown : Bool → Paint → Option Pid → List Entry → List Told → ℕ → Entry → List ℕ
shown b paint clock es all place e = if b then step_text paint clock es all place e else []

step-first : (paint : Paint) (w : Window) (clock : Option Pid) (es : List Entry) (all : List Told) (place : ℕ) (d : Entry) → place < length es →
    steps_from paint w clock es all place
    ≡ shown (has w place) paint clock es all place (get_or es place d) ++ steps_from paint w clock es all (place + 1)
step-first paint w clock es all place d below =
    ap (steps_text paint w clock es all place) (drop-cons es place d below)
    ∙ ap (λ k. shown (has w place) paint clock es all place (get_or es place d) ++ steps_text paint w clock es all (place + 1) (drop k es))
    (sym (add-one place))

-- what stands behind a text, where this is known of the window
step-next : (b : Bool) (paint : Paint) (w : Window) (clock : Option Pid) (es : List Entry) (all : List Told) (place : ℕ) (d : Entry) (was : List ℕ) →
    place < length es → has w place ≡ b →
    was ++ (shown b paint clock es all place (get_or es place d) ++ steps_from paint w clock es all (place + 1)) ≡ was ++ steps_from paint w clock es all place
step-next b paint w clock es all place d was below so =
    ap (λ l. was ++ l)
    (ap (λ b. shown b paint clock es all place (get_or es place d) ++ steps_from paint w clock es all (place + 1)) (sym so)
    ∙ sym (step-first paint w clock es all place d below))

pub step-shown : (paint : Paint) (w : Window) (clock : Option Pid) (es : List Entry) (all : List Told) (place : ℕ) (d : Entry) (was now : List ℕ) →
    place < length es → has w place ≡ true → now ≡ was ++ step_text paint clock es all place (get_or es place d) →
    now ++ steps_from paint w clock es all (place + 1) ≡ was ++ steps_from paint w clock es all place
step-shown paint w clock es all place d was now below so step =
    ap (λ l. l ++ steps_from paint w clock es all (place + 1)) step
    ∙ append_assoc was (step_text paint clock es all place (get_or es place d)) (steps_from paint w clock es all (place + 1))
    ∙ step-next true paint w clock es all place d was below so

pub step-hidden : (paint : Paint) (w : Window) (clock : Option Pid) (es : List Entry) (all : List Told) (place : ℕ) (was : List ℕ) →
    place < length es → has w place ≡ false → was ++ steps_from paint w clock es all (place + 1) ≡ was ++ steps_from paint w clock es all place
step-hidden paint w clock [] all place was below so = absurd (omega (arith, below))
step-hidden paint w clock (e ∷ es) all place was below so = step-next false paint w clock (e ∷ es) all place e was below so

-- no step is left
pub no-step-left : (paint : Paint) (w : Window) (clock : Option Pid) (es : List Entry) (all : List Told) (place : ℕ) (text : List ℕ) →
    length es ≤ place → text ++ steps_from paint w clock es all place ≡ text
no-step-left paint w clock es all place text past =
    ap (λ l. text ++ steps_text paint w clock es all place l) (drop_all place es past) ∙ append-nil text

-- ---- the text of one step, by what is looked up
pub inside : {A : Type 0} {x y : A} → Some x ≡ Some y → x ≡ y
inside h = cc

pub step-is : (paint : Paint) (clock : Option Pid) (es : List Entry) (all : List Told) (place : ℕ) (e : Entry) (came : List Told) (moves : LastMoves) →
    came ≡ came_by place all → AreLast es (told_by (place + 1) all) moves →
    painted_line paint clock es all place e came
    ++ waiters_words [] stall_heading es (known_at moves) moves.receivers.left.items
    (to_others clock (filter (λ t. is_stalled t.event.what) came))
    ≡ step_text paint clock es all place e
step-is paint clock es all place e came moves same last =
    ap (λ l. painted_line paint clock es all place e l
    ++ waiters_words [] stall_heading es (known_at moves) moves.receivers.left.items
    (to_others clock (filter (λ t. is_stalled t.event.what) l))) same
    ∙ ap (λ l. painted_line paint clock es all place e (came_by place all) ++ l)
    (waiters-told [] stall_heading clock es (told_by (place + 1) all) moves last (stalled_by all place))
