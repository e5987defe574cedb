-- A step of which all is told that came by it ends no other. One that frees others, and no more, ends them in no other way.
use Rattle.std.proofs.Common.{◌≡◌, ◌==◌, ◌&&◌, ◌||◌, not, ℕ, Bool, true, false, List, [], ◌∷◌, filter, refl, ap, ◌∙◌, Option}
use Rattle.std.specs.List.{AllByRecursion}
use Rattle.std.proofs.lemmas.Bool.{eq-eqb}
use Rattle.hub_base.specs.declared.value.Pid.{Pid}
use Rattle.hub_base.specs.Entry.{Entry}
use Rattle.hub_story.specs.declared.told.Told.{Told}
use Rattle.hub_base.specs.declared.event.Outcome.{Outcome}
use Rattle.hub_base.specs.declared.event.What.{What}
use Rattle.hub_base.specs.declared.event.What.TheVariants.{Made, Fired, Default, Done, Parked, Stalled, Fault, Cancelled}
use Rattle.hub_story.specs.declared.by_clock.Part.{Part}
use Rattle.hub_story.specs.declared.by_clock.Part.TheVariants.{OwnCall, OwnStep, NoPart}
use Rattle.hub_story_text.specs.declared.cells.TheConstants.{ENDS}
use Rattle.hub_story_text.specs.declared.ends.Ending.{Ending}
use Rattle.hub_story_text.specs.declared.ends.Ending.TheVariants.{Frees, Cancels, TimesOut, Wakes, Stalls}
use Rattle.hub_story_text.specs.Cells.{with_cell}
use Rattle.hub_story.specs.ByClock.{part_of}
use Rattle.hub_story_text.specs.EndsText.{ends_other, ends_so, ends_words, is_own_or_fired, with_all_ends, with_ends}

no-and : (b : Bool) → (b && false) ≡ false
no-and true = refl
no-and false = refl

none-ended : (clock : Option Pid) (es : List Entry) (ending : Ending) (place : ℕ) (came : List Told) → AllByRecursion (λ t. t.asked ≡ place) came →
    filter (ends_other clock es ending place) came ≡ []
none-ended clock es ending place [] own = refl
none-ended clock es ending place (t ∷ ts) own =
    rw (eq-eqb t.asked place own.0, no-and (ends_so ending (part_of clock es t) t.event.what)) (none-ended clock es ending place ts own.1)

no-cell : (clock : Option Pid) (es : List Entry) (ending : Ending) (place : ℕ) (came : List Told) (line : List ℕ) →
    AllByRecursion (λ t. t.asked ≡ place) came → with_ends clock es ending place came line ≡ line
no-cell clock es ending place came line own = ap (λ ts. with_cell ENDS line (ends_words ending ts)) (none-ended clock es ending place came own)

pub own-ends : (clock : Option Pid) (es : List Entry) (place : ℕ) (came : List Told) (line : List ℕ) → AllByRecursion (λ t. t.asked ≡ place) came →
    with_all_ends clock es place came line ≡ line
own-ends clock es place came line own =
    let cell = λ (ending : Ending). no-cell clock es ending place came line own in
    let ends = λ (ending : Ending). with_ends clock es ending place came in
    ap (λ l. ends Stalls (ends Wakes (ends TimesOut (ends Cancels l)))) (cell Frees) ∙ ap (λ l. ends Stalls (ends Wakes (ends TimesOut l))) (cell Cancels)
    ∙ ap (λ l. ends Stalls (ends Wakes l)) (cell TimesOut) ∙ ap (ends Stalls) (cell Wakes) ∙ cell Stalls

-- ---- where a case fired, no call ends in another way
abbrev IsLeft : Ending → Type 0
IsLeft ending = (part : Part) (i : ℕ) (o : Outcome) → ends_so ending part (Fired i o) ≡ false

cancels-left : IsLeft Cancels
cancels-left OwnCall i o = refl
cancels-left OwnStep i o = refl
cancels-left NoPart i o = refl

times-out-left : IsLeft TimesOut
times-out-left OwnCall i o = refl
times-out-left OwnStep i o = refl
times-out-left NoPart i o = refl

wakes-left : IsLeft Wakes
wakes-left OwnCall i o = refl
wakes-left OwnStep i o = refl
wakes-left NoPart i o = refl

stalls-left : IsLeft Stalls
stalls-left OwnCall i o = refl
stalls-left OwnStep i o = refl
stalls-left NoPart i o = refl

ends-no-more : (ending : Ending) → IsLeft ending → (part : Part) (w : What) → ends_so Frees NoPart w ≡ true → ends_so ending part w ≡ false
ends-no-more ending left part (Fired i o) is = left part i o
ends-no-more ending left part (Made p) is = absurd cc
ends-no-more ending left part Default is = absurd cc
ends-no-more ending left part Done is = absurd cc
ends-no-more ending left part Parked is = absurd cc
ends-no-more ending left part Stalled is = absurd cc
ends-no-more ending left part (Fault f) is = absurd cc
ends-no-more ending left part Cancelled is = absurd cc

-- an event that is told of the step, or of a case that fired
no-other : (own fired ends : Bool) → (own || fired) ≡ true → (fired ≡ true → ends ≡ false) → (ends && not own) ≡ false
no-other true fired ends is none = no-and ends
no-other false fired ends is none = rw (none is) refl

none-left : (clock : Option Pid) (es : List Entry) (ending : Ending) (place : ℕ) (came : List Told) → IsLeft ending →
    AllByRecursion (λ t. is_own_or_fired place t ≡ true) came → filter (ends_other clock es ending place) came ≡ []
none-left clock es ending place [] left all = refl
none-left clock es ending place (t ∷ ts) left all =
    rw (no-other (t.asked == place) (ends_so Frees NoPart t.event.what) (ends_so ending (part_of clock es t) t.event.what) all.0
    (ends-no-more ending left (part_of clock es t) t.event.what)) (none-left clock es ending place ts left all.1)

pub freed-ends : (clock : Option Pid) (es : List Entry) (place : ℕ) (came : List Told) (line : List ℕ) →
    AllByRecursion (λ t. is_own_or_fired place t ≡ true) came → with_all_ends clock es place came line ≡ with_ends clock es Frees place came line
freed-ends clock es place came line all =
    let ends = λ (ending : Ending). with_ends clock es ending place came in
    let cell = λ (ending : Ending) (left : IsLeft ending).
    ap (λ ts. with_cell ENDS (ends Frees line) (ends_words ending ts)) (none-left clock es ending place came left all) in
    ap (λ l. ends Stalls (ends Wakes (ends TimesOut l))) (cell Cancels cancels-left) ∙ ap (λ l. ends Stalls (ends Wakes l)) (cell TimesOut times-out-left)
    ∙ ap (ends Stalls) (cell Wakes wakes-left) ∙ cell Stalls stalls-left
