-- What all steps ask is read in a story.
use Rattle.std.proofs.Common.{◌≡◌, ℕ, ◌+◌, ◌-◌, ◌≤◌, ◌<◌, Bool, true, false, cond, List, [], ◌∷◌, ◌++◌, codes, refl}
use Rattle.std.proofs.Common.{ap, ◌∙◌, sym, subst, arith, Option, Some, None, length, append_assoc, append-nil, filter}
use Rattle.std.proofs.Common.{count_by, drop, length-append}
use Rattle.std.proofs.lemmas.Grind.{common_steps}
use Rattle.std.proofs.lemmas.List.{length-replicate}
use Rattle.std.specs.Prelude.{decimal}
use Rattle.std.specs.List.{AllByRecursion, flat_map}
use Rattle.hub_base.specs.declared.case.Case.{Case}
use Rattle.hub_base.specs.declared.case.Case.TheVariants.{Send, Recv}
use Rattle.hub_base.specs.declared.event.Outcome.{Outcome}
use Rattle.hub_base.specs.declared.event.Outcome.TheVariants.{Sent, Got}
use Rattle.hub_base.specs.declared.event.What.{What}
use Rattle.hub_base.specs.declared.event.What.TheVariants as what
use Rattle.hub_base.specs.declared.fault.Fault.{Fault}
use Rattle.hub_base.specs.declared.fault.Fault.TheVariants as fault
use Rattle.hub_base.specs.declared.head.Edition.{Edition}
use Rattle.hub_base.specs.declared.head.Head.{Head}
use Rattle.hub_base.specs.declared.value.Pid.{Pid}
use Rattle.hub_base.specs.declared.value.Port.{Port}
use Rattle.hub_base.specs.Entry.{Entry}
use Rattle.hub_base.specs.Faults.{fault_number}
use Rattle.hub_base.specs.Text.{Fits}
use Rattle.hub_base.specs.Values.{cases_at, cases_or}
use Rattle.hub_story.specs.declared.last_moves.AtPort.{AtPort}
use Rattle.hub_story.specs.declared.last_moves.Mover.{Mover}
use Rattle.hub_story.specs.declared.told.Told.{Told}
use Rattle.hub_story.specs.declared.window.Window.{Window}
use Rattle.hub_story.specs.Clock.{clock_of}
use Rattle.hub_story.specs.LastMoves.{known_of}
use Rattle.hub_story.specs.Leavers.{leavers}
use Rattle.hub_story.specs.Levels.{told_by}
use Rattle.hub_story.specs.Told.{end_of, told}
use Rattle.hub_story.specs.Waiting.{stalled_by, still_waiting}
use Rattle.hub_story.specs.Windows.{has}
use Rattle.hub_story_text.specs.declared.cells.TheConstants.{STEP_WIDTH, ASKS, ANSWER, WAITED, VALUE, ENDS}
use Rattle.hub_story.specs.declared.by_clock.Part.{Part}
use Rattle.hub_story.specs.declared.by_clock.Part.TheVariants.{OwnCall, OwnStep}
use Rattle.hub_story_text.specs.declared.ends.Ending.{Ending}
use Rattle.hub_story_text.specs.declared.ends.Ending.TheVariants.{Frees, Cancels, TimesOut, Wakes, Stalls}
use Rattle.hub_story_text.specs.declared.paint.Paint.TheVariants.{Plain}
use Rattle.hub_story_text.specs.AnswerText.{answer_words, case_name, ended_words, fault_words, fired_name, outcome_words}
use Rattle.hub_story_text.specs.Cells.{gap, right, spaces, with_cell}
use Rattle.hub_story.specs.ByClock.{part_of, to_others}
use Rattle.hub_story_text.specs.EndsText.{ending_word, ends_other, ends_words, step_number, with_ends}
use Rattle.hub_story_text.specs.LineText.{asks, cells, clock_words, moved_words, told_cells, value_words, waited_words, with_end}
use Rattle.hub_story_text.specs.OutsideText.{outside_text}
use Rattle.hub_story.specs.Partners.{partner_of}
use Rattle.hub_story_text.specs.PortText.{made_line}
use Rattle.hub_story_text.specs.StoryText.{came_by, end_heading, end_nobody, end_text, heading, ports_text, stall_heading, step_text, steps_text}
use Rattle.hub_story_text.specs.StoryText.{who_waits}
use Rattle.hub_story_text.specs.WaiterText.{case_words, gone_words, left_words, mover_words, port_words, waiter_words, waiters_words, who_words}
use Rattle.hub_story_text.specs.Waits.{counts, line_at, longest, waits, waits_text}
use Rattle.hub_story_text.specs.OneStory.{all_steps, whole_story}
use Rattle.hub_story_text.proofs.Asked.{OneLine, Says, Tells, asked, asks-told, cell-told, ends-letter, ends-number, no-digit}
use Rattle.hub_story_text.proofs.Asked.{one-both, one-decimal, one-value, parts, says-both, says-line, skips-line}

-- ---- words
one-case : (c : Case) → OneLine (case_name c)
one-case (Send p v) = one-decimal p.0
one-case (Recv p) = one-decimal p.0

one-fired : (cases : List Case) (i : ℕ) → OneLine (fired_name cases i)
one-fired [] i = refl
one-fired (c ∷ []) i = refl
one-fired cases i = simp (parts, one-case)

one-outcome : (o : Outcome) → OneLine (outcome_words o)
one-outcome (Got v) = one-value v
one-outcome o = refl

one-answer : (cases : List Case) (w : What) → OneLine (answer_words cases w)
one-answer cases (what.Made p) = one-decimal p.0
one-answer cases (what.Fired i o) = simp (one-both, one-fired, one-outcome)
one-answer cases (what.Fault f) = one-decimal (fault_number f)
one-answer cases w = refl

one-ended : (part : Part) (cases : List Case) (w : What) → OneLine (ended_words part cases w)
one-ended OwnCall cases what.Cancelled = refl
one-ended OwnCall cases what.Stalled = refl
one-ended OwnStep cases what.Cancelled = refl
one-ended part cases w = one-answer cases w

one-fault : (f : Fault) → OneLine (fault_words f)
one-fault fault.Gone = refl
one-fault f = refl

one-moved : (es : List Entry) (partner : Option ℕ) (c : Case) (o : Outcome) → OneLine (moved_words es partner c o)
one-moved es None (Send p v) Sent = one-decimal p.0
one-moved es (Some place) (Send p v) Sent = simp parts
one-moved es None (Recv p) (Got v) = refl
one-moved es (Some place) (Recv p) (Got v) = simp parts
one-moved es partner c o = refl

one-where : (es : List Entry) (cases : List Case) (partner : Option ℕ) (w : What) → OneLine (value_words es cases partner w)
one-where es cases partner (what.Fired i o) = simp (parts, one-moved)
one-where es cases partner (what.Fault f) = one-fault f
one-where es cases partner w = refl

one-ending : (ending : Ending) → OneLine (ending_word ending)
one-ending Frees = refl
one-ending ending = refl

one-numbers : (ts : List Told) → OneLine (flat_map step_number ts)
one-numbers ts = simp parts

one-ends : (ending : Ending) (ts : List Told) → OneLine (ends_words ending ts)
one-ends ending [] = refl
one-ends ending (t ∷ ts) = one-both (ending_word ending) (flat_map step_number (t ∷ ts)) ∙ rw (one-ending ending) (one-numbers (t ∷ ts))

-- ---- the line of a step
two-left : (n : ℕ) → gap ASKS (length (right STEP_WIDTH n)) ≡ 2
two-left n =
    let m = length (decimal n) in
    few (length (right STEP_WIDTH n))
    (omega (arith, length-append (spaces (STEP_WIDTH - m)) (decimal n), length-replicate {A = ℕ} (STEP_WIDTH - m) 32))
  where
    few : (len : ℕ) → 7 ≤ len → gap ASKS len ≡ 2
    few len wide = grind (arith, common_steps)

begun-told : (ed : Edition) (e : Entry) (n : ℕ) → Fits ed e → Tells (with_cell ASKS (right STEP_WIDTH n) (asks e)) e
begun-told ed e n fits =
    subst (λ g. Tells (right STEP_WIDTH n ++ spaces g ++ asks e) e) (sym (two-left n)) (asks-told ed e (STEP_WIDTH - length (decimal n)) n fits)

end-told : {line : List ℕ} {asker : Entry} (clock : Option Pid) (es : List Entry) (place : ℕ) (e : Entry) (partner : Option ℕ) (end : Option Told) →
    Tells line asker → Tells (with_end clock es place e partner line end) asker
end-told clock es place e partner None so =
    cell-told WAITED (decimal (length es - (place + 1)) ++ codes ", still") (cell-told ANSWER (codes "waits") so refl) (simp parts)
end-told clock es place e partner (Some t) so =
    let cases = cases_or e.step [] in
    cell-told VALUE (value_words es cases partner t.event.what)
    (cell-told WAITED (waited_words place t)
    (cell-told ANSWER (ended_words (part_of clock es t) cases t.event.what) so (one-ended (part_of clock es t) cases t.event.what))
    (simp parts)) (one-where es cases partner t.event.what)

ends-told : {line : List ℕ} {e : Entry} (clock : Option Pid) (es : List Entry) (ending : Ending) (place : ℕ) (came : List Told) →
    Tells line e → Tells (with_ends clock es ending place came line) e
ends-told clock es ending place came so =
    let ended = filter (ends_other clock es ending place) came in
    cell-told ENDS (ends_words ending ended) so (one-ends ending ended)

cells-told : (ed : Edition) (clock : Option Pid) (es : List Entry) (place : ℕ) (e : Entry) (end : Option Told) (partner : Option ℕ) (came : List Told) →
    Fits ed e → Tells (cells clock es place e end partner came) e
cells-told ed clock es place e end partner came fits =
    ends-told clock es Stalls place came
    (ends-told clock es Wakes place came
    (ends-told clock es TimesOut place came
    (ends-told clock es Cancels place came
    (ends-told clock es Frees place came
    (cell-told VALUE (clock_words clock e)
    (end-told clock es place e partner end (begun-told ed e (place + 1) fits)) (simp parts))))))

-- ---- what stands below the line of a step is passed over
skips-flat : {A : Type 0} (f : A → List ℕ) (xs : List A) → ((x : A) → Says (f x) []) → Says (flat_map f xs) []
skips-flat f [] each = λ rest. refl
skips-flat f (x ∷ xs) each = says-both (f x) (flat_map f xs) [] [] (each x) (skips-flat f xs each)

who-skips : (words : List ℕ) (t : Told) → OneLine words → Says (who_words words t) []
who-skips words t one =
    skips-line (codes "          P" ++ decimal t.event.pid.0 ++ words ++ decimal (t.asked + 1)) (simp (one-both, one-decimal, one))
    (no-digit 80 _ refl) refl

mover-one : (o : Option Mover) → OneLine (mover_words o)
mover-one None = refl
mover-one (Some m) = simp parts

gone-one : (b : Bool) → OneLine (gone_words b)
gone-one true = refl
gone-one false = refl

case-skips : (known : Port → AtPort) (c : Case) → Says (case_words known c) []
case-skips known (Send p v) =
    skips-line (codes "            to send on port " ++ port_words (known p) p ++ gone_words (known p).gone)
    (simp (parts, mover-one, gone-one)) refl refl
case-skips known (Recv p) =
    skips-line (codes "            to receive from port " ++ port_words (known p) p) (simp (parts, mover-one)) refl refl

waiter-skips : (es : List Entry) (known : Port → AtPort) (t : Told) → Says (waiter_words es known t) []
waiter-skips es known t =
    says-both (who_words (codes " waits since step ") t) (flat_map (case_words known) (cases_at es t.asked)) [] []
    (who-skips (codes " waits since step ") t refl) (skips-flat (case_words known) (cases_at es t.asked) (case-skips known))

waiters-skip : (es : List Entry) (known : Port → AtPort) (left ts : List Told) → Says (waiters_words [] stall_heading es known left ts) []
waiters-skip es known left [] = λ rest. refl
waiters-skip es known left (t ∷ ts) =
    says-both (stall_heading ++ left_words left) (flat_map (waiter_words es known) (t ∷ ts)) [] []
    (says-both stall_heading (left_words left) [] [] (λ rest. refl)
    (skips-flat (who_words (codes " left at step ")) left (λ t. who-skips (codes " left at step ") t refl)))
    (skips-flat (waiter_words es known) (t ∷ ts) (waiter-skips es known))

-- ---- all steps
step-says : (ed : Edition) (clock : Option Pid) (es : List Entry) (all : List Told) (place : ℕ) (e : Entry) → Fits ed e →
    Says (step_text Plain clock es all place e) (e ∷ [])
step-says ed clock es all place e fits =
    let came = came_by place all in
    let line = told_cells clock es all place e came in
    let until = told_by (place + 1) all in
    says-both (line ++ codes "\n") (who_waits [] stall_heading clock es until (stalled_by all place)) (e ∷ []) []
    (says-line line e (cells-told ed clock es place e (end_of all place) (partner_of es all place) came fits))
    (waiters-skip es (known_of es until) (leavers es until) (to_others clock (stalled_by all place)))

has-each : (w : Window) (place : ℕ) → w.first ≡ 0 → place < w.end → has w place ≡ true
has-each w place first below = grind (arith, common_steps)

steps-say : (ed : Edition) (w : Window) (clock : Option Pid) (es : List Entry) (all : List Told) (place : ℕ) (left : List Entry) →
    AllByRecursion (Fits ed) left → w.first ≡ 0 → place + length left ≤ w.end → Says (steps_text Plain w clock es all place left) left
steps-say ed w clock es all place [] fits first below = λ rest. refl
steps-say ed w clock es all place (e ∷ left) fits first below =
    let more = steps_text Plain w clock es all (place + 1) left in
    let here : has w place ≡ true = has-each w place first (omega arith) in
    subst (λ (b : Bool). Says (cond b (step_text Plain clock es all place e) [] ++ more) (e ∷ left)) (sym here)
    (says-both (step_text Plain clock es all place e) more (e ∷ []) left (step-says ed clock es all place e fits.0)
    (steps-say ed w clock es all (place + 1) left fits.1 first (omega arith)))

-- ---- what stands behind them ends them
waits-end : (clock : Option Pid) (es : List Entry) (all : List Told) (rest : List ℕ) → asked (waits_text clock es all ++ rest) ≡ []
waits-end clock es all rest =
    let lines = flat_map (line_at clock es all) (longest (waits clock es all)) in
    let m = decimal (count_by (counts clock) es) in
    let n = length (waits clock es all) in
    ap asked (apart (decimal n) m lines rest)
    ∙ ends-number n (codes "f " ++ m ++ codes " calls waited, the longest first, five at most") (lines ++ rest) (simp (one-both, one-decimal))
  where
    apart : (n m lines rest : List ℕ) → n ++ codes " of " ++ m ++ codes " calls waited, the longest first, five at most\n" ++ lines ++ rest
        ≡ n ++ 32 ∷ 111 ∷ (codes "f " ++ m ++ codes " calls waited, the longest first, five at most") ++ codes "\n" ++ (lines ++ rest)
    apart n m lines rest = simp append_assoc

ports-end : (es : List Entry) (all ts : List Told) (rest : List ℕ) → asked rest ≡ [] → asked (flat_map (λ t. made_line es all t t.event.what) ts ++ rest) ≡ []
ports-end es all [] rest done = done
ports-end es all (t ∷ ts) rest done =
    let lines = flat_map (λ t. made_line es all t t.event.what) ts in
    ap asked (append_assoc (made_line es all t t.event.what) lines rest) ∙ by t.event.what (lines ++ rest) (ports-end es all ts rest done)
  where
    by : (w : What) (rest : List ℕ) → asked rest ≡ [] → asked (made_line es all t w ++ rest) ≡ []
    by (what.Made p) rest done = ends-letter (drop 1 (made_line es all t (what.Made p) ++ rest))
    by w rest done = done

all-end : (clock : Option Pid) (h : Head) (es : List Entry) (all : List Told) → asked (end_text clock h es all) ≡ []
all-end clock h es all =
    let who = who_waits end_nobody end_heading clock es (told_by (length es) all) (still_waiting all) in
    let outside = outside_text clock es all h.procs in
    ap asked (four-parts (ports_text es all) (waits_text clock es all) who outside)
    ∙ ports-end es all all (waits_text clock es all ++ (who ++ outside)) (waits-end clock es all (who ++ outside))
  where
    four-parts : (a b c d : List ℕ) → a ++ b ++ c ++ d ≡ a ++ (b ++ (c ++ d))
    four-parts a b c d = simp append_assoc

-- what all steps ask is read in their story
pub story-read : (h : Head) (es : List Entry) → AllByRecursion (Fits h.edition) es → asked (whole_story h es) ≡ es
story-read h es fits =
    let clock = clock_of h es in
    let all = told h es in
    let steps = steps_text Plain (all_steps es) clock es all 0 es in
    says-both heading steps [] es (λ rest. refl) (steps-say h.edition (all_steps es) clock es all 0 es fits refl (omega arith)) (end_text clock h es all)
    ∙ ap (λ l. es ++ l) (all-end clock h es all) ∙ append-nil es

-- whole stories that are spelled alike are of the same entries
pub one-story : (h k : Head) (es fs : List Entry) → AllByRecursion (Fits h.edition) es → AllByRecursion (Fits k.edition) fs →
    whole_story h es ≡ whole_story k fs → es ≡ fs
one-story h k es fs fe ff same = sym (story-read h es fe) ∙ ap asked same ∙ story-read k fs ff
