-- What all steps ask is read in the data of a page.
use Rattle.std.proofs.Common.{◌≡◌, ℕ, zero, suc, ◌+◌, ◌-◌, ◌/◌, ◌≤◌, ◌<◌, Bool, true, false, cond, List, [], ◌∷◌, ◌++◌}
use Rattle.std.proofs.Common.{codes, refl, ap, ◌∙◌, sym, arith, Option, Some, None, drop, length, append_assoc, append-nil, slice_get, add-one}
use Rattle.std.proofs.lemmas.Bool.{cond_both}
use Rattle.std.proofs.lemmas.Grind.{common_steps}
use Rattle.std.proofs.lemmas.List.{drop_all}
use Rattle.std.proofs.lemmas.List.Folds.{list_all-append}
use Rattle.std.specs.Prelude.{decimal}
use Rattle.std.specs.List.{AllByRecursion, cons_option, filter_map, flat_map, list_all, range_with_len}
use Rattle.std.specs.Option.{option_map_or}
use Rattle.std.specs.Result.{result_ok}
use Rattle.hub_base.specs.declared.case.Case.{Case}
use Rattle.hub_base.specs.declared.case.Case.TheVariants.{Send}
use Rattle.hub_base.specs.declared.event.Outcome.{Outcome}
use Rattle.hub_base.specs.declared.event.Outcome.TheVariants.{Sent}
use Rattle.hub_base.specs.declared.event.What.{What}
use Rattle.hub_base.specs.declared.event.What.TheVariants as what
use Rattle.hub_base.specs.declared.head.Edition.{Edition}
use Rattle.hub_base.specs.declared.head.Edition.TheVariants.{One, Two, Three}
use Rattle.hub_base.specs.declared.head.Head.{Head}
use Rattle.hub_base.specs.declared.limits.TheConstants.{MOST_PORTS}
use Rattle.hub_base.specs.declared.value.Pid.{Pid}
use Rattle.hub_base.specs.Entry.{Entry}
use Rattle.hub_base.specs.Faults.{fault_number}
use Rattle.hub_base.specs.Head.{IsHead, head_of}
use Rattle.hub_base.specs.Lines.{join_front, pieces, read_fields}
use Rattle.hub_base.specs.Reading.{Row, edition_of, head_lines, header, procs_number, rows}
use Rattle.hub_base.specs.Text.{Fits, header_row, procs_row}
use Rattle.hub_base.specs.Values.{cases_at}
use Rattle.hub_base.proofs.Bodies.{body-again, rows-line}
use Rattle.hub_base.proofs.Heads.{head-rows, procs-again}
use Rattle.hub_base.proofs.Numerals.{all-lack, pieces-last, pieces-more}
use Rattle.hub_laws.specs.Replies.{is_parked}
use Rattle.hub_parts.specs.declared.side.Side.{Side}
use Rattle.hub_parts.specs.declared.side.Side.TheVariants as side
use Rattle.hub_story.specs.declared.last_moves.Mover.{Mover}
use Rattle.hub_story.specs.declared.moves.Move.{Move}
use Rattle.hub_story.specs.declared.told.Told.{Told}
use Rattle.hub_story.specs.declared.window.Window.{Window}
use Rattle.hub_story.specs.Clock.{clock_of}
use Rattle.hub_story.specs.Levels.{came_by, told_by}
use Rattle.hub_story.specs.Told.{told}
use Rattle.hub_story.specs.Waiting.{stalled_by}
use Rattle.hub_story.specs.Windows.{has}
use Rattle.hub_story.specs.Partners.{partner_of}
use Rattle.hub_page.specs.declared.limits.TheConstants.{BLOCK}
use Rattle.hub_page.specs.Data.{block_begin, block_count, block_text, clock_words, full_line, line_at, step_line, whole_blocks}
use Rattle.hub_page.specs.Ends.{end_words, from_words, moved_words, outcome_letter, sender_words, told_words}
use Rattle.hub_page.specs.Entries.{entry_words}
use Rattle.hub_page.specs.Excerpt.{is_told}
use Rattle.hub_page.specs.Places.{places}
use Rattle.hub_story_text.specs.OneStory.{all_steps}
use Rattle.hub_page.specs.ReadBack.{whole_data}
use Rattle.hub_page.specs.Sketch.{lanes_words, ports_below, ports_words, sketch_words}
use Rattle.hub_page.specs.Stalls.{back_words, call_words, gone_sign, stall_words, waiting_words, whom_words}
use Rattle.hub_page.proofs.Sums.{last-block}
use Rattle.hub_page.proofs.EntryWords.{all-flat, each-true, entry-line, entry-read, entry-word, expanded, in_line, one-number}

-- ---- texts of one line
abbrev OneLine : List ℕ → Type 0
OneLine xs = list_all in_line xs ≡ true

one-if : (b : Bool) (xs ys : List ℕ) → list_all in_line (cond b xs ys) ≡ cond b (list_all in_line xs) (list_all in_line ys)
one-if true xs ys = refl
one-if false xs ys = refl

if-true : (b : Bool) → cond b true true ≡ true
if-true true = refl
if-true false = refl

ruleset parts = (list_all-append, all-flat, each-true, one-if, if-true, one-number)

-- ---- what is told by a step
one-letter : (o : Outcome) → OneLine (outcome_letter o)
one-letter Sent = refl
one-letter o = refl

one-end : (w : What) → OneLine (end_words w)
one-end (what.Made p) = one-number p.0
one-end (what.Fired i o) = simp (parts, one-letter)
one-end (what.Fault f) = one-number (fault_number f)
one-end w = refl

one-from : (place : ℕ) (o : Option ℕ) → OneLine (from_words place o)
one-from place None = refl
one-from place (Some sender) = one-number (place - sender)

one-sender : (es : List Entry) (all : List Told) (place asked : ℕ) (s : Side) → OneLine (sender_words es all place asked s)
one-sender es all place asked side.Send = refl
one-sender es all place asked side.Recv = one-from place (partner_of es all asked)

one-moved : (es : List Entry) (all : List Told) (place asked : ℕ) (o : Option Move) → OneLine (moved_words es all place asked o)
one-moved es all place asked None = refl
one-moved es all place asked (Some m) = simp (parts, one-sender)

one-told : (es : List Entry) (all : List Told) (place : ℕ) (came : List Told) → OneLine (flat_map (told_words es all place) came)
one-told es all place came = simp (parts, one-end, one-moved)

one-back : (place : ℕ) (o : Option Mover) → OneLine (back_words place o)
one-back place None = refl
one-back place (Some m) = one-number (place - m.asked)

one-sign : (c : Case) (gone : Bool) → OneLine (gone_sign c gone)
one-sign (Send p v) true = refl
one-sign c gone = refl

one-whom : (own : Told) (o : Option ℕ) → OneLine (whom_words own o)
one-whom own None = refl
one-whom own (Some pid) = simp parts

one-stalls : (es : List Entry) (all : List Told) (place : ℕ) (ts : List Told) → OneLine (stall_words es all place ts)
one-stalls es all place ts = simp (parts, one-back, one-sign, one-whom)

-- ---- reading
-- the entry that the first piece spells
abbrev entry_in : Edition → List (List ℕ) → Option Entry
entry_in ed [] = None
entry_in ed (p ∷ ps) = result_ok (read_fields ed (pieces 32 (expanded p)))

-- the entries that stand before the semicolons of lines
abbrev asked : Edition → List Row → List Entry
asked ed rs = filter_map (λ r. entry_in ed (pieces 59 r.bytes)) rs

row-read : (ed : Edition) (bytes rest : List ℕ) → OneLine bytes →
    asked ed (rows (bytes ++ codes "\n" ++ rest)) ≡ cons_option (entry_in ed (pieces 59 bytes)) (asked ed (rows rest))
row-read ed bytes rest one =
    ap (λ t. asked ed (rows t)) (append_assoc bytes (codes "\n") rest)
    ∙ ap (asked ed) (rows-line bytes rest (all-lack in_line 10 bytes (λ c h. h) one))

-- nothing, or what begins with a semicolon
abbrev IsTail : List ℕ → Type 0
IsTail [] = Unit {0}
IsTail (c ∷ cs) = c ≡ 59

tail-both : (x y : List ℕ) → IsTail x → IsTail y → IsTail (x ++ y)
tail-both [] y h k = k
tail-both (c ∷ cs) y h k = h

tail-flat : {A : Type 0} (f : A → List ℕ) (xs : List A) → ((x : A) → IsTail (f x)) → IsTail (flat_map f xs)
tail-flat f [] each = tt
tail-flat f (x ∷ xs) each = tail-both (f x) (flat_map f xs) (each x) (tail-flat f xs each)

entry-said : (ed : Edition) (e : Entry) (tail : List ℕ) → Fits ed e → IsTail tail → entry_in ed (pieces 59 (entry_words e ++ tail)) ≡ Some e
entry-said ed e tail fits is = by tail is ∙ ap (λ l. result_ok (read_fields ed (pieces 32 l))) (entry-read e) ∙ ap result_ok (body-again ed e fits)
  where
    by : (tail : List ℕ) → IsTail tail → entry_in ed (pieces 59 (entry_words e ++ tail)) ≡ entry_in ed (entry_words e ∷ [])
    by [] is = ap (λ l. entry_in ed (pieces 59 l)) (append-nil (entry_words e)) ∙ ap (entry_in ed) (pieces-last 59 (entry_words e) (entry-word e))
    by (c ∷ cs) is =
        ap (λ d. entry_in ed (pieces 59 (entry_words e ++ d ∷ cs))) is ∙ ap (entry_in ed) (pieces-more 59 (entry_words e) cs (entry-word e))

-- ---- one step
line-read : (ed : Edition) (es : List Entry) (all : List Told) (place : ℕ) (e : Entry) (came stalled : List Told) (rest : List ℕ) → Fits ed e →
    asked ed (rows ((entry_words e ++ flat_map (told_words es all place) came ++ stall_words es all place stalled ++ codes "\n") ++ rest))
    ≡ e ∷ asked ed (rows rest)
line-read ed es all place e came stalled rest fits =
    let told = flat_map (told_words es all place) came in
    let below = stall_words es all place stalled in
    let until = told_by (place + 1) all in
    row-read ed (entry_words e ++ told ++ below) rest
    (list_all-append in_line (entry_words e ++ told) below
    ∙ rw (list_all-append in_line (entry_words e) told, entry-line e, one-told es all place came) (one-stalls es all place stalled))
    ∙ ap (λ o. cons_option o (asked ed (rows rest)))
    (ap (λ l. entry_in ed (pieces 59 l)) (append_assoc (entry_words e) told below)
    ∙ entry-said ed e (told ++ below) fits
    (tail-both told below
    (tail-flat (told_words es all place) came (λ t. cond_both (is_parked t.event.what) [] _ IsTail (λ e. tt) (λ e. refl)))
    (tail-flat (call_words es until place stalled) stalled
    (λ own. tail-flat (waiting_words es until place stalled own) (cases_at es own.asked) (λ c. refl)))))

-- the entry at a place, and those from it on
next : (ed : Edition) (es : List Entry) (place : ℕ) → AllByRecursion (Fits ed) es → place < length es →
    (e : Entry) × (slice_get es place ≡ Some e) × (drop place es ≡ e ∷ drop (suc place) es) × Fits ed e
next ed [] place fits below = absurd (omega arith)
next ed (e ∷ es) zero fits below = (e, refl, refl, fits.0)
next ed (e ∷ es) (suc place) fits below = next ed es place fits.1 (omega arith)

-- ---- a sketch
one-lanes : (es : List Entry) (all : List Told) (procs first end : ℕ) → OneLine (lanes_words es all procs first end)
one-lanes es all procs first end = simp parts

one-below : (es : List Entry) (all : List Told) (first end count : ℕ) → OneLine (ports_below es all first end count)
one-below es all first end count = simp parts

one-ports : (es : List Entry) (all : List Told) (first end count : ℕ) → count ≡ MOST_PORTS + 1 → OneLine (ports_words es all first end)
unfolding ports_words
one-ports es all first end count is = ap (λ n. list_all in_line (ports_below es all first end n)) (sym is) ∙ one-below es all first end count

sketch-read : (ed : Edition) (es : List Entry) (all : List Told) (procs first end : ℕ) (rest : List ℕ) →
    asked ed (rows (sketch_words es all procs first end ++ rest)) ≡ asked ed (rows rest)
unfolding sketch_words
sketch-read ed es all procs first end rest =
    let lanes = lanes_words es all procs first end in
    let ports = ports_words es all first end in
    row-read ed (codes "~" ++ lanes ++ ports) rest
    (list_all-append in_line lanes ports ∙ rw (one-lanes es all procs first end) (one-ports es all first end (MOST_PORTS + 1) refl))
    ∙ ap (λ o. cons_option o (asked ed (rows rest))) (by (pieces 59 (lanes ++ ports)))
  where
    by : (ps : List (List ℕ)) → entry_in ed (join_front 126 ps) ≡ None
    by [] = refl
    by (p ∷ ps) = refl

-- ---- all steps
module _ (ed : Edition) (w : Window) (procs : ℕ) (es : List Entry) (all : List Told) (fits : AllByRecursion (Fits ed) es)
    (each : (place : ℕ) → place < length es → has w place ≡ true) where
  step-read : (place : ℕ) (rest : List ℕ) → place < length es → asked ed (rows rest) ≡ drop (suc place) es →
      asked ed (rows (line_at w es all place ++ rest)) ≡ drop place es
  step-read place rest below behind =
      let n = next ed es place fits below in
      let here : is_told w es all place n.0 ≡ true = rw (each place below) refl in
      ap (λ (o : Option Entry). asked ed (rows (option_map_or (step_line w es all place) o [] ++ rest))) n.1
      ∙ ap (λ (b : Bool). asked ed (rows (cond b (full_line es all place n.0) (codes "\n") ++ rest))) here
      ∙ line-read ed es all place n.0 (came_by place all) (stalled_by all place) rest n.3 ∙ ap (λ l. n.0 ∷ l) behind ∙ sym n.2

  lines-read : (first k : ℕ) (rest : List ℕ) → first + k ≤ length es → asked ed (rows rest) ≡ drop (first + k) es →
      asked ed (rows (flat_map (line_at w es all) (range_with_len first k) ++ rest)) ≡ drop first es
  lines-read first zero rest few behind = let same : first + 0 ≡ first = omega arith in behind ∙ ap (λ n. drop n es) same
  lines-read first (suc k) rest few behind =
      let more = flat_map (line_at w es all) (range_with_len (first + 1) k) in
      let same : first + suc k ≡ (first + 1) + k = omega arith in
      ap (λ t. asked ed (rows t)) (append_assoc (line_at w es all first) more rest)
      ∙ step-read first (more ++ rest) (omega arith)
      (lines-read (first + 1) k rest (omega arith) (behind ∙ ap (λ n. drop n es) same) ∙ ap (λ n. drop n es) (add-one first))

  block-read : (number : ℕ) (rest : List ℕ) → asked ed (rows rest) ≡ drop (block_begin (length es) (number + 1)) es →
      asked ed (rows (block_text w procs es all number ++ rest)) ≡ drop (block_begin (length es) number) es
  block-read number rest behind =
      let first = block_begin (length es) number in
      let end = block_begin (length es) (number + 1) in
      let last : first + (end - first) ≡ end = omega arith in
      let lines = flat_map (line_at w es all) (places first end) in
      ap (λ t. asked ed (rows t)) (append_assoc lines (sketch_words es all procs first end) rest)
      ∙ lines-read first (end - first) (sketch_words es all procs first end ++ rest) (omega (arith, last))
      (sketch-read ed es all procs first end rest ∙ behind ∙ ap (λ n. drop n es) (sym last))

  blocks-read : (number n : ℕ) → number + n ≡ block_count (length es) →
      asked ed (rows (flat_map (block_text w procs es all) (range_with_len number n))) ≡ drop (block_begin (length es) number) es
  blocks-read number zero last = sym (drop_all (block_begin (length es) number) es (omega (arith, last-block (length es) number (omega arith))))
  blocks-read number (suc n) last =
      block-read number (flat_map (block_text w procs es all) (range_with_len (number + 1) n)) (blocks-read (number + 1) n (omega arith))

has-each : (w : Window) (place : ℕ) → w.first ≡ 0 → place < w.end → has w place ≡ true
has-each w place first below = grind (arith, common_steps)

whole-has : (es : List Entry) (place : ℕ) → place < length es → has (whole_blocks (length es) (all_steps es)) place ≡ true
whole-has es place below =
    let count = length es in
    let first : block_begin count (0 / BLOCK) ≡ 0 = omega arith in
    has-each (whole_blocks count (all_steps es)) place first (omega (arith, last-block count (block_count count) refl, below))

-- ---- the first lines
one-clock : (clock : Option Pid) → OneLine (clock_words clock)
one-clock None = refl
one-clock (Some clock) = one-number clock.0

abbrev blocks : Head → List Entry → List ℕ
blocks h es = flat_map (block_text (whole_blocks (length es) (all_steps es)) h.procs es (told h es)) (range_with_len 0 (block_count (length es)))

abbrev third : Head → List Entry → List ℕ
third h es = codes "steps " ++ decimal ((all_steps es).first + 1) ++ codes " " ++ decimal (all_steps es).end ++ clock_words (clock_of h es)

abbrev row : List ℕ → Row
row bytes = record { bytes = bytes; whole = true }

data-rows : (h : Head) (es : List Entry) → IsHead h →
    rows (whole_data h es) ≡ header_row h.edition ∷ procs_row h.procs ∷ row (third h es) ∷ rows (blocks h es)
data-rows h es is =
    let one : OneLine (third h es) = simp (parts, one-clock) in
    ap rows (append_assoc (head_lines h) (third h es ++ codes "\n") (blocks h es))
    ∙ head-rows h is (third h es ++ codes "\n" ++ blocks h es)
    ∙ ap (λ rs. header_row h.edition ∷ procs_row h.procs ∷ rs)
    (ap rows (append_assoc (third h es) (codes "\n") (blocks h es)) ∙ rows-line (third h es) (blocks h es) (all-lack in_line 10 (third h es) (λ c h. h) one))

data-read : (h : Head) (es : List Entry) → AllByRecursion (Fits h.edition) es → asked h.edition (rows (blocks h es)) ≡ es
data-read h es fits =
    let count = length es in
    let first : block_begin count 0 ≡ 0 = omega arith in
    blocks-read h.edition (whole_blocks count (all_steps es)) h.procs es (told h es) fits (whole-has es) 0 (block_count count) (omega arith)
    ∙ ap (λ n. drop n es) first

edition-again : (e : Edition) → edition_of (header e) ≡ Some e
edition-again One = refl
edition-again Two = refl
edition-again Three = refl

-- whole data that are the same bytes are of one journal
pub one-journal : (h k : Head) (es fs : List Entry) → IsHead h → IsHead k → AllByRecursion (Fits h.edition) es → AllByRecursion (Fits k.edition) fs →
    whole_data h es ≡ whole_data k fs → (h ≡ k) × (es ≡ fs)
one-journal h k es fs ih ik fe ff same =
    let all = sym (data-rows h es ih) ∙ ap rows same ∙ data-rows k fs ik in
    let first : header_row h.edition ≡ header_row k.edition = cc in
    let second : procs_row h.procs ≡ procs_row k.procs = cc in
    let more : rows (blocks h es) ≡ rows (blocks k fs) = cc in
    let editions : Some h.edition ≡ Some k.edition =
    sym (edition-again h.edition) ∙ ap (λ (r : Row). edition_of r.bytes) first ∙ edition-again k.edition in
    let edition : h.edition ≡ k.edition = cc in
    let numbers : Some h.procs ≡ Some k.procs =
    sym (procs-again h.procs ih.0 ih.1) ∙ ap (λ (r : Row). procs_number r.bytes) second ∙ procs-again k.procs ik.0 ik.1 in
    let procs : h.procs ≡ k.procs = cc in (
      ap (λ e. head_of e h.procs) edition ∙ ap (head_of k.edition) procs,
      sym (data-read h es fe) ∙ ap (asked h.edition) more ∙ ap (λ ed. asked ed (rows (blocks k fs))) edition ∙ data-read k fs ff,
    )
