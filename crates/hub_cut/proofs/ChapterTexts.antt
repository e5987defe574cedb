-- The text of a chapter is not longer than a reader takes.
use Rattle.hub_laws.proofs.Prelude.{◌≡◌, ◌∙◌, refl, Bool, true, false, List, [], ◌∷◌, ◌++◌, ap, ℕ, zero, suc, ◌+◌, ◌≤◌, ◌<◌, arith, length, map, cond}
use Rattle.hub_laws.proofs.Prelude.{length-append, one_step, steps_of, subst, Entry, Head, Case, Send, Recv, Step, Make, Call, Close, Exit}
use Rattle.hub_laws.proofs.Prelude.{Cancel, Start, Reopen, Value, Port, Channel, OpenCall, State, state, buffer_of}
use Rattle.std.specs.Prelude.{codes, decimal, ◌*◌}
use Rattle.std.specs.List.{AllByRecursion, flat_map, join_with_byte}
use Rattle.std.proofs.lemmas.Fmt.{length-decimal-le}
use Rattle.std.proofs.lemmas.List.Elements.{filter-append}
use Rattle.std.proofs.lemmas.Grind.{flat_map-append}
use Rattle.hex.specs.Hex.{lower_digits}
use Rattle.hex.proofs.HexLemmas.{length-encode_with}
use Rattle.hub_base.specs.declared.head.Edition.{Edition}
use Rattle.hub_base.specs.declared.head.Edition.TheVariants.{One, Two, Three}
use Rattle.hub_base.specs.Content.{Content, IsContent}
use Rattle.hub_base.specs.Content.Content.{Num, Bytes}
use Rattle.hub_base.specs.Value.{IsValue, content, field_of, value_field}
use Rattle.hub_base.specs.Lines.{line, call_fields, case_field, default_field, select_fields, step_fields}
use Rattle.hub_base.specs.Head.{IsHead}
use Rattle.hub_base.specs.Reading.{head_lines, header, is_exit}
use Rattle.hub_base.specs.Text.{Fits, CaseFits, CallFits, StepFits, IsText}
use Rattle.hub_base.specs.Notation.{exit, close}
use Rattle.hub_laws.specs.Journals.{IsLegal}
use Rattle.hub_laws.specs.Limits.{all_starts, is_start}
use Rattle.hub_laws.proofs.Limits.{limits-law}
use Rattle.hub_laws.proofs.States.{count-law}
use Rattle.hub_laws.proofs.Rules.{state-sound}
use Rattle.hub_core.specs.HubView.{HubView}
use Rattle.hub_base.proofs.StepCounts.{steps-append, steps-length}
use Rattle.hub_laws.proofs.Lasting.{procs-after}
use Rattle.hub_chapters.specs.Checkpoint.{checkpoint, send_again, port_again, ports_again, call_again, exited}
use Rattle.hub_chapters.proofs.Checkpoints.{checkpoint-law}
use Rattle.hub_base.specs.declared.limits.TheConstants.{GREATEST_PID, GREATEST_PORT, MOST_VALUE_BYTES}
use Rattle.hub_base.specs.Values.{cases_or}
use Rattle.hub_cut.specs.declared.limits.TheConstants.{LINE_BYTES, CASE_BYTES, CHECKPOINT_BYTES, CHAPTER_BYTES, MOST_LINE_BYTES}
use Rattle.hub_cut.specs.ChapterText.{most_line, most_lines, counted, counted_in, FitLines, FitsText}
use Rattle.hub_cut.proofs.Parts.{checkpoint_parts}

-- Fields

-- the bytes of the fields, each with one byte behind it
fields_size : List (List ℕ) → ℕ
fields_size [] = 0
fields_size (f ∷ fs) = length f + 1 + fields_size fs

joined : (fs : List (List ℕ)) → length (join_with_byte 32 fs) ≤ fields_size fs
unfolding fields_size
joined [] = omega arith
joined (x ∷ []) = omega arith
joined (x ∷ y ∷ xs) = omega (arith, length-append x (32 ∷ join_with_byte 32 (y ∷ xs)), joined (y ∷ xs))

fields_size-append : (xs ys : List (List ℕ)) → fields_size (xs ++ ys) ≡ fields_size xs + fields_size ys
unfolding fields_size
fields_size-append [] ys = omega arith
fields_size-append (x ∷ xs) ys = omega (arith, fields_size-append xs ys)

content_size : (c : Content) → IsContent c → length (field_of c) ≤ 2 * MOST_VALUE_BYTES + 1
content_size (Num n) few =
    let l : length (decimal n) ≤ 20 = length-decimal-le 20 n (omega arith) (omega (arith, few)) (omega (arith, few)) in
    omega (arith, l)
content_size (Bytes bs) few = omega (arith, length-encode_with lower_digits bs, few.0)

value_size : (v : Value) → IsValue v → length (value_field v) ≤ 2 * MOST_VALUE_BYTES + 1
value_size v is = content_size (content v) is.fits

port_size : (p : Port) → p.0 ≤ GREATEST_PORT → length (decimal p.0) ≤ 5
port_size p few = length-decimal-le 5 p.0 (omega arith) (omega (arith, few)) (omega (arith, few))

pid_size : (p : ℕ) → p ≤ GREATEST_PID → length (decimal p) ≤ 3
pid_size p few = length-decimal-le 3 p (omega arith) (omega (arith, few)) (omega (arith, few))

case_size : (c : Case) → CaseFits c → length (case_field c) ≤ 72
case_size (Send p v) fits = omega (arith, length-append (decimal p.0) (58 ∷ value_field v), port_size p fits.0, value_size v fits.1)
case_size (Recv p) fits = omega (arith, port_size p fits)

cases_size : (cases : List Case) → AllByRecursion CaseFits cases → fields_size (map case_field cases) ≤ 73 * length cases
unfolding fields_size
cases_size [] fits = omega arith
cases_size (c ∷ cs) fits = omega (arith, case_size c fits.0, cases_size cs fits.1)

default_size : (b : Bool) → fields_size (default_field b) ≤ 8
unfolding fields_size
default_size true = omega arith
default_size false = omega arith

select_size : (cases : List Case) (default : Bool) (word : ℕ) → CallFits cases word → fields_size (select_fields cases default word) ≤ 36 + 73 * length cases
unfolding fields_size
select_size cases default word fits =
    let word : length (decimal word) ≤ 20 = length-decimal-le 20 word (omega arith) (omega (arith, fits.word_fits)) (omega (arith, fits.word_fits)) in
    omega (arith, word, fields_size-append (map case_field cases) (default_field default), cases_size cases fits.each, default_size default)

call_size : (cases : List Case) (default : Bool) (word : ℕ) → CallFits cases word → fields_size (call_fields cases default word) ≤ 36 + 73 * length cases
unfolding fields_size
call_size [] default word fits = select_size [] default word fits
call_size (Send p v ∷ []) false zero fits = omega (arith, port_size p fits.each.0.0, value_size v fits.each.0.1)
call_size (Recv p ∷ []) false zero fits = omega (arith, port_size p fits.each.0)
call_size (Send p v ∷ []) false (suc word) fits = select_size (Send p v ∷ []) false (suc word) fits
call_size (Recv p ∷ []) false (suc word) fits = select_size (Recv p ∷ []) false (suc word) fits
call_size (Send p v ∷ []) true word fits = select_size (Send p v ∷ []) true word fits
call_size (Recv p ∷ []) true word fits = select_size (Recv p ∷ []) true word fits
call_size (Send p v ∷ d ∷ cs) default word fits = select_size (Send p v ∷ d ∷ cs) default word fits
call_size (Recv p ∷ d ∷ cs) default word fits = select_size (Recv p ∷ d ∷ cs) default word fits

-- Lines

step_size : (ed : Edition) (e : Entry) → Fits ed e → fields_size (step_fields e.step) ≤ 36 + 73 * length (cases_or e.step [])
unfolding fields_size
step_size ed e fits = by e.step fits.step
  where
    by : (s : Step) → StepFits s → fields_size (step_fields s) ≤ 36 + 73 * length (cases_or s [])
    by (Make cap) few =
        let l : length (decimal cap) ≤ 10 = length-decimal-le 10 cap (omega arith) (omega (arith, few)) (omega (arith, few)) in
        omega (arith, l)
    by (Call cases default word) fits = call_size cases.items default word fits
    by (Close p) few = omega (arith, port_size p few)
    by Exit few = omega arith
    by (Cancel q) few = omega (arith, pid_size q.0 few)
    by (Start q) few = omega (arith, pid_size q.0 few)
    by (Reopen p cap) few =
        let l : length (decimal cap) ≤ 10 = length-decimal-le 10 cap (omega arith) (omega (arith, few.1)) (omega (arith, few.1)) in
        omega (arith, l, port_size p few.0)

-- so many bytes the line of an entry has at most, and no fewer are kept for it
abbrev own_line : Entry → ℕ
own_line e = LINE_BYTES + CASE_BYTES * length (cases_or e.step [])

line_kept : (e : Entry) → own_line e ≤ most_line e
line_kept e = by e.step
  where
    by : (s : Step) → own_line (record { pid = e.pid; step = s }) ≤ most_line (record { pid = e.pid; step = s })
    by (Call cases default word) = omega arith
    by other = omega arith

line_fits : (ed : Edition) (e : Entry) → Fits ed e → length (line e) ≤ own_line e
unfolding fields_size
line_fits ed e fits =
    let fields : List (List ℕ) = decimal e.pid.0 ∷ step_fields e.step in
    omega (arith, length-append (join_with_byte 32 fields) (codes "\n"), joined fields, pid_size e.pid.0 fits.pid, step_size ed e fits)

lines_fit : (ed : Edition) (es : List Entry) → AllByRecursion (Fits ed) es → length (flat_map line es) ≤ most_lines es
lines_fit ed [] fits = omega arith
lines_fit ed (e ∷ es) fits = omega (arith, length-append (line e) (flat_map line es), line_fits ed e fits.0, line_kept e, lines_fit ed es fits.1)

-- A checkpoint

pub most_lines-append : (xs ys : List Entry) → most_lines (xs ++ ys) ≡ most_lines xs + most_lines ys
most_lines-append [] ys = omega arith
most_lines-append (x ∷ xs) ys = omega (arith, most_lines-append xs ys)

-- each entry of these lists has one case at most
sends_lines : (n : ℕ) (vs : List Value) → most_lines (map (send_again n) vs) ≤ (LINE_BYTES + CASE_BYTES) * length (map (send_again n) vs)
sends_lines n [] = omega arith
sends_lines n (v ∷ vs) = omega (arith, sends_lines n vs)

close_lines : (n : ℕ) (b : Bool) → most_lines (cond b (close 0 n ∷ []) []) ≤ (LINE_BYTES + CASE_BYTES) * length (cond b (close 0 n ∷ []) [])
close_lines n true = omega arith
close_lines n false = omega arith

port_lines : (n : ℕ) (c : Channel) → most_lines (port_again n c) ≤ (LINE_BYTES + CASE_BYTES) * length (port_again n c)
port_lines n c =
    let sends : List Entry = map (send_again n) (buffer_of c) in
    let closes : List Entry = cond c.closed (close 0 n ∷ []) [] in
    omega (arith, most_lines-append sends closes, length-append sends closes, sends_lines n (buffer_of c), close_lines n c.closed)

ports_lines : (n : ℕ) (cs : List Channel) → most_lines (ports_again n cs) ≤ (LINE_BYTES + CASE_BYTES) * length (ports_again n cs)
ports_lines n [] = omega arith
ports_lines n (c ∷ cs) =
    let one : List Entry = port_again n c in
    let more : List Entry = ports_again (n + 1) cs in
    omega (arith, most_lines-append one more, length-append one more, port_lines n c, ports_lines (n + 1) cs)

exits_lines : (qs : List ℕ) → most_lines (map exit qs) ≤ (LINE_BYTES + CASE_BYTES) * length (map exit qs)
exits_lines [] = omega arith
exits_lines (q ∷ qs) = omega (arith, exits_lines qs)

calls_lines : (ed : Edition) (calls : List OpenCall) → AllByRecursion (Fits ed) (map call_again calls) →
    most_lines (map call_again calls) ≤ MOST_LINE_BYTES * length calls
calls_lines ed [] fits = omega arith
calls_lines ed (c ∷ cs) fits = omega (arith, fits.0.step.few, calls_lines ed cs fits.1)

all_behind : {A : Type 0} (P : A → Type 0) (xs ys : List A) → AllByRecursion P (xs ++ ys) → AllByRecursion P ys
all_behind P [] ys a = a
all_behind P (x ∷ xs) ys a = all_behind P xs ys a.1

checkpoint_lines : (h : Head) (es : List Entry) → IsHead h → AllByRecursion (Fits h.edition) (checkpoint (state h es)) →
    most_lines (checkpoint (state h es)) ≤ CHECKPOINT_BYTES
checkpoint_lines h es head fits =
    let s : State = state h es in
    omega (
      arith,
      checkpoint_parts most_lines most_lines-append s,
      checkpoint_parts length length-append s,
      ports_lines 1 s.channels,
      exits_lines (exited s),
      calls_lines h.edition s.parked (all_behind (Fits h.edition) (ports_again 1 s.channels ++ map exit (exited s)) (map call_again s.parked) fits),
      (checkpoint-law h es).short,
      head.1,
      count-law s (state-sound h es),
      procs-after h es,
    )

pub checkpoint_fits : (h : Head) (es : List Entry) → IsHead h → AllByRecursion (Fits h.edition) (checkpoint (state h es)) →
    length (flat_map line (checkpoint (state h es))) ≤ CHECKPOINT_BYTES
checkpoint_fits h es head fits = omega (arith, checkpoint_lines h es head fits, lines_fit h.edition (checkpoint (state h es)) fits)

-- it has no start

pub starts-append : (xs ys : List Entry) → length (all_starts (xs ++ ys)) ≡ length (all_starts xs) + length (all_starts ys)
starts-append xs ys = ap length (filter-append (λ (e : Entry). is_start e.step) xs ys) ∙ length-append (all_starts xs) (all_starts ys)

sends_no_start : (n : ℕ) (vs : List Value) → length (all_starts (map (send_again n) vs)) ≡ 0
sends_no_start n [] = refl
sends_no_start n (v ∷ vs) = sends_no_start n vs

close_no_start : (n : ℕ) (b : Bool) → length (all_starts (cond b (close 0 n ∷ []) [])) ≡ 0
close_no_start n true = refl
close_no_start n false = refl

port_no_start : (n : ℕ) (c : Channel) → length (all_starts (port_again n c)) ≡ 0
port_no_start n c =
    let sends : List Entry = map (send_again n) (buffer_of c) in
    let closes : List Entry = cond c.closed (close 0 n ∷ []) [] in
    omega (arith, starts-append sends closes, sends_no_start n (buffer_of c), close_no_start n c.closed)

ports_no_start : (n : ℕ) (cs : List Channel) → length (all_starts (ports_again n cs)) ≡ 0
ports_no_start n [] = refl
ports_no_start n (c ∷ cs) =
    omega (arith, starts-append (port_again n c) (ports_again (n + 1) cs), port_no_start n c, ports_no_start (n + 1) cs)

exits_no_start : (qs : List ℕ) → length (all_starts (map exit qs)) ≡ 0
exits_no_start [] = refl
exits_no_start (q ∷ qs) = exits_no_start qs

calls_no_start : (calls : List OpenCall) → length (all_starts (map call_again calls)) ≡ 0
calls_no_start [] = refl
calls_no_start (c ∷ cs) = calls_no_start cs

pub checkpoint-no_start : (s : State) → length (all_starts (checkpoint s)) ≡ 0
checkpoint-no_start s =
    omega (
      arith,
      checkpoint_parts (λ es. length (all_starts es)) starts-append s,
      ports_no_start 1 s.channels,
      exits_no_start (exited s),
      calls_no_start s.parked,
    )

pub checkpoint_lines_fit : (s : State) → length (flat_map line (checkpoint s)) ≤ CHECKPOINT_BYTES → FitLines (checkpoint s) 0
checkpoint_lines_fit s lines = omega (arith, lines, checkpoint-no_start s, steps-length (checkpoint s))

-- A journal that goes on

longer_by : (es : List Entry) (e : Entry) (ed : Edition) → Fits ed e → length (flat_map line (es ++ e ∷ [])) ≤ length (flat_map line es) + own_line e
longer_by es e ed fits =
    let parts : flat_map line (es ++ e ∷ []) ≡ flat_map line es ++ (line e ++ []) = flat_map-append line es (e ∷ []) in
    omega (arith, ap length parts, length-append (flat_map line es) (line e ++ []), length-append (line e) [], line_fits ed e fits)

head_size : (h : Head) → IsHead h → length (head_lines h) ≤ 100
head_size h head = by h.edition
  where
    by : (ed : Edition) → length (header ed ++ (codes "\n" ++ ((codes "procs " ++ decimal h.procs) ++ codes "\n"))) ≤ 100
    by One = omega (arith, length-append (decimal h.procs) (codes "\n"), pid_size h.procs (omega (arith, head.1)))
    by Two = omega (arith, length-append (decimal h.procs) (codes "\n"), pid_size h.procs (omega (arith, head.1)))
    by Three = omega (arith, length-append (decimal h.procs) (codes "\n"), pid_size h.procs (omega (arith, head.1)))

-- the text of a checkpoint
pub checkpoint_is_text : (h : Head) (es : List Entry) (bytes : List ℕ) → IsHead h → AllByRecursion (Fits h.edition) (checkpoint (state h es)) →
    bytes ≡ head_lines h ++ flat_map line (checkpoint (state h es)) → IsText bytes h (checkpoint (state h es))
checkpoint_is_text h es bytes head fits spelled = record {
  spelled = spelled;
  head = head;
  fits = fits;
  bytes_fit = omega (
    arith,
    ap length spelled,
    length-append (head_lines h) (flat_map line (checkpoint (state h es))),
    head_size h head,
    checkpoint_fits h
        es head fits,
  );
  steps_fit = omega (arith, (checkpoint-law h es).few_steps, head.1);
}

-- the text of a legal journal, in which each process exits at most once, and once more for each start
pub text_fits : (h : HubView) (bytes : ℕ) → IsHead h.terms.head → IsLegal h.terms.head h.journal → FitLines h.journal bytes →
    bytes < CHAPTER_BYTES + MOST_LINE_BYTES → FitsText h
text_fits h bytes head legal lines few =
    let exits : length h.journal ≤ steps_of h.journal + h.terms.head.procs + length (all_starts h.journal) =
    subst (λ (j : List Entry). length j ≤ steps_of j + h.terms.head.procs + length (all_starts j)) legal (limits-law h.terms.head h.journal).length in
    omega (arith, length-append (head_lines h.terms.head) (flat_map line h.journal), head_size h.terms.head head, lines, few, exits, head.1)

pub counted_in-append : (xs ys : List Entry) → counted_in (xs ++ ys) ≡ counted_in xs + counted_in ys
counted_in-append [] ys = omega arith
counted_in-append (x ∷ xs) ys = omega (arith, counted_in-append xs ys)

-- the lines of a journal that goes on, against what counts
pub counts_longer : (es : List Entry) (e : Entry) (ed : Edition) (bytes : ℕ) → Fits ed e → FitLines es bytes → FitLines (es ++ e ∷ []) (bytes + counted e)
counts_longer es e ed bytes fits lines =
    omega (arith, longer_by es e ed fits, lines, steps-append es (e ∷ []), starts-append es (e ∷ []), length-append es (e ∷ []), share e)
  where
    share : (e : Entry) → own_line e + LINE_BYTES * (one_step e + length (all_starts (e ∷ []))) ≤ counted e + LINE_BYTES
    share e = by e.step
      where
        by : (s : Step) → (let x : Entry = record { pid = e.pid; step = s } in
            own_line x + LINE_BYTES * (one_step x + length (all_starts (x ∷ []))) ≤ counted x + LINE_BYTES)
        by (Call cases default word) = omega arith
        by other = omega arith

-- a step behind a checkpoint
counted_most : (e : Entry) → counted e ≤ most_line e
counted_most e = by (is_exit e.step)
  where
    by : (b : Bool) → cond b 0 (most_line e) ≤ most_line e
    by true = omega arith
    by false = omega arith

pub counts_behind : (es : List Entry) (e : Entry) (ed : Edition) → Fits ed e → FitLines es 0 → FitLines (es ++ e ∷ []) (most_line e)
counts_behind es e ed fits lines = omega (arith, counts_longer es e ed 0 fits lines, counted_most e)
