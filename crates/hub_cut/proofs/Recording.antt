-- What a recorder's chapters are after a step, and that the present one never meets the limit.
use Rattle.hub_laws.proofs.Prelude.{◌≡◌, Bool, true, false, List, [], ◌∷◌, ◌++◌, refl, ap, ◌∙◌, sym, subst, Option}
use Rattle.hub_laws.proofs.Prelude.{Some, None, ℕ, ◌+◌, ◌≤◌, ◌<◌, arith, length}
use Rattle.hub_laws.proofs.Prelude.{append_assoc, append-nil, option_map, option_map_or, ◌-◌, ◌==◌, nat_lt, inr, inl, slice_get_past}
use Rattle.hub_laws.proofs.Prelude.{Entry, Event, Fault, Head, Pid, Port, Channel, State, state, moves, refusal, steps_of, channel_at}
use Rattle.hub_laws.proofs.Prelude.{Step, is_exit, one_step, cond, not, ◌&&◌, ◌||◌, nat_le}
use Rattle.std.specs.Prelude.{min, ◌*◌, ◌^◌, slice_index, Result, Ok, Err, OnOk}
use Rattle.hub_base.specs.declared.fault.Fault.TheVariants as fault
use Rattle.hub_base.specs.declared.limits.TheConstants.{MOST_STEPS, MOST_PORTS}
use Rattle.hub_base.specs.Journal.{JournalView}
use Rattle.hub_base.specs.Head.{AreOf, IsHead}
use Rattle.hub_base.specs.Text.{Fits}
use Rattle.hub_base.specs.declared.head.Edition.{Edition}
use Rattle.hub_laws.specs.Journals.{IsLegal}
use Rattle.hub_laws.proofs.Lasting.{ports-law}
use Rattle.hub_laws.proofs.Journals.{begins-law}
use Rattle.hub_base.proofs.StepCounts.{steps-append}
use Rattle.hub_laws.proofs.Limits.{limits-law, starts-few}
use Rattle.hub_laws.specs.Limits.{all_starts}
use Rattle.hub_core.specs.HubView.{HubView, ShortInMemory, Steps, Refuses, with_entry, state_of}
use Rattle.hub_core.specs.Looks.{look_at, counts_of}
use Rattle.hub_chapters.specs.Alike.{afresh}
use Rattle.hub_chapters.specs.Carried.{base_count, received_count}
use Rattle.hub_chapters.specs.Checkpoint.{checkpoint, most_steps}
use Rattle.hub_chapters.specs.Chapters.{AreLegal, Chapters, last_chapter, history}
use Rattle.hub_chapters.specs.Chapters.Chapters.{First, Cut}
use Rattle.hub_chapters.proofs.Buffers.{Like, cap-like, closed-like, length-like, at-like}
use Rattle.hub_chapters.proofs.Steps.{refusal-like}
use Rattle.hub_chapters.proofs.Checkpoints.{checkpoint-law}
use Rattle.hub_chapters.proofs.Chapters.{last-alike, chapters-law}
use Rattle.hub_chapters.proofs.Counts.{carried-law}
use Rattle.hub_cut.specs.declared.limits.TheConstants.{CHAPTER_BYTES, MOST_KEEP, MOST_LINE_BYTES}
use Rattle.hub_cut.specs.declared.recorder.Recorder.TheInside.{Inside}
use Rattle.hub_cut.specs.RecorderKeeps.{RecorderKeeps, shown}
use Rattle.hub_cut.specs.ChapterText.{most_line, counted, counted_in}
use Rattle.hub_cut.specs.Cut.{CutsAndSteps, IsCut, Refused}
use Rattle.hub_cut.specs.Totals.{in_64_bits, totals_of, totals_at, with_base}
use Rattle.hub_cut.specs.Recorder.{FitTexts, GoesOn, IsRecorder, IsShort, RecorderView, Records, RecordsStep, RefusesStep, head_of_all, is_full}
use Rattle.hub_cut.specs.Recorder.{last_checkpoint, least_of, since_cut, with_next, hub_in, IsKeep, chapter_out, begins, out_or}
use Rattle.hub_cut.proofs.ChapterTexts.{checkpoint-no_start, counted_in-append, counts_longer, starts-append, text_fits}

-- The last chapter, and the history

-- it has the steps of its checkpoint, and what came behind that
chapter_steps : (h : Head) (chapters : Chapters) → steps_of (last_chapter h chapters) ≡ steps_of (last_checkpoint h chapters) + steps_of (since_cut chapters)
chapter_steps h (First es) = omega arith
chapter_steps h (Cut chapters later) = steps-append (checkpoint (state h (last_chapter h chapters))) later

checkpoint_few : (h : Head) (chapters : Chapters) → steps_of (last_checkpoint h chapters) ≤ most_steps h
checkpoint_few h (First es) = omega arith
checkpoint_few h (Cut chapters later) = (checkpoint-law h (last_chapter h chapters)).few_steps

pub recorder_checkpoint : (r : RecorderView) → IsRecorder r → r.checkpoint ≤ most_steps (head_of_all r)
recorder_checkpoint r (chapters, so) = omega (arith, so.checkpoint, checkpoint_few (head_of_all r) chapters)

-- how many steps a chapter may have behind its checkpoint
least_kept : (keep checkpoint : ℕ) → keep ≤ least_of keep checkpoint
least_kept keep checkpoint = grind arith

least_within : (keep checkpoint most : ℕ) → keep ≤ most → 2 * checkpoint ≤ most → least_of keep checkpoint ≤ most
least_within keep checkpoint most a b = grind arith

-- its starts all came behind that
chapter_starts : (h : Head) (chapters : Chapters) → length (all_starts (last_chapter h chapters)) ≤ steps_of (since_cut chapters)
chapter_starts h (First es) = starts-few es
chapter_starts h (Cut chapters later) =
    let s : State = state h (last_chapter h chapters) in
    omega (arith, starts-append (checkpoint s) later, checkpoint-no_start s, starts-few later)

-- it is legal
last_legal : (h : Head) (chapters : Chapters) → AreLegal h chapters → IsLegal h (last_chapter h chapters)
last_legal h (First es) legal = legal
last_legal h (Cut chapters later) legal = legal.1

pub recorder_legal : (r : RecorderView) → IsRecorder r → IsLegal (head_of_all r) r.hub.journal
recorder_legal r (chapters, so) = subst (IsLegal (head_of_all r)) (sym so.present) (last_legal (head_of_all r) chapters so.legal)

pub recorder_fresh : (r : RecorderView) → IsHead (head_of_all r) → IsKeep r.keep → IsRecorder r → r.fresh ≤ MOST_KEEP
recorder_fresh r head keep (chapters, so) =
    let few = recorder_checkpoint r (chapters, so) in
    omega (arith, so.few, least_within r.keep r.checkpoint MOST_KEEP keep.1 (omega (arith, few, head.1)))

pub recorder_short : (r : RecorderView) → IsRecorder r → AreOf (head_of_all r).edition r.hub.journal → IsShort r
recorder_short r (chapters, so) fits =
    let h : Head = head_of_all r in
    let legal : IsLegal h r.hub.journal = recorder_legal r (chapters, so) in
    let law = limits-law h r.hub.journal in
    let exits : length r.hub.journal ≤ steps_of r.hub.journal + h.procs + length (all_starts r.hub.journal) =
    subst (λ (j : List Entry). length j ≤ steps_of j + h.procs + length (all_starts j)) legal law.length in
    record {
      checkpoint = recorder_checkpoint r (chapters, so);
      few = omega (arith, exits, ap steps_of so.present, chapter_steps h chapters, so.checkpoint, so.fresh, so.few);
      starts = omega (arith, ap (λ (j : List Entry). length (all_starts j)) so.present, chapter_starts h chapters, so.fresh, so.few);
      none = λ old. subst (λ (j : List Entry). all_starts j ≡ []) legal (law.none old fits);
    }

-- its two chapters have texts that a reader takes
pub recorder_texts : (r : Inside) → RecorderKeeps r → FitTexts (shown r)
recorder_texts r k = (text_fits (hub_in r.present.hub) r.bytes k.head (recorder_legal (shown r) k.recorder) k.lines k.bytes, k.text_before)

-- a process is refused in both for the same
pub refused_alike : (h : Head) (chapters : Chapters) (journal : List Entry) (pid : Pid) → journal ≡ last_chapter h chapters →
    refusal (state h journal) pid ≡ refusal (state h (history chapters)) pid
refused_alike h chapters journal pid is =
    ap (λ j. refusal (state h j) pid) is ∙ refusal-like (state h (last_chapter h chapters)) (state h (history chapters)) pid (last-alike h chapters)

-- and an entry tells the same
pub told_alike : (h : Head) (chapters : Chapters) (journal : List Entry) (e : Entry) → journal ≡ last_chapter h chapters →
    (moves (state h journal) e).events ≡ (moves (state h (history chapters)) e).events
told_alike h chapters journal e is =
    ap (λ j. (moves (state h j) e).events) is
    ∙ sym (append-nil (moves (state h (last_chapter h chapters)) e).events)
    ∙ ((chapters-law h chapters).goes_on (e ∷ [])).events
    ∙ append-nil (moves (state h (history chapters)) e).events

pub history_next : (b : Bool) (chapters : Chapters) (e : Entry) → history (with_next b chapters e) ≡ history chapters ++ e ∷ []
history_next true chapters e = refl
history_next false (First es) e = refl
history_next false (Cut chapters later) e = sym (append_assoc (history chapters) later (e ∷ []))

-- A step without a cut

-- the recorder with this entry in its present chapter
abbrev pub with_fresh : RecorderView → Entry → RecorderView
with_fresh r e = record r { hub = with_entry e r.hub; fresh = r.fresh + one_step e; bytes = r.bytes + counted e }

one_more : (n : ℕ) (es : List Entry) (e : Entry) → n ≡ steps_of es → n + one_step e ≡ steps_of (es ++ e ∷ [])
one_more n es e is = omega (arith, is, steps-append es (e ∷ []))

more_bytes : (n : ℕ) (es : List Entry) (e : Entry) → n ≡ counted_in es → n + counted e ≡ counted_in (es ++ e ∷ [])
more_bytes n es e is = omega (arith, is, counted_in-append es (e ∷ []))

below_least : (least fresh bytes : ℕ) → (nat_le least fresh || nat_le CHAPTER_BYTES bytes) ≡ false → (fresh < least) × (bytes < CHAPTER_BYTES)
below_least least fresh bytes h = (grind arith, grind arith)

-- a step that begins no chapter, and is no exit, finds room
pub room_of : (r : RecorderView) (step : Step) → begins r step ≡ false → is_exit step ≡ false →
    (r.fresh < least_of r.keep r.checkpoint) × (r.bytes < CHAPTER_BYTES)
room_of r step none is = below_least (least_of r.keep r.checkpoint) r.fresh r.bytes (subst (λ b. (not b && is_full r) ≡ false) is none)

no_exit : (b full : Bool) → (not b && full) ≡ true → (b ≡ false) × (full ≡ true)
no_exit true full is = absurd (let g : ⊥ = cc in g)
no_exit false full is = (refl, is)

-- one that begins a chapter is no exit, and the present one is full
pub begins_full : (r : RecorderView) (step : Step) → begins r step ≡ true → (is_exit step ≡ false) × (is_full r ≡ true)
begins_full r step is = no_exit (is_exit step) (is_full r) is

-- what counts stays within what a chapter may have
within : (b : Bool) (n most : ℕ) → n ≤ most → (b ≡ false → n < most) → n + cond b 0 1 ≤ most
within true n most few room = omega (arith, few)
within false n most few room = omega (arith, room refl)

bytes_within : (b : Bool) (n m few most : ℕ) → n < few + most → m ≤ most → (b ≡ false → n < few) → n + cond b 0 m < few + most
bytes_within true n m few most below small room = omega (arith, below)
bytes_within false n m few most below small room = omega (arith, small, room refl)

pub bytes_below : (r : RecorderView) (e : Entry) (bytes most : ℕ) → bytes ≡ counted e → bytes ≤ most → r.bytes < CHAPTER_BYTES + most →
    begins r e.step ≡ false → r.bytes + bytes < CHAPTER_BYTES + most
bytes_below r e bytes most is small below none = by (is_exit e.step) refl
  where
    by : (b : Bool) → is_exit e.step ≡ b → r.bytes + bytes < CHAPTER_BYTES + most
    by true exit =
        let zero : bytes ≡ 0 = is ∙ ap (λ b. cond b 0 (most_line e)) exit in
        omega (arith, zero, below)
    by false exit = omega (arith, small, (room_of r e.step none exit).1)

pub records_next : (chapters : Chapters) (r : RecorderView) (e : Entry) → Records chapters r → refusal (state_of r.hub) e.pid ≡ None →
    begins r e.step ≡ false →
    Records (with_next false chapters e) (with_fresh r e)
records_next (First es) r e so admitted room =
    let h : Head = head_of_all r in
    record {
      legal = (begins-law h es []).goes_on e so.legal (subst (λ j. refusal (state h j) e.pid ≡ None) so.present admitted);
      present = ap (λ j. j ++ e ∷ []) so.present;
      before = so.before;
      checkpoint = so.checkpoint;
      fresh = one_more r.fresh es e so.fresh;
      bytes = more_bytes r.bytes es e so.bytes;
      few = within (is_exit e.step) r.fresh (least_of r.keep r.checkpoint) so.few (λ exit. (room_of r e.step room exit).0);
      full = λ waited. tt;
      bases = so.bases;
    }
records_next (Cut chapters later) r e so admitted room =
    let h : Head = head_of_all r in
    let first : List Entry = checkpoint (state h (last_chapter h chapters)) in
    record {
      legal = (
        so.legal.0,
        subst (IsLegal h) (append_assoc first later (e ∷ []))
            ((begins-law h (first ++ later) []).goes_on e so.legal.1 (subst (λ j. refusal (state h j) e.pid ≡ None) so.present admitted)),
      );
      present = ap (λ j. j ++ e ∷ []) so.present ∙ append_assoc first later (e ∷ []);
      before = so.before;
      checkpoint = so.checkpoint;
      fresh = one_more r.fresh later e so.fresh;
      bytes = more_bytes r.bytes later e so.bytes;
      few = within (is_exit e.step) r.fresh (least_of r.keep r.checkpoint) so.few (λ exit. (room_of r e.step room exit).0);
      full = so.full;
      bases = so.bases;
    }

-- the same, where the counts are known
pub records_counted : (chapters : Chapters) (r : RecorderView) (e : Entry) (new : HubView) (fresh bytes : ℕ) → Records chapters r
    → refusal (state_of r.hub) e.pid ≡ None → begins r e.step ≡ false → new ≡ with_entry e r.hub → fresh ≡ r.fresh + one_step e
    → bytes ≡ r.bytes + counted e
    → Records (with_next false chapters e) (record r { hub = new; fresh = fresh; bytes = bytes })
records_counted chapters r e new fresh bytes so admitted room is steps more = rw (is, steps, more) (records_next chapters r e so admitted room)

-- an entry that is no exit counts, and an exit does not
pub one_counts : (e : Entry) (n m l : ℕ) → is_exit e.step ≡ false → l ≡ most_line e → (n + 1 ≡ n + one_step e) × (m + l ≡ m + counted e)
one_counts e n m l is long =
    (ap (λ b. n + cond b 0 1) (sym is), ap (λ k. m + k) long ∙ ap (λ b. m + cond b 0 (most_line e)) (sym is))

pub none_counts : (e : Entry) (n m : ℕ) → is_exit e.step ≡ true → (n ≡ n + one_step e) × (m ≡ m + counted e)
none_counts e n m is =
    let zero : n ≡ n + 0 = omega arith in
    let none : m ≡ m + 0 = omega arith in
    (zero ∙ ap (λ b. n + cond b 0 1) (sym is), none ∙ ap (λ b. m + cond b 0 (most_line e)) (sym is))

-- what the step does to the history
goes_on_as : (r new : RecorderView) (e : Entry) (told : List Event) (chapters : Chapters) → Records chapters r → refusal (state_of r.hub) e.pid ≡ None
    → told ≡ (moves (state_of r.hub) e).events → Records (with_next (begins r e.step) chapters e) new → GoesOn r chapters e new told
goes_on_as r new e told chapters so admitted events records = record {
  admitted = sym (refused_alike (head_of_all r) chapters r.hub.journal e.pid so.present) ∙ admitted;
  events = events ∙ told_alike (head_of_all r) chapters r.hub.journal e so.present;
  history = history_next (begins r e.step) chapters e;
  records = records;
}

pub goes_next : (r : RecorderView) (e : Entry) (told : List Event) (new : HubView) (fresh bytes : ℕ) → begins r e.step ≡ false
    → Steps r.hub e new told → fresh ≡ r.fresh + one_step e → bytes ≡ r.bytes + counted e
    → RecordsStep r e (record r { hub = new; fresh = fresh; bytes = bytes }) told
goes_next r e told new fresh bytes full s steps more = record {
  goes_on = λ chapters so. goes_on_as r _ e told chapters so s.admitted s.events
      (rw full (records_counted chapters r e new fresh bytes so s.admitted full s.journal steps more));
  terms = ap (λ (x : HubView). x.terms) s.journal;
  keep = refl;
  early = rw full refl;
}

few_counted : (e : Entry) (l : ℕ) → l ≡ most_line e → l ≤ MOST_LINE_BYTES → counted e ≤ MOST_LINE_BYTES
few_counted e l long few = by (is_exit e.step)
  where
    by : (b : Bool) → cond b 0 (most_line e) ≤ MOST_LINE_BYTES
    by true = omega arith
    by false = omega (arith, long, few)

-- what a recorder keeps, with such an entry more
pub keeps_next : (r : Inside) (e : Entry) (hub : ShortInMemory) (told : List Event) (fresh bytes : ℕ) (edition : Edition) {most : ℕ} → RecorderKeeps r
    → begins (shown r) e.step ≡ false → Steps (hub_in r.present.hub) e (hub_in hub) told → fresh ≡ r.fresh + one_step e → bytes ≡ r.bytes + counted e
    → Fits edition e → most ≡ most_line e → most ≤ MOST_LINE_BYTES
    → RecorderKeeps (record r { present = record r.present { hub = hub }; fresh = fresh; bytes = bytes })
keeps_next r e hub told fresh bytes edition {most} k room s steps more fits is few =
    let terms = ap (λ (h : HubView). h.terms) s.journal in
    record {
      head = rw terms k.head;
      limit = rw terms k.limit;
      keep = k.keep;
      recorder = (
        with_next false k.recorder.0 e,
        records_counted k.recorder.0 (shown r) e (hub_in hub) fresh bytes k.recorder.1 s.admitted room s.journal steps more,
      );
      lines = rw (ap (λ (h : HubView). h.journal) s.journal, more) (counts_longer (hub_in r.present.hub).journal e edition r.bytes fits k.lines);
      bytes = rw more (bytes_below (shown r) e (counted e) MOST_LINE_BYTES refl (few_counted e most is few) k.bytes room);
      text_before = k.text_before;
    }

-- A step behind a cut

saturated : (a b x y top : ℕ) → x ≡ min a top → y ≡ min (x + b) top → y ≡ min (a + b) top
saturated a b x y top e f = grind (arith, e, f)

-- the recorder once it is cut, with so much behind the checkpoint
abbrev after_cut : RecorderView → HubView → ℕ → ℕ → ℕ → Bool → List ℕ → RecorderView
after_cut r new checkpoint fresh bytes early bases = record {
  hub = new;
  before = Some r.hub;
  keep = r.keep;
  checkpoint = checkpoint;
  fresh = fresh;
  bytes = bytes;
  early = early;
  bases = bases;
}

pub records_cut : (chapters : Chapters) (r : RecorderView) (e : Entry) (new : HubView) (count : ℕ) (told : List Event) (bases : List ℕ) →
    Records chapters r → begins r e.step ≡ true → 1 ≤ r.keep → CutsAndSteps r.hub e new told → count ≡ steps_of (checkpoint (state_of r.hub)) →
    ((p : Port) → p.0 ≤ MOST_PORTS → slice_index bases p.0 ≡ in_64_bits (slice_index r.bases p.0 + received_count (state_of r.hub) p)) →
    Records (Cut chapters (e ∷ [])) (after_cut r new count 1 (most_line e) false bases)
records_cut chapters r e new count told bases so step some s counted added =
    let h : Head = head_of_all r in
    let first : List Entry = checkpoint (state_of r.hub) in
    let same : first ≡ checkpoint (state h (last_chapter h chapters)) = ap (λ j. checkpoint (state h j)) so.present in
    let law = checkpoint-law h r.hub.journal in
    let admitted : refusal (state h first) e.pid ≡ None =
    refusal-like (state h first) (state_of r.hub) e.pid law.alike ∙ s.admitted in
    let legal : IsLegal h (first ++ e ∷ []) = (begins-law h first []).goes_on e law.legal admitted in
    let full = begins_full r e.step step in
    let one : steps_of (e ∷ []) ≡ 1 = ap (λ b. cond b 0 1 + 0) full.0 in
    let weight : counted_in (e ∷ []) ≡ most_line e = ap (λ b. cond b 0 (most_line e) + 0) full.0
    ∙ (let z : most_line e + 0 ≡ most_line e = omega arith in z) in
    rw s.terms (record {
      legal = (so.legal, subst (λ j. IsLegal h (j ++ e ∷ [])) same legal);
      present = s.journal ∙ ap (λ j. j ++ e ∷ []) same;
      before = ap (λ j. Some (let j : JournalView = record { head = h; entries = j } in j)) so.present;
      checkpoint = counted ∙ ap steps_of same;
      fresh = sym one;
      bytes = sym weight;
      few = omega (arith, some, least_kept r.keep count);
      full = λ waited. rw (← so.checkpoint, ← so.fresh, ← so.bytes) full.1;
      bases = λ p few. saturated (base_count h chapters p) (received_count (state h (last_chapter h chapters)) p) (slice_index r.bases p.0)
          (slice_index bases p.0) (2 ^ 64 - 1) (so.bases p few)
          (added p few ∙ ap (λ j. in_64_bits (slice_index r.bases p.0 + received_count (state h j) p)) so.present);
    })

pub goes_cut : (r : RecorderView) (e : Entry) (new : HubView) (count : ℕ) (told : List Event) (bases : List ℕ) → begins r e.step ≡ true → 1 ≤ r.keep →
    CutsAndSteps r.hub e new told → count ≡ steps_of (checkpoint (state_of r.hub)) →
    ((p : Port) → p.0 ≤ MOST_PORTS → slice_index bases p.0 ≡ in_64_bits (slice_index r.bases p.0 + received_count (state_of r.hub) p)) →
    RecordsStep r e (after_cut r new count 1 (most_line e) false bases) told
goes_cut r e new count told bases full some s counted added = record {
  goes_on = λ chapters so. goes_on_as r _ e told chapters so s.admitted s.events
      (rw full (records_cut chapters r e new count told bases so full some s counted added));
  terms = s.terms;
  keep = refl;
  early = rw full refl;
}

-- A cut that is asked for

pub records_early : (chapters : Chapters) (r : RecorderView) (new : HubView) (count : ℕ) (bases : List ℕ) → Records chapters r → IsCut r.hub new →
    count ≡ steps_of (checkpoint (state_of r.hub)) →
    ((p : Port) → p.0 ≤ MOST_PORTS → slice_index bases p.0 ≡ in_64_bits (slice_index r.bases p.0 + received_count (state_of r.hub) p)) →
    Records (Cut chapters []) (after_cut r new count 0 0 true bases)
records_early chapters r new count bases so cut counted added =
    let h : Head = head_of_all r in
    let first : List Entry = checkpoint (state_of r.hub) in
    let same : first ≡ checkpoint (state h (last_chapter h chapters)) = ap (λ j. checkpoint (state h j)) so.present in
    let law = checkpoint-law h r.hub.journal in
    let legal : IsLegal h (first ++ []) = subst (IsLegal h) (sym (append-nil first)) law.legal in
    rw (ap (λ (x : HubView). x.terms) cut.hub) (record {
      legal = (so.legal, subst (λ j. IsLegal h (j ++ [])) same legal);
      present = ap (λ (x : HubView). x.journal) cut.hub ∙ same ∙ sym (append-nil (checkpoint (state h (last_chapter h chapters))));
      before = ap (λ j. Some (let j : JournalView = record { head = h; entries = j } in j)) so.present;
      checkpoint = counted ∙ ap steps_of same;
      fresh = refl;
      bytes = refl;
      few = omega arith;
      full = λ waited. absurd (let g : ⊥ = cc in g);
      bases = λ p few. saturated (base_count h chapters p) (received_count (state h (last_chapter h chapters)) p) (slice_index r.bases p.0)
          (slice_index bases p.0) (2 ^ 64 - 1) (so.bases p few)
          (added p few ∙ ap (λ j. in_64_bits (slice_index r.bases p.0 + received_count (state h j) p)) so.present);
    })

-- What is handed out

pub out_full : (r : RecorderView) (step : Step) → begins r step ≡ true → chapter_out r step ≡ r.before
unfolding chapter_out
out_full r step full = rw full refl

pub out_none : (r : RecorderView) (step : Step) → begins r step ≡ false → chapter_out r step ≡ None
unfolding chapter_out
out_none r step room = rw room refl

-- where nothing was there
pub handed_full : (r : RecorderView) (step : Step) (there : Option HubView) → begins r step ≡ true → there ≡ None →
    r.before ≡ out_or (chapter_out r step) there
handed_full r step there full none = rw (out_full r step full, none) (by r.before)
  where
    by : (o : Option HubView) → o ≡ out_or o None
    by None = refl
    by (Some chapter) = refl

pub handed_none : (r : RecorderView) (step : Step) (there : Option HubView) → begins r step ≡ false → there ≡ out_or (chapter_out r step) there
handed_none r step there room = rw (out_none r step room) refl

-- what holds anyway holds after a success
pub anyway : {E P : Type 0} (r : Result (Unit {0}) E) → P → OnOk r P
anyway (Ok u) p = p
anyway (Err e) p = tt

-- whether a step begins a chapter of the recorder as it lies in memory
pub begins_as : {inside seen : RecorderView} (step : Step) {b : Bool} → inside ≡ seen → begins seen step ≡ b → begins inside step ≡ b
begins_as step same is = ap (λ (r : RecorderView). begins r step) same ∙ is

-- Refusals

pub refuses_next : (r : RecorderView) (e : Entry) (f : Fault) → IsHead (head_of_all r) → r.hub.terms.limit ≡ MOST_STEPS → IsKeep r.keep →
    begins r e.step ≡ false → Refuses r.hub e f → RefusesStep r e f
refuses_next r e fault.NoProcess head limit keep room h = λ chapters so. sym (refused_alike (head_of_all r) chapters r.hub.journal e.pid so.present) ∙ h.1
refuses_next r e fault.Gone head limit keep room h = λ chapters so. sym (refused_alike (head_of_all r) chapters r.hub.journal e.pid so.present) ∙ h.1
refuses_next r e fault.Busy head limit keep room h = λ chapters so. sym (refused_alike (head_of_all r) chapters r.hub.journal e.pid so.present) ∙ h.1
refuses_next r e fault.JournalFull head limit keep room h = λ chapters so.
    let few = recorder_checkpoint r (chapters, so) in
    let least : least_of r.keep r.checkpoint ≤ MOST_KEEP =
    least_within r.keep r.checkpoint MOST_KEEP keep.1 (omega (arith, few, head.1)) in
    absurd (omega (
      arith,
      h.1,
      limit,
      few,
      ap steps_of so.present,
      chapter_steps (head_of_all r) chapters,
      so.checkpoint,
      so.fresh,
      (room_of r e.step room h.0).0,
      least,
      head.1,
    ))
refuses_next r e fault.NoMemory head limit keep room h = λ chapters so.
    (sym (refused_alike (head_of_all r) chapters r.hub.journal e.pid so.present) ∙ h.1, inr h.2)
refuses_next r e fault.TooManyCases head limit keep room h = absurd h
refuses_next r e fault.NoPort head limit keep room h = absurd h
refuses_next r e fault.BadCap head limit keep room h = absurd h
refuses_next r e fault.TooManyPorts head limit keep room h = absurd h
refuses_next r e fault.NilClose head limit keep room h = absurd h
refuses_next r e fault.AlreadyClosed head limit keep room h = absurd h
refuses_next r e fault.NotParked head limit keep room h = absurd h
refuses_next r e fault.InUse head limit keep room h = absurd h
refuses_next r e fault.NotGone head limit keep room h = absurd h

pub refuses_cut : (r : RecorderView) (e : Entry) (f : Fault) → begins r e.step ≡ true → Refused (state_of r.hub) (Unit {0}) e f → RefusesStep r e f
refuses_cut r e fault.NoProcess over h = λ chapters so. sym (refused_alike (head_of_all r) chapters r.hub.journal e.pid so.present) ∙ h
refuses_cut r e fault.Gone over h = λ chapters so. sym (refused_alike (head_of_all r) chapters r.hub.journal e.pid so.present) ∙ h
refuses_cut r e fault.Busy over h = λ chapters so. sym (refused_alike (head_of_all r) chapters r.hub.journal e.pid so.present) ∙ h
refuses_cut r e fault.NoMemory over h = λ chapters so.
    (sym (refused_alike (head_of_all r) chapters r.hub.journal e.pid so.present) ∙ h.0, inl over)
refuses_cut r e fault.JournalFull over h = absurd h
refuses_cut r e fault.TooManyCases over h = absurd h
refuses_cut r e fault.NoPort over h = absurd h
refuses_cut r e fault.BadCap over h = absurd h
refuses_cut r e fault.TooManyPorts over h = absurd h
refuses_cut r e fault.NilClose over h = absurd h
refuses_cut r e fault.AlreadyClosed over h = absurd h
refuses_cut r e fault.NotParked over h = absurd h
refuses_cut r e fault.InUse over h = absurd h
refuses_cut r e fault.NotGone over h = absurd h

-- A look

abbrev sends : Option Channel → ℕ
sends o = option_map_or (λ c. length c.sent) o 0

abbrev gets : Option Channel → ℕ
gets o = option_map_or (λ c. c.received) o 0

totals_by : (base x : ℕ) (o u : Option Channel) → option_map afresh o ≡ option_map afresh u → x ≡ in_64_bits base →
    sends u ≡ base + sends o → gets u ≡ base + gets o →
    option_map (with_base x) (option_map (λ c. record { cap = c.cap; counts = counts_of c }) o) ≡ option_map totals_of u
totals_by base x None None a is s g = refl
totals_by base x None (Some d) a is s g = absurd (let x : ⊥ = cc in x)
totals_by base x (Some c) None a is s g = absurd (let x : ⊥ = cc in x)
totals_by base x (Some c) (Some d) a is s g =
    let like : Like c d = cc in
    let sent : in_64_bits (x + length c.sent) ≡ in_64_bits (length d.sent) =
    saturated base (length c.sent) x (in_64_bits (x + length c.sent)) (2 ^ 64 - 1) is refl ∙ ap in_64_bits (sym s) in
    let got : in_64_bits (x + c.received) ≡ in_64_bits d.received =
    saturated base c.received x (in_64_bits (x + c.received)) (2 ^ 64 - 1) is refl ∙ ap in_64_bits (sym g) in
    rw (cap-like c d like, length-like c d like, closed-like c d like, sent, got) refl

look_made : (r : RecorderView) (p : Port) (chapters : Chapters) → Records chapters r → p.0 ≤ MOST_PORTS →
    option_map (with_base (slice_index r.bases p.0)) (look_at (state_of r.hub) p) ≡ totals_at (state (head_of_all r) (history chapters)) p
look_made r p chapters so few =
    let h : Head = head_of_all r in
    let law = carried-law h chapters p in
    let s : State = state h (last_chapter h chapters) in
    let t : State = state h (history chapters) in
    ap (λ j. option_map (with_base (slice_index r.bases p.0)) (look_at (state h j) p)) so.present
    ∙ totals_by (base_count h chapters p) (slice_index r.bases p.0) (channel_at s p) (channel_at t p)
    (at-like s.channels t.channels p (last-alike h chapters).channels) (so.bases p few) law.counts_sent law.counts_received

past_all : (h : Head) (es : List Entry) (p : Port) → MOST_PORTS < p.0 → channel_at (state h es) p ≡ None
past_all h es p over =
    let most = ports-law h es in
    let some : (p.0 == 0) ≡ false = grind arith in
    rw some (slice_get_past (state h es).channels (p.0 - 1) (omega (arith, most, over)))

-- a look at the last chapter, with what was received before it, shows what the whole history gives
pub look_all : (r : RecorderView) (p : Port) (chapters : Chapters) → Records chapters r →
    option_map (with_base (slice_index r.bases p.0)) (look_at (state_of r.hub) p) ≡ totals_at (state (head_of_all r) (history chapters)) p
look_all r p chapters so = by (nat_lt MOST_PORTS p.0) refl
  where
    by : (b : Bool) → nat_lt MOST_PORTS p.0 ≡ b → option_map (with_base (slice_index r.bases p.0)) (look_at (state_of r.hub) p)
        ≡ totals_at (state (head_of_all r) (history chapters)) p
    by true over =
        let over : MOST_PORTS < p.0 = grind arith in
        ap (λ (o : Option Channel). option_map (with_base (slice_index r.bases p.0)) (option_map (λ c. record { cap = c.cap; counts = counts_of c }) o))
        (past_all (head_of_all r) r.hub.journal p over)
        ∙ ap (option_map totals_of) (sym (past_all (head_of_all r) (history chapters) p over))
    by false below = look_made r p chapters so (grind arith)
