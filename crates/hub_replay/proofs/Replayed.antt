-- How one more entry goes on from what the entries before it have led to.
use Rattle.std.proofs.Common.{◌≡◌, ℕ, ◌*◌, ◌≤◌, Bool, true, false, List, [], ◌∷◌, ◌++◌, length, refl, sym, ap}
use Rattle.std.proofs.Common.{subst, ◌∙◌, append_assoc, append-nil, arith, Some, length-append}
use Rattle.std.proofs.lemmas.Grind.{flat_map-append}
use Rattle.std.specs.List.{flat_map}
use Rattle.hub_base.specs.declared.head.Head.{Head}
use Rattle.hub_base.specs.Entry.{Entry}
use Rattle.hub_base.specs.declared.event.Event.{Event}
use Rattle.hub_base.specs.declared.limits.TheConstants.{MOST_EVENTS}
use Rattle.hub_base.specs.EventText.{event_line}
use Rattle.hub_text.specs.Reader.{ReaderView, Continues}
use Rattle.hub_base.specs.Reading.{Reading, Reads, Faulty, read_text, with_entry, behind}
use Rattle.hub_base.specs.Runs.{moves, state_after, state, events_after, events}
use Rattle.hub_base.specs.State.{State, opening}
use Rattle.hub_base.specs.Text.{IsText}
use Rattle.hub_core.specs.Follows.{Follows, Answers}
use Rattle.hub_core.specs.Records.{MachineLists}
use Rattle.hub_replay.specs.Replay.{event_lines}
use Rattle.hub_replay.specs.Replayed.{Replayed, ReplayedWhole, ReplayedMore, ReplayedRest, GoesOn}
use Rattle.hub_replay.proofs.Newlines.{lines-few}

behind-more : (es : List Entry) (e : Entry) (r : Reading) → behind es (with_entry e r) ≡ behind (es ++ e ∷ []) r
behind-more es e (Reads head fs) = ap (Reads head) (sym (append_assoc es (e ∷ []) fs))
behind-more es e (Faulty k kind) = refl

-- one more entry gives its events at the end
events_after-more : (s : State) (es : List Entry) (e : Entry) → events_after s (es ++ e ∷ []) ≡ events_after s es ++ (moves (state_after s es) e).events
events_after-more s [] e = append-nil (moves s e).events
events_after-more s (f ∷ es) e =
    ap (λ xs. (moves s f).events ++ xs) (events_after-more (moves s f).state es e)
    ∙ sym (append_assoc (moves s f).events (events_after (moves s f).state es) (moves (state_after (moves s f).state es) e).events)

pub event_lines-more : (head : Head) (es : List Entry) (e : Entry)
    → event_lines head (es ++ e ∷ []) ≡ event_lines head es ++ flat_map event_line (moves (state head es) e).events
event_lines-more head es e = ap (flat_map event_line) (events_after-more (opening head) es e)
    ∙ flat_map-append event_line (events head es) (moves (state head es) e).events

-- each entry has at most `MOST_EVENTS` events
few-more : (head : Head) (es : List Entry) (e : Entry) → length (events head es) ≤ MOST_EVENTS * length es
    → length (moves (state head es) e).events ≤ MOST_EVENTS → length (events head (es ++ e ∷ [])) ≤ MOST_EVENTS * length (es ++ e ∷ [])
few-more head es e few one =
    let all = ap length (events_after-more (opening head) es e) in
    let sum = length-append (events head es) (moves (state head es) e).events in
    let more = length-append es (e ∷ []) in
    omega (arith, few, one, all, sum, more)

module _ {bytes text : List ℕ} {old : ReaderView} {machine : MachineLists} (so_far : Replayed bytes text old machine) where
  -- the reader gave one more entry, and the machine made its step
  pub one-more-replayed : {new : ReaderView} {machine' : MachineLists} (e : Entry) (told : List Event) → Continues old new (Some e) →
      Answers old.head so_far.entries e machine' told → length told ≤ MOST_EVENTS →
      Replayed bytes (text ++ flat_map event_line told) new machine'
  one-more-replayed {new} {machine'} e told goes answers one =
      let head : old.head ≡ new.head = sym goes.1 in
      let P : Head → Type 0 = λ head. Follows head (so_far.entries ++ e ∷ []) machine' in
      let Q : Head → Type 0 = λ head. length (events head (so_far.entries ++ e ∷ [])) ≤ MOST_EVENTS * length (so_far.entries ++ e ∷ []) in
      record {
        entries = so_far.entries ++ e ∷ [];
        said = so_far.said ∙ ap (behind so_far.entries) goes.0 ∙ behind-more so_far.entries e new.left;
        follows = subst P head answers.follows;
        told = ap (λ xs. xs ++ flat_map event_line told) so_far.told
            ∙ ap (λ es. event_lines old.head so_far.entries ++ flat_map event_line es) answers.events
            ∙ sym (event_lines-more old.head so_far.entries e) ∙ ap (λ head. event_lines head (so_far.entries ++ e ∷ [])) head;
        few = subst Q head (few-more old.head so_far.entries e so_far.few (let same = ap length answers.events in omega (arith, same, one)));
      }

  -- the reader gave no more entry: this is the event text of the whole journal
  pub all-replayed : ((head : Head) (es : List Entry) → read_text bytes ≡ Reads head es → IsText bytes head es)
      → old.left ≡ Reads old.head [] → ReplayedWhole bytes text
  all-replayed reads ends =
      let spelled : IsText bytes old.head so_far.entries = reads old.head so_far.entries
      (so_far.said ∙ ap (behind so_far.entries) ends ∙ ap (Reads old.head) (append-nil so_far.entries)) in
      record {
        is = record { head = old.head; entries = so_far.entries; spelled = spelled; lines = so_far.told };
        lines = lines-few so_far.told so_far.few spelled;
      }

-- there was a step more
pub replayed-more : {bytes text old new : List ℕ} (reader : ReaderView) (machine : MachineLists) {more : Bool} → more ≡ true
    → GoesOn bytes text reader machine old new more → ReplayedMore bytes text reader machine old new
replayed-more {bytes} {text} {old} {new} reader machine some goes = subst (λ (b : Bool). GoesOn bytes text reader machine old new b) some goes

-- there was none
pub rest-replayed : {bytes text old new : List ℕ} (reader : ReaderView) (machine : MachineLists) {more : Bool} → more ≡ false
    → GoesOn bytes text reader machine old new more → ReplayedRest bytes text old new
rest-replayed {bytes} {text} {old} {new} reader machine none goes = subst (λ (b : Bool). GoesOn bytes text reader machine old new b) none goes

-- before any step nothing is written
pub none-replayed : {bytes text lines : List ℕ} {reader : ReaderView} {machine : MachineLists} → Replayed bytes text reader machine
    → ReplayedMore bytes text reader machine lines lines
none-replayed {bytes} {text} {lines} {reader} {machine} so = record {
  more = [];
  written = sym (append-nil lines);
  replayed = subst (λ (t : List ℕ). Replayed bytes t reader machine) (sym (append-nil text)) so;
}

-- steps behind others
pub more-replayed : {bytes text old mid new : List ℕ} {reader reader' : ReaderView} {machine machine' : MachineLists}
    (so : ReplayedMore bytes text reader machine old mid) → ReplayedMore bytes (text ++ so.more) reader' machine' mid new
    → ReplayedMore bytes text reader' machine' old new
more-replayed {bytes} {text} {old} {mid} {new} {reader} {reader'} {machine} {machine'} so then = record {
  more = so.more ++ then.more;
  written = then.written ∙ ap (λ l. l ++ then.more) so.written ∙ append_assoc old so.more then.more;
  replayed = subst (λ (t : List ℕ). Replayed bytes t reader' machine') (append_assoc text so.more then.more) then.replayed;
}

-- the last ones behind others
pub rest-more-replayed : {bytes text old mid new : List ℕ} {reader : ReaderView} {machine : MachineLists}
    (so : ReplayedMore bytes text reader machine old mid) → ReplayedRest bytes (text ++ so.more) mid new → ReplayedRest bytes text old new
rest-more-replayed {bytes} {text} {old} {mid} {new} {reader} {machine} so then = record {
  more = so.more ++ then.more;
  written = then.written ∙ ap (λ l. l ++ then.more) so.written ∙ append_assoc old so.more then.more;
  whole = subst (λ (t : List ℕ). ReplayedWhole bytes t) (append_assoc text so.more then.more) then.whole;
}
