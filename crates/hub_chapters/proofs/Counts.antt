-- What a port has carried in all: values and counts, across cuts.
use Rattle.hub_laws.proofs.Prelude.{◌≡◌, List, [], ◌∷◌, ◌++◌, refl, ap, ◌∙◌, sym, subst, Option, Some, None, length, arith, append_assoc, append-nil}
use Rattle.hub_laws.proofs.Prelude.{option_map, option_map_or, take-append-drop, length-append}
use Rattle.hub_laws.proofs.Prelude.{Entry, Event, Head, Port, Value, Channel, State, moves, state, state_after, opening, refusal, buffer_of}
use Rattle.hub_laws.proofs.Prelude.{channel_at, IsSound}
use Rattle.hub_laws.proofs.Prelude.{port_touched, got_at, received_on, received_from, sent_values, received_values}
use Rattle.std.proofs.lemmas.List.{length-take-le}
use Rattle.hub_base.specs.Notation.{exit}
use Rattle.hub_laws.proofs.Deeds.{at}
use Rattle.hub_laws.proofs.Kept.{sound-opening}
use Rattle.hub_laws.proofs.Lasting.{head-after}
use Rattle.hub_laws.proofs.Received.{moves-received, received_values-law}
use Rattle.hub_laws.proofs.Rules.{moves-sound, state-sound}
use Rattle.hub_laws.proofs.Values.{sent-after, no_total}
use Rattle.hub_chapters.specs.Alike.{afresh, Alike}
use Rattle.hub_chapters.specs.Chapters.{Chapters, last_chapter, history}
use Rattle.hub_chapters.specs.Chapters.Chapters.{First, Cut}
use Rattle.hub_chapters.specs.Carried.{carried, sent_count, received_count, base_count, CarriedLaw}
use Rattle.hub_chapters.specs.Checkpoint.{checkpoint}
use Rattle.hub_chapters.proofs.Buffers.{at-afresh, at-like}
use Rattle.hub_chapters.proofs.Chapters.{next_checkpoint, last-alike, cut-alike, state-append}
use Rattle.hub_chapters.proofs.Checkpoints.{renewed, reached, checkpoint-leads}
use Rattle.hub_chapters.proofs.Leading.{Leads}
use Rattle.hub_chapters.proofs.Steps.{moves-like}

-- Values that are received

-- those that these entries tell as got on the port
got_since : State → List Entry → Port → List Value
got_since s [] p = []
got_since s (e ∷ es) p = got_at (port_touched e.step (moves s e).events) (moves s e).events p ++ got_since (moves s e).state es p

got_after : (s : State) (es : List Entry) (p : Port) → IsSound s → received_on (state_after s es) p ≡ received_on s p ++ got_since s es p
unfolding got_since
got_after s [] p sound = sym (append-nil (received_on s p))
got_after s (e ∷ es) p sound =
    let now : List Value = got_at (port_touched e.step (moves s e).events) (moves s e).events p in
    got_after (moves s e).state es p (moves-sound s e sound)
    ∙ ap (λ xs. xs ++ got_since (moves s e).state es p) (moves-received s e (refusal s e.pid) p sound)
    ∙ append_assoc (received_on s p) now (got_since (moves s e).state es p)

got_like : (s t : State) (es : List Entry) (p : Port) → IsSound s → IsSound t → Alike s t → got_since s es p ≡ got_since t es p
unfolding got_since
got_like s t [] p sound sound' a = refl
got_like s t (e ∷ es) p sound sound' a =
    let one = moves-like s t e sound sound' a in
    ap (λ (xs : List Event). got_at (port_touched e.step xs) xs p ++ got_since (moves s e).state es p) one.events
    ∙ ap (λ xs. got_at (port_touched e.step (moves t e).events) (moves t e).events p ++ xs)
    (got_like (moves s e).state (moves t e).state es p (moves-sound s e sound) (moves-sound t e sound') one.alike)

got_told : (h : Head) (es : List Entry) (p : Port) → received_on (state h es) p ≡ received_values h es p
got_told h es p = (received_values-law h es (exit 0)).told p

-- by a run that goes on
got_then : (h : Head) (es later : List Entry) (p : Port) → received_values h (es ++ later) p ≡ received_values h es p ++ got_since (state h es) later p
got_then h es later p =
    sym (got_told h (es ++ later) p)
    ∙ ap (λ (x : State). received_on x p) (state-append h es later)
    ∙ got_after (state h es) later p (state-sound h es)
    ∙ ap (λ xs. xs ++ got_since (state h es) later p) (got_told h es p)

-- none in a checkpoint
none_renewed : (s : State) (p : Port) → received_on (renewed s) p ≡ []
none_renewed s p = ap (λ o. option_map_or received_from o []) (at-afresh s.channels p) ∙ by (at s.channels p)
  where
    by : (o : Option Channel) → option_map_or received_from (option_map afresh o) [] ≡ []
    by None = refl
    by (Some c) = refl

none_got : (h : Head) (es : List Entry) (p : Port) → received_values h (checkpoint (state h es)) p ≡ []
none_got h es p =
    let s : State = state h es in
    let leads : Leads (opening h) (checkpoint s) (renewed s) =
    subst (λ (x : Head). Leads (opening x) (checkpoint s) (renewed s)) (head-after (opening h) es) (checkpoint-leads s (reached h es)) in
    sym (got_told h (checkpoint s) p) ∙ ap (λ (x : State). received_on x p) leads.there ∙ none_renewed s p

all_got : (h : Head) (c : Chapters) (p : Port) → received_values h (history c) p ≡ carried h c p ++ received_values h (last_chapter h c) p
all_got h (First es) p = refl
all_got h (Cut c later) p =
    let cp : List Entry = next_checkpoint h c in
    let like : got_since (state h (history c)) later p ≡ got_since (state h cp) later p =
    sym (got_like (state h cp) (state h (history c)) later p (state-sound h cp) (state-sound h (history c)) (cut-alike h c)) in
    let chapter : received_values h (cp ++ later) p ≡ got_since (state h cp) later p =
    got_then h cp later p ∙ ap (λ xs. xs ++ got_since (state h cp) later p) (none_got h (last_chapter h c) p) in
    got_then h (history c) later p
    ∙ ap (λ xs. xs ++ got_since (state h (history c)) later p) (all_got h c p)
    ∙ ap (λ xs. (carried h c p ++ received_values h (last_chapter h c) p) ++ xs) (like ∙ sym chapter)

-- Values that are sent: those that were received, and then the buffer

abbrev sent_in : State → Port → List Value
sent_in s p = option_map_or (λ c. c.sent) (channel_at s p) []

abbrev buffered_in : State → Port → List Value
buffered_in s p = option_map_or (λ c. buffer_of c) (channel_at s p) []

sent_told : (h : Head) (es : List Entry) (p : Port) → sent_in (state h es) p ≡ sent_values h es p
sent_told h es p =
    sent-after (opening h) [] es p (sound-opening h) tt ∙ ap (λ xs. xs ++ sent_values h es p) (no_total (λ c. c.sent) p)

sent_splits : (o : Option Channel) → option_map_or received_from o [] ++ option_map_or (λ c. buffer_of c) o [] ≡ option_map_or (λ c. c.sent) o []
sent_splits None = refl
sent_splits (Some c) = take-append-drop c.received c.sent

sent_parts : (h : Head) (es : List Entry) (p : Port) → sent_values h es p ≡ received_values h es p ++ buffered_in (state h es) p
sent_parts h es p =
    sym (sent_told h es p)
    ∙ sym (sent_splits (channel_at (state h es) p))
    ∙ ap (λ xs. xs ++ buffered_in (state h es) p) (got_told h es p)

buffered_afresh : (o : Option Channel) → option_map_or (λ c. c.sent) (option_map afresh o) [] ≡ option_map_or (λ c. buffer_of c) o []
buffered_afresh None = refl
buffered_afresh (Some c) = refl

buffered_like : (s t : State) (p : Port) → Alike s t → buffered_in s p ≡ buffered_in t p
buffered_like s t p a =
    sym (buffered_afresh (channel_at s p))
    ∙ ap (λ (o : Option Channel). option_map_or (λ c. c.sent) o []) (at-like s.channels t.channels p a.channels)
    ∙ buffered_afresh (channel_at t p)

all_sent : (h : Head) (c : Chapters) (p : Port) → sent_values h (history c) p ≡ carried h c p ++ sent_values h (last_chapter h c) p
all_sent h c p =
    let last : List Entry = last_chapter h c in
    sent_parts h (history c) p
    ∙ ap (λ xs. xs ++ buffered_in (state h (history c)) p) (all_got h c p)
    ∙ append_assoc (carried h c p) (received_values h last p) (buffered_in (state h (history c)) p)
    ∙ ap (λ xs. carried h c p ++ (received_values h last p ++ xs)) (sym (buffered_like (state h last) (state h (history c)) p (last-alike h c)))
    ∙ ap (λ xs. carried h c p ++ xs) (sym (sent_parts h last p))

-- Counts

got_count : (h : Head) (es : List Entry) (p : Port) → length (received_values h es p) ≡ received_count (state h es) p
got_count h es p = ap length (sym (got_told h es p)) ∙ by (channel_at (state h es) p) refl
  where
    by : (o : Option Channel) → o ≡ channel_at (state h es) p → length (option_map_or received_from o []) ≡ option_map_or (λ c. c.received) o 0
    by None is = refl
    by (Some c) is = length-take-le c.received c.sent ((state-sound h es).ports p c (sym is)).received

sends_count : (h : Head) (es : List Entry) (p : Port) → length (sent_values h es p) ≡ sent_count (state h es) p
sends_count h es p = ap length (sym (sent_told h es p)) ∙ by (channel_at (state h es) p)
  where
    by : (o : Option Channel) → length (option_map_or (λ c. c.sent) o []) ≡ option_map_or (λ c. length c.sent) o 0
    by None = refl
    by (Some c) = refl

base_is : (h : Head) (c : Chapters) (p : Port) → base_count h c p ≡ length (carried h c p)
base_is h (First es) p = refl
base_is h (Cut c later) p =
    let last : List Entry = last_chapter h c in
    omega (arith, length-append (carried h c p) (received_values h last p), base_is h c p, got_count h last p)

pub carried-law : (h : Head) (c : Chapters) (p : Port) → CarriedLaw h c p
carried-law h c p =
    let last : List Entry = last_chapter h c in
    let base = base_is h c p in
    let got = ap length (all_got h c p) ∙ length-append (carried h c p) (received_values h last p) in
    let sends = ap length (all_sent h c p) ∙ length-append (carried h c p) (sent_values h last p) in
    record {
      received = all_got h c p;
      sent = all_sent h c p;
      base = base;
      counts_received = omega (arith, got, base, got_count h (history c) p, got_count h last p);
      counts_sent = omega (arith, sends, base, sends_count h (history c) p, sends_count h last p);
    }
