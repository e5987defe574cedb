-- Chapters and their history: by one cut more.
use Rattle.hub_laws.proofs.Prelude.{◌≡◌, List, [], ◌∷◌, ◌++◌, ap, ◌∙◌, sym, subst, refl}
use Rattle.hub_laws.proofs.Prelude.{Entry, Event, Head, State, state, state_after, kept, kept_after, events, events_after, opening}
use Rattle.hub_laws.specs.Journals.{IsLegal}
use Rattle.hub_laws.proofs.Journals.{begins-law}
use Rattle.hub_laws.proofs.Longer.{state_after-append, events_after-append, kept_after-append}
use Rattle.hub_laws.proofs.Rules.{state-sound}
use Rattle.hub_chapters.specs.Alike.{Alike, GoOnAlike}
use Rattle.hub_chapters.specs.Checkpoint.{checkpoint}
use Rattle.hub_chapters.specs.Chapters.{Chapters, last_chapter, history, AreLegal, told_in, ChaptersLaw}
use Rattle.hub_chapters.specs.Chapters.Chapters.{First, Cut}
use Rattle.hub_chapters.proofs.Future.{goes-on}
use Rattle.hub_chapters.proofs.Checkpoints.{checkpoint-law, one-checkpoint}

-- States alike

alike-refl : (s : State) → Alike s s
alike-refl s = record { head = refl; gone = λ q. refl; parked = refl; channels = refl }

alike-trans : (s t u : State) → Alike s t → Alike t u → Alike s u
alike-trans s t u a b =
    record { head = a.head ∙ b.head; gone = λ q. a.gone q ∙ b.gone q; parked = a.parked ∙ b.parked; channels = a.channels ∙ b.channels }

-- what follows two runs
pub runs-on : (h : Head) (es fs later : List Entry) → Alike (state h es) (state h fs) → GoOnAlike (state h es) (state h fs) later
runs-on h es fs later a = goes-on (state h es) (state h fs) later (state-sound h es) (state-sound h fs) a

pub state-append : (h : Head) (es later : List Entry) → state h (es ++ later) ≡ state_after (state h es) later
state-append h es later = state_after-append (opening h) es later

alike_on : (h : Head) (es fs later : List Entry) → Alike (state h es) (state h fs) → Alike (state h (es ++ later)) (state h (fs ++ later))
alike_on h es fs later a =
    subst (λ (s : State). Alike s (state h (fs ++ later))) (sym (state-append h es later))
    (subst (λ (t : State). Alike (state_after (state h es) later) t) (sym (state-append h fs later)) (runs-on h es fs later a).alike)

-- The last chapter and the history, and what a cut leaves and the history

-- the checkpoint with which the next chapter begins
abbrev pub next_checkpoint : Head → Chapters → List Entry
next_checkpoint h c = checkpoint (state h (last_chapter h c))

cut_alike : (h : Head) (c : Chapters) → Alike (state h (last_chapter h c)) (state h (history c)) → Alike (state h (next_checkpoint h c)) (state h (history c))
cut_alike h c a = alike-trans (state h (next_checkpoint h c)) (state h (last_chapter h c)) (state h (history c)) (checkpoint-law h (last_chapter h c)).alike a

pub last-alike : (h : Head) (c : Chapters) → Alike (state h (last_chapter h c)) (state h (history c))
last-alike h (First es) = alike-refl (state h es)
last-alike h (Cut c later) = alike_on h (next_checkpoint h c) (history c) later (cut_alike h c (last-alike h c))

pub cut-alike : (h : Head) (c : Chapters) → Alike (state h (next_checkpoint h c)) (state h (history c))
cut-alike h c = cut_alike h c (last-alike h c)

-- Legal

cancel_left : (xs ys zs : List Entry) → xs ++ ys ≡ xs ++ zs → ys ≡ zs
cancel_left [] ys zs e = e
cancel_left (x ∷ xs) ys zs e = cancel_left xs ys zs cc

-- what follows a legal journal is admitted just where the whole is legal
later_kept : (h : Head) (es later : List Entry) → IsLegal h es → IsLegal h (es ++ later) → kept_after (state h es) later ≡ later
later_kept h es later legal whole =
    let parts : kept h (es ++ later) ≡ es ++ kept_after (state h es) later =
    kept_after-append (opening h) es later ∙ ap (λ xs. xs ++ kept_after (state h es) later) legal in
    cancel_left es (kept_after (state h es) later) later (sym parts ∙ whole)

whole_kept : (h : Head) (es later : List Entry) → IsLegal h es → kept_after (state h es) later ≡ later → IsLegal h (es ++ later)
whole_kept h es later legal kept =
    kept_after-append (opening h) es later ∙ ap (λ xs. xs ++ kept_after (state h es) later) legal ∙ ap (λ xs. es ++ xs) kept

-- so it is legal behind a journal that leads to a state alike
legal_behind : (h : Head) (es fs later : List Entry) → Alike (state h es) (state h fs) → IsLegal h es → IsLegal h fs → IsLegal h (es ++ later) →
    IsLegal h (fs ++ later)
legal_behind h es fs later a legal legal' whole =
    whole_kept h fs later legal' (sym (runs-on h es fs later a).kept ∙ later_kept h es later legal whole)

alike_sym : (s t : State) → Alike s t → Alike t s
alike_sym s t a = record { head = sym a.head; gone = λ q. sym (a.gone q); parked = sym a.parked; channels = sym a.channels }

history_legal : (h : Head) (c : Chapters) → AreLegal h c → IsLegal h (history c)
history_legal h (First es) l = l
history_legal h (Cut c later) l =
    let cp : List Entry = next_checkpoint h c in
    legal_behind h cp (history c) later (cut-alike h c) (checkpoint-law h (last_chapter h c)).legal (history_legal h c l.0) l.1

chapters_legal : (h : Head) (c : Chapters) → IsLegal h (history c) → AreLegal h c
chapters_legal h (First es) l = l
chapters_legal h (Cut c later) l =
    let cp : List Entry = next_checkpoint h c in
    let before : IsLegal h (history c) = (begins-law h (history c) later).legal l in (
      chapters_legal h c before,
      legal_behind h (history c) cp later (alike_sym (state h cp) (state h (history c)) (cut-alike h c)) before (checkpoint-law h (last_chapter h c)).legal l,
    )

-- Told

told_by_history : (h : Head) (c : Chapters) → told_in h c ≡ events h (history c)
told_by_history h (First es) = refl
told_by_history h (Cut c later) =
    let cp : List Entry = next_checkpoint h c in
    ap (λ (xs : List Event). xs ++ events_after (state h cp) later) (told_by_history h c)
    ∙ ap (λ xs. events h (history c) ++ xs) (runs-on h cp (history c) later (cut-alike h c)).events
    ∙ sym (events_after-append (opening h) (history c) later)

pub chapters-law : (h : Head) (c : Chapters) → ChaptersLaw h c
chapters-law h c = record {
  legal = history_legal h c;
  legal_chapters = chapters_legal h c;
  told = told_by_history h c;
  alike = last-alike h c;
  goes_on = λ later. runs-on h (last_chapter h c) (history c) later (last-alike h c);
  one = one-checkpoint (state h (last_chapter h c)) (state h (history c)) (last-alike h c);
}
