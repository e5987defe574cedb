-- What waits for a process once the events of a step were heard.
use Rattle.std.proofs.Common.{◌≡◌, ◌<◌, ◌++◌, ◌∷◌, [], ℕ, List, length, inl, inr, refl, ap, true, false, ◌∙◌, sym, subst}
use Rattle.std.proofs.Common.{Option, Some, None, arith, append_assoc}
use Rattle.std.specs.Prelude.{IfSome, slice_set}
use Rattle.std.proofs.lemmas.Bool.{cases_lt}
use Rattle.std.proofs.lemmas.List.{append-nil, get_or_past, length-set}
use Rattle.hub_base.specs.declared.head.Head.{Head}
use Rattle.hub_base.specs.Runs.{moves}
use Rattle.hub_laws.specs.Answers.{IsAnswered}
use Rattle.hub_laws.specs.Replies.{Replied, AreReplied}
use Rattle.hub_laws.proofs.Answered.{moves-answered}
use Rattle.hub_laws.proofs.Journals.{begins-law}
use Rattle.hub_laws.proofs.Replied.{replied-law}
use Rattle.hub_live.specs.Answers.{AnswersView, Heard, begun, hears_all}
use Rattle.hub_live.specs.Locked.{IsLawful, answer_after, answer_for, last_told}
use Rattle.hub_live.specs.Prelude.{Entry, Event, Pid, HubView, IsReplyTo, Steps, LockedView, is_parked, pids_of, refusal, Serves, state}
use Rattle.hub_live.proofs.Locks.{answer_for-set, is_reply_to, last_told-cons, waits_after}

-- behind the answer to the step
abbrev behind : Event → List (Option Event) → List Pid → AnswersView
behind own waiting ended = record { waiting = waiting; last = own; told = true; ended = ended }

rest-own : (own : Event) (ws : List (Option Event)) (ended : List Pid) (xs : List Event) → (hears_all (behind own ws ended) xs).last ≡ own
rest-own own ws ended [] = refl
rest-own own ws ended (x ∷ xs) = rest-own own (slice_set ws x.pid.0 (Some x)) (ended ++ x.pid ∷ []) xs

rest-ended : (own : Event) (ws : List (Option Event)) (ended : List Pid) (xs : List Event)
    → (hears_all (behind own ws ended) xs).ended ≡ ended ++ pids_of xs
rest-ended own ws ended [] = sym (append-nil ended)
rest-ended own ws ended (x ∷ xs) =
    rest-ended own (slice_set ws x.pid.0 (Some x)) (ended ++ x.pid ∷ []) xs ∙ append_assoc ended (x.pid ∷ []) (pids_of xs)

rest-places : (own : Event) (ws : List (Option Event)) (ended : List Pid) (xs : List Event)
    → length (hears_all (behind own ws ended) xs).waiting ≡ length ws
rest-places own ws ended [] = refl
rest-places own ws ended (x ∷ xs) =
    rest-places own (slice_set ws x.pid.0 (Some x)) (ended ++ x.pid ∷ []) xs ∙ length-set ws x.pid.0 (Some x)

rest-waits : (own : Event) (ws : List (Option Event)) (ended : List Pid) (xs : List Event) (q : ℕ) → q < length ws
    → answer_for (hears_all (behind own ws ended) xs).waiting q ≡ last_told q (answer_for ws q) xs
rest-waits own ws ended [] q lt = refl
rest-waits own ws ended (x ∷ xs) q lt =
    rest-waits own (slice_set ws x.pid.0 (Some x)) (ended ++ x.pid ∷ []) xs q (omega (arith, length-set ws x.pid.0 (Some x)))
    ∙ ap (λ (o : Option Event). last_told q o xs) (answer_for-set ws x.pid.0 q (Some x) lt)
    ∙ sym (last_told-cons q (answer_for ws q) x xs)

-- once the events of a step were heard
pub heard_so : (a b : AnswersView) (h : Head) (es : List Entry) (e : Entry) → refusal (state h es) e.pid ≡ None
    → b ≡ hears_all (begun a) (moves (state h es) e).events → Heard a h es e b
heard_so a b h es e admitted heard = by (moves (state h es) e).events refl
  where
    by : (told : List Event) → told ≡ (moves (state h es) e).events → Heard a h es e b
    by [] none = absurd (subst (IsAnswered e.pid e.step) (sym none) (moves-answered (state h es) e admitted))
    by (x ∷ xs) some =
        let cleared = slice_set a.waiting x.pid.0 None in
        let so : b ≡ hears_all (begun a) (x ∷ xs) = heard ∙ ap (hears_all (begun a)) (sym some) in
        let first : b.last ≡ x = ap (λ (k : AnswersView). k.last) so ∙ rest-own x cleared [] xs in
        let r : Replied h es e x xs = subst (AreReplied h es e) (sym some) (replied-law h es e admitted) in
        let places : length cleared ≡ length a.waiting = length-set a.waiting x.pid.0 None in
        let all : length b.waiting ≡ length a.waiting = ap (λ (k : AnswersView). length k.waiting) so ∙ rest-places x cleared [] xs ∙ places in
        let waits : (q : ℕ) → q < length a.waiting → answer_for b.waiting q ≡ answer_after a.waiting e.pid xs q =
        λ q lt. ap (λ (k : AnswersView). answer_for k.waiting q) so ∙ rest-waits x cleared [] xs q (omega (arith, places, lt))
        ∙ ap (λ (o : Option Event). last_told q o xs) (answer_for-set a.waiting x.pid.0 q None lt)
        ∙ ap (λ (p : Pid). answer_after a.waiting p xs q) r.caller in
        record {
          ended = xs;
          told = sym some ∙ ap (λ (y : Event). y ∷ xs) (sym first);
          places = all;
          answers = waits;
          pids = ap (λ (k : AnswersView). k.ended) so ∙ rest-ended x cleared [] xs;
          reply = λ clear. subst (IsReplyTo h e.pid.0 (es ++ e ∷ [])) (sym first)
              (is_reply_to h (es ++ e ∷ []) e.pid.0 x (ap (λ (p : Pid). p.0) r.caller)
              (r.answered (ap (λ (y : Event). is_parked y.what) (sym first) ∙ clear)));
          replies = λ were q. elim (cases_lt q (length a.waiting)) [
            | inl lt ↦ subst (λ (o : Option Event). IfSome o (IsReplyTo h q (es ++ e ∷ []))) (sym (waits q lt))
                (waits_after h es e x xs q (answer_for a.waiting q) r (were q))
            | inr past ↦ subst (λ (o : Option Event). IfSome o (IsReplyTo h q (es ++ e ∷ [])))
                (sym (get_or_past b.waiting q None (omega (arith, all, past)))) tt
          ];
        }

-- ---- a step of a locked hub

abbrev locked : HubView → AnswersView → LockedView
locked hub a = record { hub = hub; answers = a.waiting; last = a.last; ended = a.ended }

module _ (old : HubView) (a : AnswersView) (e : Entry) (new : HubView) (told : List Event) (b : AnswersView)
    (lawful : IsLawful old a.waiting) (s : Steps old e new told) (heard : Heard a old.terms.head old.journal e b) where
  pub served : Serves (locked old a) e (locked new b) b.last
  served = record {
    ended = heard.ended;
    step = subst (Steps old e new) (s.events ∙ heard.told) s;
    places = heard.places ∙ lawful.places;
    answers = λ q lt. heard.answers q (omega (arith, lawful.places, lt));
    last = refl;
    pids = heard.pids;
  }

  pub lawful_then : IsLawful new b.waiting
  lawful_then = subst (λ (hub : HubView). IsLawful hub b.waiting) (sym s.journal) (record {
    legal = (begins-law old.terms.head old.journal []).goes_on e lawful.legal s.admitted;
    places = heard.places ∙ lawful.places;
    replies = heard.replies lawful.replies;
  })

  pub replies_then : is_parked b.last.what ≡ false → IsReplyTo new.terms.head e.pid.0 new.journal b.last
  replies_then clear = subst (λ (hub : HubView). IsReplyTo hub.terms.head e.pid.0 hub.journal b.last) (sym s.journal) (heard.reply clear)
