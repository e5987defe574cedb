-- What waits for a process stays its reply.
use Rattle.std.proofs.Common.{◌≡◌, ◌<◌, ◌==◌, ◌||◌, ℕ, zero, suc, replicate, Bool, true, false, cond, List, []}
use Rattle.std.proofs.Common.{◌∷◌, ◌++◌, length, filter, refl, ap, ◌∙◌, sym, subst, Option, Some, None}
use Rattle.std.specs.Prelude.{IfSome, slice_set}
use Rattle.std.specs.List.{AllByRecursion}
use Rattle.std.proofs.lemmas.Bool.{eqb-true, eqb-false}
use Rattle.std.proofs.lemmas.List.{get_or-set_same, get_or-set_other, length-replicate}
use Rattle.hub_base.specs.declared.event.What.{What}
use Rattle.hub_base.specs.declared.event.What.TheVariants as what
use Rattle.hub_base.specs.declared.limits.TheConstants.{MOST_PROCS}
use Rattle.hub_laws.specs.Answers.{is_answer_to, Answered, IsAnswered}
use Rattle.hub_laws.specs.Replies.{is_told, IsReply, IsLeft, Replied}
use Rattle.hub_laws.proofs.Answered.{moves-answered}
use Rattle.hub_base.specs.declared.head.Head.{Head}
use Rattle.hub_live.specs.Locked.{answer_for, AreReplies, IsLawful, last_told}
use Rattle.hub_live.specs.Calls.{Answers, AnswersNoCall}
use Rattle.hub_live.specs.Prelude.{Entry, Event, Pid, is_waiting, Step, Make, Call, Close, Exit, Cancel, Start, Reopen, IsLegal, reply, last_from}
use Rattle.hub_live.specs.Prelude.{is_parked, HubView, state}
use Rattle.hub_live.specs.Prelude.{state_of, LockedView, IsReplyTo, Serves}

-- ---- places

-- what waits for process q once a place was written
pub answer_for-set : (ws : List (Option Event)) (i q : ℕ) (o : Option Event) → q < length ws →
    answer_for (slice_set ws i o) q ≡ cond (i == q) o (answer_for ws q)
answer_for-set ws i q o lt = by (i == q) refl
  where
    by : (b : Bool) → (i == q) ≡ b → answer_for (slice_set ws i o) q ≡ cond b o (answer_for ws q)
    by true e = subst (λ (k : ℕ). answer_for (slice_set ws k o) q ≡ o) (sym (eqb-true i q e)) (get_or-set_same ws q o None lt)
    by false e = get_or-set_other ws i q o None (λ same. eqb-false i q e (sym same))

-- one event before the others
pub last_told-cons : (q : ℕ) (o : Option Event) (y : Event) (ys : List Event) → last_told q o (y ∷ ys) ≡ last_told q (cond (y.pid.0 == q) (Some y) o) ys
last_told-cons q o y ys = by (y.pid.0 == q)
  where
    by : (b : Bool) → last_from o (cond b (y ∷ filter (λ x. x.pid.0 == q) ys) (filter (λ x. x.pid.0 == q) ys))
        ≡ last_from (cond b (Some y) o) (filter (λ x. x.pid.0 == q) ys)
    by true = refl
    by false = refl

-- ---- replies

pub is_reply_to : (h : Head) (es : List Entry) (q : ℕ) (x : Event) → x.pid.0 ≡ q → IsReply h es x → IsReplyTo h q es x
is_reply_to h es q x is r = record {
  reply = subst (λ (k : ℕ). reply k h es ≡ Some x) is r.reply;
  free = subst (λ (k : ℕ). is_waiting (state h es) k ≡ false) is r.free;
}

-- the last of these events is a reply where each of them is, and where there is none what there was before
last_replies : (h : Head) (es : List Entry) (q : ℕ) (o : Option Event) (xs : List Event) → AllByRecursion (IsReply h es) xs →
    (is_told q xs ≡ false → IfSome o (IsReplyTo h q es)) → IfSome (last_told q o xs) (IsReplyTo h q es)
last_replies h es q o [] all was = was refl
last_replies h es q o (x ∷ xs) all was = subst (λ (r : Option Event). IfSome r (IsReplyTo h q es)) (sym (last_told-cons q o x xs))
    (by (x.pid.0 == q) refl was (λ o was. last_replies h es q o xs all.1 was))
  where
    by : (b : Bool) → (x.pid.0 == q) ≡ b → ((b || is_told q xs) ≡ false → IfSome o (IsReplyTo h q es))
        → ((o : Option Event) → (is_told q xs ≡ false → IfSome o (IsReplyTo h q es)) → IfSome (last_told q o xs) (IsReplyTo h q es))
        → IfSome (last_told q (cond b (Some x) o) xs) (IsReplyTo h q es)
    by true is was rest = rest (Some x) (λ untold. is_reply_to h es q x (eqb-true x.pid.0 q is) all.0)
    by false is was rest = rest o was

-- a process that is left as it was keeps its reply
left_replies : (h : Head) (es : List Entry) (e : Entry) (q : ℕ) (o : Option Event) → IsLeft h es e q → IfSome o (IsReplyTo h q es)
    → IfSome o (IsReplyTo h q (es ++ e ∷ []))
left_replies h es e q None left was = tt
left_replies h es e q (Some x) left was = record { reply = left.reply ∙ was.reply; free = left.waits ∙ was.free }

-- what waits for process q after a step is its reply
pub waits_after : (h : Head) (es : List Entry) (e : Entry) (answer : Event) (ended : List Event) (q : ℕ) (o : Option Event) → Replied h es e answer ended
    → IfSome o (IsReplyTo h q es) → IfSome (last_told q (cond (e.pid.0 == q) None o) ended) (IsReplyTo h q (es ++ e ∷ []))
waits_after h es e answer ended q o r was = last_replies h (es ++ e ∷ []) q (cond (e.pid.0 == q) None o) ended r.ends (by (e.pid.0 == q) refl)
  where
    by : (b : Bool) → (e.pid.0 == q) ≡ b → is_told q ended ≡ false → IfSome (cond b None o) (IsReplyTo h q (es ++ e ∷ []))
    by true is untold = tt
    by false is untold =
        left_replies h es e q o
        (r.others q (ap (λ (p : Pid). (p.0 == q) || is_told q ended) r.caller ∙ ap (λ (b : Bool). b || is_told q ended) is ∙ untold)) was

-- ---- the opening

answer_for-replicate : (n q : ℕ) → answer_for (replicate n None) q ≡ None
answer_for-replicate zero q = refl
answer_for-replicate (suc n) zero = refl
answer_for-replicate (suc n) (suc q) = answer_for-replicate n q

pub none_replies : (h : Head) (es : List Entry) → AreReplies h es (replicate MOST_PROCS None)
none_replies h es q = subst (λ (o : Option Event). IfSome o (IsReplyTo h q es)) (sym (answer_for-replicate MOST_PROCS q)) tt

pub lawful_none : (hub : HubView) → IsLegal hub.terms.head hub.journal → IsLawful hub (replicate MOST_PROCS None)
lawful_none hub legal = record {
  legal = legal;
  places = length-replicate {A = Option Event} MOST_PROCS None;
  replies = none_replies hub.terms.head hub.journal;
}

-- ---- what answers a step

parked_only : (w : What) → is_parked w ≡ true → w ≡ what.Parked
parked_only what.Parked is = refl
parked_only (what.Made p) is = absurd (let g : ⊥ = cc in g)
parked_only (what.Fired i outcome) is = absurd (let g : ⊥ = cc in g)
parked_only what.Default is = absurd (let g : ⊥ = cc in g)
parked_only what.Done is = absurd (let g : ⊥ = cc in g)
parked_only what.Stalled is = absurd (let g : ⊥ = cc in g)
parked_only what.Cancelled is = absurd (let g : ⊥ = cc in g)
parked_only (what.Fault f) is = absurd (let g : ⊥ = cc in g)

-- the answer to a step that was made
pub served_answers : (old new : LockedView) (e : Entry) (answer : Event) → Serves old e new answer → Answers e.pid e.step answer
served_answers old new e answer s =
    let told : Answered e.pid e.step answer s.ended =
    subst (IsAnswered e.pid e.step) (sym s.step.events) (moves-answered (state_of old.hub) e s.step.admitted) in
    (told.own, told.fits)

pub answers_no_call : (pid : Pid) (step : Step) (x : Event) → Answers pid step x → AnswersNoCall pid step x
answers_no_call pid (Make cap) x h = h
answers_no_call pid (Call cases default word) x h = tt
answers_no_call pid (Close p) x h = h
answers_no_call pid Exit x h = h
answers_no_call pid (Cancel q) x h = h
answers_no_call pid (Start q) x h = h
answers_no_call pid (Reopen p cap) x h = h

-- only a call waits
pub parked_call : (pid : Pid) (step : Step) (x y : Event) → is_answer_to step x.what ≡ true → is_parked x.what ≡ true → AnswersNoCall pid step y
parked_call pid step x y fits parked = by step (subst (λ (w : What). is_answer_to step w ≡ true) (parked_only x.what parked) fits)
  where
    by : (step : Step) → is_answer_to step what.Parked ≡ true → AnswersNoCall pid step y
    by (Make cap) is = absurd (let g : ⊥ = cc in g)
    by (Call cases default word) is = tt
    by (Close p) is = absurd (let g : ⊥ = cc in g)
    by Exit is = absurd (let g : ⊥ = cc in g)
    by (Cancel q) is = absurd (let g : ⊥ = cc in g)
    by (Start q) is = absurd (let g : ⊥ = cc in g)
    by (Reopen p cap) is = absurd (let g : ⊥ = cc in g)
