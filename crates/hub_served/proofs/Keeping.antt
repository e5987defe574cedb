-- What a hub that follows keeps, and how it makes the next step of the journal.
use Rattle.std.proofs.Common.{◌≡◌, ◌∙◌, ◌+◌, ◌≤◌, ◌<◌, ℕ, Bool, List, [], ◌∷◌, ◌++◌, Option, Some, None, refl, ap, sym, subst, arith}
use Rattle.std.proofs.Common.{length, take, drop, suc, cond, inl, inr, eq-eqb}
use Rattle.std.specs.Prelude.{slice_get, IfSome, Result, Ok, Err}
use Rattle.std.proofs.lemmas.List.{length_push}
use Rattle.std.proofs.lemmas.Option.{slice_get_within}
use Rattle.hub_base.specs.Entry.{Entry, Step}
use Rattle.hub_base.specs.declared.entry.Step.TheVariants.{Make, Call, Close, Exit, Cancel, Start, Reopen}
use Rattle.hub_base.specs.declared.value.Pid.{Pid}
use Rattle.hub_base.specs.Head.{AreOf}
use Rattle.hub_base.specs.declared.event.Event.{Event}
use Rattle.hub_base.specs.declared.fault.Fault.{Fault}
use Rattle.hub_base.specs.declared.fault.Fault.TheVariants as fault
use Rattle.hub_base.specs.declared.limits.TheConstants.{MOST_BYTES}
use Rattle.hub_base.specs.Runs.{moves, state}
use Rattle.hub_base.specs.Steps.{refusal}
use Rattle.hub_base.specs.Text.{one_step, steps_of}
use Rattle.hub_laws.specs.Journals.{IsLegal}
use Rattle.hub_laws.proofs.Journals.{begins-law}
use Rattle.hub_laws.proofs.Totals.{take_next}
use Rattle.hub_core.specs.declared.terms.Terms.{Terms}
use Rattle.hub_core.specs.HubView.{HubView, IsFullFor, Refuses, opened_hub, with_entry}
use Rattle.hub_live.specs.Locked.{LockedView, Serves, ServesStep, none_waits, without_answer}
use Rattle.hub_cut.specs.Chains.{MakesText}
use Rattle.hub_base.proofs.Lists.{around}
use Rattle.hub_base.proofs.StepCounts.{steps-there}
use Rattle.hub_served.specs.declared.follower.AfterDivergence.{AfterDivergence}
use Rattle.hub_served.specs.declared.follower.AfterDivergence.TheVariants.{GoesOn}
use Rattle.hub_served.specs.declared.follower.Stand.TheVariants.{Early, Other}
use Rattle.hub_served.specs.declared.not_made.NotMade.{NotMade}
use Rattle.hub_served.specs.declared.not_made.NotMade.TheVariants.{Refused, NotYet, Diverged}
use Rattle.hub_served.specs.Follow.{FollowKeeps, FollowView, FollowsStep, IsAdmitted, IsAt, IsBeginning, IsDue, IsFree, IsNext, diverged_at, diverged_by, made}
use Rattle.hub_served.specs.Follow.{FollowsAnew, follow_view, number_of, step_with, turn_of, with_locked, with_word}
use Rattle.hub_served.specs.Given.{GivenView}
use Rattle.hub_served.specs.Stands.{Follows, Passes, PassesGiven, Stands, given_of, word_of}
use Rattle.hub_served.proofs.Turns.{turn_here}

-- ---- the next entry of the journal

-- it is admitted
pub due_admitted : (l : FollowView) (e : Entry) → FollowKeeps l → IsDue l e → IsAdmitted l e
due_admitted l e keeps next =
    let head = l.locked.hub.terms.head in
    let begins : IsBeginning l = keeps.begins next.following in
    let whole : IsLegal head (take (made l) l.given ++ e ∷ drop (suc (made l)) l.given) =
    subst (IsLegal head) (around (made l) l.given e next.at) keeps.legal in
    ap (λ (es : List Entry). refusal (state head es) e.pid) begins
    ∙ (begins-law head (take (made l) l.given) (drop (suc (made l)) l.given)).next e whole

-- its hub is not full
not_full : (l : FollowView) (e : Entry) → FollowKeeps l → IsDue l e → IsFullFor l.locked.hub e → ⊥
not_full l e keeps next full =
    let begins : IsBeginning l = keeps.begins next.following in
    let one : one_step e ≡ 1 = ap (λ (b : Bool). cond b 0 1) full.0 in
    omega (arith, one, full.1, keeps.room, ap steps_of begins, steps-there (made l) l.given e next.at)

-- so memory alone refuses it
pub due_refused : (l : FollowView) (e : Entry) (f : Fault) → FollowKeeps l → IsDue l e → Refuses l.locked.hub e f → f ≡ fault.NoMemory
due_refused l e fault.JournalFull keeps next refuses = absurd (not_full l e keeps next refuses)
due_refused l e fault.NoProcess keeps next refuses = absurd (let admitted = due_admitted l e keeps next in let refused = refuses.1 in cc)
due_refused l e fault.Gone keeps next refuses = absurd (let admitted = due_admitted l e keeps next in let refused = refuses.1 in cc)
due_refused l e fault.Busy keeps next refuses = absurd (let admitted = due_admitted l e keeps next in let refused = refuses.1 in cc)
due_refused l e fault.NoMemory keeps next refuses = refl
due_refused l e other keeps next refuses = absurd refuses

-- with it the hub has made a beginning of the journal again
begins_next : (l : FollowView) (e : Entry) (now : LockedView) → FollowKeeps l → IsDue l e → now.hub ≡ with_entry e l.locked.hub
    → IsBeginning (with_locked now l)
begins_next l e now keeps next is =
    let begins : IsBeginning l = keeps.begins next.following in
    let longer : now.hub.journal ≡ l.locked.hub.journal ++ e ∷ [] = ap (λ (h : HubView). h.journal) is in
    let count : length now.hub.journal ≡ made l + 1 = ap length longer ∙ length_push l.locked.hub.journal e in
    longer ∙ ap (λ (es : List Entry). es ++ e ∷ []) begins ∙ sym (take_next l.given (made l) e next.at) ∙ ap (λ n. take n l.given) (sym count)

-- what it keeps
pub keeps_next : (l : FollowView) (e : Entry) (now : LockedView) (answer : Event) → FollowKeeps l → IsDue l e → Serves l.locked e now answer
    → FollowKeeps (with_locked now l)
keeps_next l e now answer keeps next serves =
    let terms = ap (λ (h : HubView). h.terms) serves.step.journal in
    record {
      legal = rw terms keeps.legal;
      room = rw terms keeps.room;
      few = keeps.few;
      fits = rw terms keeps.fits;
      asked_fits = rw terms keeps.asked_fits;
      begins = λ none. begins_next l e now keeps next serves.step.journal;
    }

-- a step that changed nothing
same : (l : FollowView) (now : LockedView) → now ≡ l.locked → with_locked now l ≡ l
same l now is = ap (λ n. with_locked n l) is

still : (l : FollowView) (now : LockedView) → FollowKeeps l → now ≡ l.locked → l.diverged ≡ None → IsBeginning (with_locked now l)
still l now keeps is none = subst IsBeginning (sym (same l now is)) (keeps.begins none)

-- ---- a step that is the next but for its choice word

-- the word makes no difference to who makes the step,
pub next_admitted : (l : FollowView) (e : Entry) → FollowKeeps l → IsNext l e → IsAdmitted l e
next_admitted l e keeps next = due_admitted l (with_word next.0 e) keeps next.1

-- and to the memory that it takes
refused_so : (h : HubView) (pid : Pid) (s : Step) (word : ℕ) (f : Fault) → Refuses h (record { pid = pid; step = step_with word s }) f
    → Refuses h (record { pid = pid; step = s }) f
refused_so h pid (Make cap) word f refuses = refuses
refused_so h pid (Call cases default own) word fault.JournalFull refuses = refuses
refused_so h pid (Call cases default own) word fault.NoProcess refuses = refuses
refused_so h pid (Call cases default own) word fault.Gone refuses = refuses
refused_so h pid (Call cases default own) word fault.Busy refuses = refuses
refused_so h pid (Call cases default own) word fault.NoMemory refuses = refuses
refused_so h pid (Call cases default own) word other refuses = refuses
refused_so h pid (Close p) word f refuses = refuses
refused_so h pid Exit word f refuses = refuses
refused_so h pid (Cancel q) word f refuses = refuses
refused_so h pid (Start q) word f refuses = refuses
refused_so h pid (Reopen p cap) word f refuses = refuses

-- the hub made the next step, or refused it
pub step_next : (l : FollowView) (e : Entry) (word : ℕ) (now : LockedView) (result : Result Event NotMade) → FollowKeeps l
    → IsDue l (with_word word e) → Passes l.locked (with_word word e) now result → FollowsStep l e (with_locked now l) result
step_next l e word now (Ok answer) keeps due passes =
    let head = l.locked.hub.terms.head in
    let given = with_word word e in
    record {
      does = inl (record { next = (word, due); given = given; due = due; serves = passes; stays = refl });
      begins = λ none. begins_next l given now keeps due passes.ok.step.journal;
      next = λ _. record {
        next = given;
        is_next = due.at;
        ended = passes.ok.ended;
        told = ap (λ (es : List Entry). (moves (state head es) given).events) (sym (keeps.begins due.following)) ∙ sym passes.ok.step.events;
      };
    }
step_next l e word now (Err (Refused f)) keeps due passes =
    record {
      does = (inr (inl (word, due)), refused_so l.locked.hub e.pid e.step word f passes.0, same l now passes.1);
      begins = still l now keeps passes.1;
      next = λ _. ap Refused (due_refused l (with_word word e) f keeps due passes.0);
    }
step_next l e word now (Err other) keeps due passes = absurd passes

-- what the hub keeps, with the step or without it
pub follows_made : (l : FollowView) (given : GivenView) (e : Entry) (now : LockedView) (answer : Event) → Follows l given → IsDue l e
    → Passes l.locked e now (Ok answer) → Follows (with_locked now l) (record { entries = given.entries; made = given.made + 1 })
follows_made l given e now answer follows due passes =
    let longer : now.hub.journal ≡ l.locked.hub.journal ++ e ∷ [] = ap (λ (h : HubView). h.journal) passes.ok.step.journal in
    let count : length now.hub.journal ≡ made l + 1 = ap length longer ∙ length_push l.locked.hub.journal e in
    let Next : GivenView → GivenView = λ g. record { entries = g.entries; made = g.made + 1 } in
    let With : ℕ → GivenView = λ n. record { entries = l.given; made = n } in
    record {
      keeps = keeps_next l e now answer follows.keeps due passes.ok;
      in_turn = λ none. ap Next (follows.in_turn due.following) ∙ ap With (sym count);
    }

-- without it
pub follows_refused : (l : FollowView) (given : GivenView) (e : Entry) (now : LockedView) (why : NotMade) → Follows l given
    → Passes l.locked e now (Err why) → Follows (with_locked now l) given
follows_refused l given e now (Refused f) follows passes = subst (λ (m : FollowView). Follows m given) (sym (same l now passes.1)) follows
follows_refused l given e now other follows passes = absurd passes

-- with its own word it is the same
step_with_own : (s : Step) → step_with (word_of s) s ≡ s
step_with_own (Make cap) = refl
step_with_own (Call cases default own) = refl
step_with_own (Close p) = refl
step_with_own Exit = refl
step_with_own (Cancel q) = refl
step_with_own (Start q) = refl
step_with_own (Reopen p cap) = refl

pub with_own : (e : Entry) → with_word (word_of e.step) e ≡ e
with_own e = ap (λ s. record { pid = e.pid; step = s }) (step_with_own e.step)

-- the hub that follows made it, or refused it
pub rules_next : (l : FollowView) (e : Entry) (word : ℕ) (new : FollowView) (result : Result Event NotMade) → IsDue l (with_word word e)
    → PassesGiven l (with_word word e) new result → FollowsStep l e new result
rules_next l e word new result due given =
    subst (λ (m : FollowView). FollowsStep l e m result) (sym given.stays) (step_next l e word new.locked result given.keeps due given.passes)

-- and with its own word, as it was asked for
pub own_rules : (l : FollowView) (e : Entry) (word : ℕ) (new : FollowView) (result : Result Event NotMade) → word ≡ word_of e.step
    → IsDue l (with_word word e) → PassesGiven l e new result → FollowsStep l e new result
own_rules l e word new result is due given =
    rules_next l e word new result due
    (subst (λ (f : Entry). PassesGiven l f new result) (sym (ap (λ n. with_word n e) is ∙ with_own e)) given)

-- ---- a step that is not admitted

pub refused : (l : FollowView) (e : Entry) (now : LockedView) (result : Result Event NotMade) → FollowKeeps l → ¬ IsAdmitted l e
    → Passes l.locked e now result → FollowsStep l e (with_locked now l) result
refused l e now (Ok answer) keeps not passes = absurd (not passes.ok.step.admitted)
refused l e now (Err (Refused f)) keeps not passes =
    record {
      does = (inl not, passes.0, same l now passes.1);
      begins = still l now keeps passes.1;
      next = λ next. absurd (not (next_admitted l e keeps next));
    }
refused l e now (Err other) keeps not passes = absurd passes

pub follows_not_admitted : (l : FollowView) (given : GivenView) (e : Entry) (now : LockedView) (result : Result Event NotMade) → Follows l given
    → ¬ IsAdmitted l e → Passes l.locked e now result → Follows (with_locked now l) given
follows_not_admitted l given e now (Ok answer) follows not passes = absurd (not passes.ok.step.admitted)
follows_not_admitted l given e now (Err why) follows not passes = follows_refused l given e now why follows passes

-- ---- a hub that follows no longer

-- then no step is next
not_free : (l : FollowView) (e : Entry) → IsNext l e → IsFree l → ⊥
not_free l e next free = omega (arith, free next.1.following, slice_get_within l.given (made l) (with_word next.0 e) next.1.at)

pub goes_on : (l : FollowView) (e : Entry) (now : LockedView) (answer : Event) → IsFree l → l.after ≡ GoesOn
    → ServesStep l.locked e now (Ok answer) → FollowsStep l e (diverged_at (number_of l) (with_locked now l)) (Ok answer)
goes_on l e now answer free after serves =
    record {
      does = inr (record { free = free; goes_on = after; serves = serves; stays = refl });
      begins = λ none. absurd (cc);
      next = λ next. absurd (not_free l e next free);
    }

-- ---- a step that is not next

-- where the next step is this, it is its process's next
turn_next : (l : FollowView) (e : Entry) → IsNext l e → turn_of l e.pid ≡ Some (made l)
turn_next l e next =
    turn_here e.pid.0 (made l) l.given (with_word next.0 e) next.1.at (eq-eqb e.pid.0 e.pid.0 refl)

pub early : (l : FollowView) (e : Entry) → FollowKeeps l → IsAdmitted l e → l.diverged ≡ None → Stands (given_of l) e Early → FollowsStep l e l (Err NotYet)
early l e keeps admitted following stands =
    record {
      does = (record { admitted = admitted; following = following; left = stands.0; later = stands.1 }, refl);
      begins = keeps.begins;
      next = λ next.
          let later = subst (λ (o : Option ℕ). IfSome o (λ place. (made l < place) × IsAt l e place)) (turn_next l e next) stands.1 in
          absurd (omega (arith, later.0));
    }

pub other : (l : FollowView) (e : Entry) (number : ℕ) → IsAdmitted l e → l.diverged ≡ None → Stands (given_of l) e (Other number)
    → FollowsStep l e (diverged_by e number l) (Err (Diverged number))
other l e number admitted following stands =
    record {
      does = (
        inl (record {
          admitted = admitted;
          following = following;
          place = stands.0;
          turn = stands.1;
          other = stands.2;
          numbered = stands.3;
        }),
        refl,
      );
      begins = λ none. absurd (cc);
      next = λ next.
          let here : made l ≡ stands.0 = let turn = turn_next l e next in let at = stands.1 in cc in
          absurd (stands.2 (next.0, ap (slice_get l.given) (sym here) ∙ next.1.at));
    }

-- ---- an answer is taken

pub follows_taken : (l : FollowView) (given : GivenView) (q : ℕ) → Follows l given → Follows (with_locked (without_answer l.locked q) l) given
follows_taken l given q follows =
    let keeps = follows.keeps in
    record {
      keeps = record {
        legal = keeps.legal;
        fits = keeps.fits;
        asked_fits = keeps.asked_fits;
        room = keeps.room;
        few = keeps.few;
        begins = keeps.begins;
      };
      in_turn = follows.in_turn;
    }

-- ---- the opening

-- what a hub keeps at which nothing has happened
pub follows_opened : (after : AfterDivergence) (given : HubView) (locked : LockedView) → IsLegal given.terms.head given.journal
    → AreOf given.terms.head.edition given.journal → steps_of given.journal ≤ given.terms.limit
    → length given.journal ≤ MOST_BYTES → locked ≡ none_waits (opened_hub given.terms)
    → Follows (follow_view locked given.journal after None None) (record { entries = given.journal; made = 0 })
follows_opened after given locked legal fits room few is =
    subst (λ (l : LockedView). Follows (follow_view l given.journal after None None) (record { entries = given.journal; made = 0 })) (sym is)
    (record {
      keeps = record { legal = legal; fits = fits; asked_fits = tt; room = room; few = few; begins = λ none. refl };
      in_turn = λ none. refl;
    })

-- what is told of it
pub opened : (text : List ℕ) (after : AfterDivergence) (given : HubView) (l : FollowView) → MakesText text given
    → l.locked ≡ none_waits (opened_hub given.terms) → l.given ≡ given.journal → l.after ≡ after
    → l.diverged ≡ None → l.asked ≡ None → FollowsAnew text after l
opened text after given l makes is same after_is none unasked =
    let terms : l.locked.hub.terms ≡ given.terms = ap (λ (k : LockedView). k.hub.terms) is in
    record {
      spelled = rw (terms, same) makes.spelled;
      legal = rw (terms, same) makes.legal;
      limit = ap (λ (t : Terms). t.limit) terms ∙ makes.limit;
      nothing = is ∙ ap (λ (t : Terms). none_waits (opened_hub t)) (sym terms);
      after_is = after_is;
      none = none;
      unasked = unasked;
    }
