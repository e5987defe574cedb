-- How a conversation goes on from one read to the next.
use Rattle.std.proofs.Common.{◌≡◌, ℕ, ◌+◌, ◌≤◌, refl, inl, inr, List, [], ◌++◌, length, ap, ◌∙◌, sym, subst, arith, append_assoc}
use Rattle.std.proofs.Common.{append-nil, length-append, Option, Some, None}
use Rattle.hub_base.specs.declared.limits.TheConstants.{MOST_BYTES}
use Rattle.hub_base.specs.declared.read_fault.Kind.{Kind}
use Rattle.hub_base.specs.declared.read_fault.TextFault.{TextFault}
use Rattle.hub_base.specs.Reading.{Faulty, read_text}
use Rattle.hub_base.specs.Text.{IsFaulty}
use Rattle.hub_replay.specs.Replay.{IsEventText}
use Rattle.hub_replay.specs.Verify.{newlines_in}
use Rattle.hub_replay.specs.declared.conversation.Conversation.{Conversation}
use Rattle.hub_replay.specs.Answers.{Tells, AnswersBefore}
use Rattle.hub_replay.specs.Conversing.{Conversing}
use Rattle.hub_replay.specs.Serve.{HasConversed, HasNamed, HasStopped, HasHeardAtMost}
use Rattle.hub_replay.specs.Stands.{Stands, FailsHere, Hears, HearsAll, HearsBefore}
use Rattle.hub_replay.specs.Talks.{Stays, Grows, HasAnswered, IsAnswer, Spoken}
use Rattle.std.specs.Result.{IsErrOf}
use Rattle.std.specs.Prelude.{Result, Ok, IsErr, IsErrAnd}
use Rattle.hub_replay.specs.declared.fault.ReplayFault.{ReplayFault}
use Rattle.std.proofs.Common.{Err, vec_len, ◌-◌, ◌<◌}
use Rattle.hub_replay.specs.declared.fault.ReplayFault.TheVariants as replay
use Rattle.hub_replay.proofs.Hearing.{tells, rest-length}
use Rattle.hub_replay.proofs.Saying.{grows-none}

-- each text that is read as faulty is faulty
abbrev pub ReadsFaults : Type 0
ReadsFaults = (bytes : List ℕ) (k : ℕ) (kind : Kind) → read_text bytes ≡ Faulty k kind → IsFaulty bytes k kind

module _ {Heard Said : List ℕ → Type 0} {c : Conversation} (so_far : Conversing Heard Said c) where
  -- its lines are told
  told-now : Tells so_far.lines so_far.said
  told-now = tells c so_far.lines so_far.rest so_far.said so_far.stands

  -- what holds of all that was heard and said
  now : {Holds : List ℕ → List ℕ → Type 0} → Holds (so_far.lines ++ so_far.rest) so_far.said → Spoken Heard Said Holds
  now holds = record {
    heard = so_far.lines ++ so_far.rest;
    said = so_far.said;
    is_heard = so_far.is_heard;
    is_said = so_far.is_said;
    holds = holds;
  }

  -- what was said answers all whole lines
  pub conversing-answered : HasAnswered Heard Said
  conversing-answered = now (record { lines = so_far.lines; rest = so_far.rest; parts = refl; whole = so_far.whole; told = told-now })

  -- so it does where nothing more was heard
  pub conversing-stays : {Heard' Said' : List ℕ → Type 0} → Stays Heard Heard' → Stays Said Said' → Conversing Heard' Said' c
  conversing-stays heard said = record {
    lines = so_far.lines;
    rest = so_far.rest;
    said = so_far.said;
    is_heard = heard (so_far.lines ++ so_far.rest) so_far.is_heard;
    is_said = said so_far.said so_far.is_said;
    stands = so_far.stands;
    whole = so_far.whole;
    fits = so_far.fits;
  }

  -- a read that gave nothing
  pub conversing-silent : {Heard' Said' : List ℕ → Type 0} (piece : List ℕ) → length piece ≡ 0 → Grows Heard Heard' piece → Stays Said Said'
      → Conversing Heard' Said' c
  conversing-silent {Heard'} {Said'} piece none came silent = conversing-stays (grows-none Heard Heard' piece none came) silent

  -- nothing more comes, and it is a journal's text
  pub ended-whole : IsEventText (so_far.lines ++ so_far.rest) so_far.said → HasConversed Heard Said
  ended-whole is = now is

  -- or not
  pub ended-faulty : (Ended : Type 0) (fault : TextFault) → ReadsFaults → Ended → FailsHere so_far.lines so_far.rest fault → HasNamed Heard Said Ended fault
  ended-faulty Ended fault faults ended here = now (record {
    before = record {
      lines = so_far.lines;
      rest = so_far.rest;
      parts = refl;
      told = told-now;
      number = here.number;
      faulty = faults (so_far.lines ++ so_far.rest) fault.line fault.kind here.fails;
    };
    last = inl ended;
  })

  -- ---- a piece has come
  module _ (Heard' Said' : List ℕ → Type 0) (piece : List ℕ) (grew : Grows Heard Heard' piece) (silent : Stays Said Said') where
    pub came : Heard' ((so_far.lines ++ so_far.rest) ++ piece)
    came = grew (so_far.lines ++ so_far.rest) so_far.is_heard

    pub came-few : (Heard'' : List ℕ → Type 0) (before : ℕ) → before ≡ length so_far.lines + length so_far.rest → length piece ≤ (MOST_BYTES - before) + 1
        → Stays Heard' Heard'' → HasHeardAtMost Heard'' (MOST_BYTES + 1)
    came-few Heard'' before is few deaf =
        let all = (so_far.lines ++ so_far.rest) ++ piece in
        let long = length-append (so_far.lines ++ so_far.rest) piece in
        let both = length-append so_far.lines so_far.rest in
        let fits = so_far.fits in
        (all, deaf all came, omega (arith, long, both, is, fits, few))

    -- what holds of all that was heard and said now
    came-now : {Holds : List ℕ → List ℕ → Type 0} → Holds ((so_far.lines ++ so_far.rest) ++ piece) so_far.said → Spoken Heard' Said' Holds
    came-now holds = record {
      heard = (so_far.lines ++ so_far.rest) ++ piece;
      said = so_far.said;
      is_heard = came;
      is_said = silent so_far.said so_far.is_said;
      holds = holds;
    }

    -- where memory was refused
    pub came-stopped : HasStopped Heard' Said'
    came-stopped = came-now (record {
      lines = so_far.lines;
      rest = so_far.rest ++ piece;
      parts = append_assoc so_far.lines so_far.rest piece;
      told = told-now;
    })

    before-of : (new : List ℕ) (fault : TextFault) → ReadsFaults → HearsBefore so_far.lines so_far.rest so_far.said piece [] new fault
        → AnswersBefore ((so_far.lines ++ so_far.rest) ++ piece) (so_far.said ++ new) fault
    before-of new fault faults hears = record {
      lines = hears.lines_now;
      rest = hears.rest_now;
      parts = hears.parts;
      told = (let P : List ℕ → Type 0 = λ more. Tells hears.lines_now (so_far.said ++ more) in subst P (sym hears.said_now) hears.told);
      number = hears.fails.number;
      faulty = faults ((so_far.lines ++ so_far.rest) ++ piece) fault.line fault.kind
          (ap read_text (hears.parts ∙ sym (append-nil (hears.lines_now ++ hears.rest_now))) ∙ hears.fails.fails []);
    }

    -- the answers are all that is to be said now
    pub came-answer : (c' : Conversation) (new : List ℕ) (fault : Option TextFault) → ReadsFaults
        → Hears so_far.lines so_far.rest so_far.said piece [] new c' fault → IsAnswer Heard' Said' new
    came-answer c' new None faults hears = came-now (inl (record {
      lines = hears.lines_now;
      rest = hears.rest_now;
      parts = hears.parts;
      whole = hears.whole;
      told = (let P : List ℕ → Type 0 = λ more. Tells hears.lines_now (so_far.said ++ more) in
          subst P (sym hears.said_now) (tells c' hears.lines_now hears.rest_now (so_far.said ++ hears.more) hears.stands));
    }))
    came-answer c' new (Some fault) faults hears = came-now (inr (fault, before-of new fault faults hears))

    module _ {Heard'' Said'' : List ℕ → Type 0} {new : List ℕ} (deaf : Stays Heard' Heard'') (spoke : Grows Said' Said'' new) where
      -- and once they are said the conversation goes on
      pub came-goes : {c' : Conversation} → HearsAll so_far.lines so_far.rest so_far.said piece [] new c' → Conversing Heard'' Said'' c'
      came-goes hears = record {
        lines = hears.lines_now;
        rest = hears.rest_now;
        said = so_far.said ++ hears.more;
        is_heard = (let P : List ℕ → Type 0 = Heard'' in subst P hears.parts (deaf ((so_far.lines ++ so_far.rest) ++ piece) came));
        is_said = (let P : List ℕ → Type 0 = λ more. Said'' (so_far.said ++ more) in
            subst P hears.said_now (spoke so_far.said (silent so_far.said so_far.is_said)));
        stands = hears.stands;
        whole = hears.whole;
        fits = hears.fits;
      }

      -- or a fault is named
      pub came-named : (Ended : Type 0) (fault : TextFault) → ReadsFaults → HearsBefore so_far.lines so_far.rest so_far.said piece [] new fault
          → HasNamed Heard'' Said'' Ended fault
      came-named Ended fault faults hears = record {
        heard = (so_far.lines ++ so_far.rest) ++ piece;
        said = so_far.said ++ new;
        is_heard = deaf ((so_far.lines ++ so_far.rest) ++ piece) came;
        is_said = spoke so_far.said (silent so_far.said so_far.is_said);
        holds = record {
          before = before-of new fault faults hears;
          last = inr (λ more. faults (((so_far.lines ++ so_far.rest) ++ piece) ++ more) fault.line fault.kind
              (ap (λ l. read_text (l ++ more)) hears.parts ∙ hears.fails.fails more));
        };
      }

-- what a read has come to, where its answers began with none
pub heard-anew : {Heard Said : List ℕ → Type 0} {c : Conversation} (so_far : Conversing Heard Said c) (c' : Conversation)
    (piece old new : List ℕ) (fault same : Option TextFault) → old ≡ []
    → ((lines rest said : List ℕ) → Stands lines rest said c → newlines_in rest ≡ 0 → Hears lines rest said piece old new c' fault)
    → fault ≡ same → Hears so_far.lines so_far.rest so_far.said piece [] new c' same
heard-anew so_far c' piece old new fault same none hears is =
    let all = hears so_far.lines so_far.rest so_far.said so_far.stands so_far.whole in
    let anew = subst (λ (answers : List ℕ). Hears so_far.lines so_far.rest so_far.said piece answers new c' fault) none all in
    subst (λ (o : Option TextFault). Hears so_far.lines so_far.rest so_far.said piece [] new c' o) is anew

pub text-same : (a b : TextFault) → IsErrOf {T = Unit {0}} (Err (replay.Text a)) (replay.Text b) → a ≡ b
text-same a b h = cc

pub text-given : {A : Type 0} (r : Result A ReplayFault) (a b : TextFault) → IsErr r × IsErrAnd r (λ given. given ≡ replay.Text a)
    → IsErrOf r (replay.Text b) → a ≡ b
text-given (Ok x) a b (bad, given) h = cc
text-given (Err f) a b (bad, given) h = cc

-- so many bytes were heard
pub heard-length : (lines rest said : List ℕ) (c : Conversation) → Stands lines rest said c → c.place + (vec_len c.text - c.front) ≡ length (lines ++ rest)
heard-length lines rest said c stands =
    let l = rest-length c lines rest said stands in let p = stands.place in let all = length-append lines rest in omega (arith, l, p, all)

-- more of them than before
pub heard-more : {Heard Said : List ℕ → Type 0} {c c' : Conversation} (so_far : Conversing Heard Said c) {piece new : List ℕ}
    → HearsAll so_far.lines so_far.rest so_far.said piece [] new c' → 0 < length piece
    → MOST_BYTES + 1 - (c'.place + (vec_len c'.text - c'.front)) < MOST_BYTES + 1 - (c.place + (vec_len c.text - c.front))
heard-more {Heard} {Said} {c} {c'} so_far {piece} {new} hears some =
    let before = heard-length so_far.lines so_far.rest so_far.said c so_far.stands in
    let after = heard-length hears.lines_now hears.rest_now (so_far.said ++ hears.more) c' hears.stands in
    let parts = ap length hears.parts in
    let all = length-append (so_far.lines ++ so_far.rest) piece in
    let fits = hears.fits in
    omega (arith, before, after, parts, all, fits, some)
