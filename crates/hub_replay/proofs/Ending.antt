-- How a conversation goes on by a line that has come.
use Rattle.std.proofs.Common.{◌≡◌, ◌≢◌, ℕ, ◌+◌, ◌-◌, ◌≤◌, inl, inr, List, [], ◌∷◌, ◌++◌, length, take, drop, ap, ◌∙◌, sym, subst, arith}
use Rattle.std.proofs.Common.{append-nil, length-append, length-drop, take-append-drop, Some, None, vec_len}
use Rattle.std.proofs.lemmas.Grind.{common_steps}
use Rattle.std.specs.List.{flat_map}
use Rattle.hub_base.specs.declared.head.Edition.{Edition}
use Rattle.hub_base.specs.declared.head.Head.{Head}
use Rattle.hub_base.specs.declared.limits.TheConstants.{MOST_BYTES}
use Rattle.hub_base.specs.declared.read_fault.Kind.{Kind}
use Rattle.hub_base.specs.Head.{IsHead}
use Rattle.hub_base.specs.EventText.{event_line}
use Rattle.hub_base.specs.Lines.{pieces, read_fields}
use Rattle.hub_base.specs.Reading.{Faulty, head_lines}
use Rattle.hub_base.specs.Runs.{state, moves}
use Rattle.hub_base.specs.Text.{steps_of, fault_of_entry}
use Rattle.hub_replay.specs.Verify.{newlines_in}
use Rattle.hub_replay.specs.declared.conversation.Conversation.{Conversation}
use Rattle.hub_replay.specs.declared.running.Running.{Running}
use Rattle.hub_replay.specs.Lines.{IsLine, IsSecond, IsEntryLine, first_line}
use Rattle.hub_replay.specs.Running.{RunsTo, GoesOn}
use Rattle.hub_replay.specs.Stands.{Stands, Ends, Fails, IsAt, AtHead, AtEntries, InHead}
use Rattle.hub_replay.proofs.LineEnds.{newlines_in-append, newlines-of-line}
use Rattle.hub_replay.proofs.Replayed.{event_lines-more}
use Rattle.hub_replay.proofs.Stages.{line-reads, line-fails}

take-again : (n : ℕ) (xs : List ℕ) → take n (take n xs) ≡ take n xs
take-again n xs = grind (arith, common_steps)

drop-taken : (n : ℕ) (xs : List ℕ) → drop n (take n xs) ≡ []
drop-taken n xs = grind (arith, common_steps)

take-all : (xs : List ℕ) → take (length xs) xs ≡ xs
take-all xs = grind (arith, common_steps)

drop-all : (xs : List ℕ) → drop (length xs) xs ≡ []
drop-all xs = grind (arith, common_steps)

module _ (c : Conversation) (lines line said body : List ℕ) (stands : Stands lines line said c) (at : IsLine line body) where
  -- the line stands behind what was kept
  pub text-is : c.text.items ≡ take c.front c.text.items ++ line
  text-is = sym (take-append-drop c.front c.text.items) ∙ ap (λ l. take c.front c.text.items ++ l) stands.rest_is

  line-length : length line ≡ vec_len c.text - c.front
  line-length = let ok = c.text.ok in let l = sym (ap length stands.rest_is) ∙ length-drop c.front c.text.items in omega (arith, ok, l)

  more-place : (place : ℕ) → place ≡ c.place + (vec_len c.text - c.front) → place ≡ length (lines ++ line)
  more-place place is = let a = stands.place in let b = line-length in let all = length-append lines line in omega (arith, a, b, all, is)

  more-number : (number : ℕ) → number ≡ c.line + 1 → number ≡ 1 + newlines_in (lines ++ line)
  more-number number is =
      let all = newlines_in-append lines line in let one = newlines-of-line line body at in let before = stands.number in
      omega (arith, all, one, before, is)

  module _ (r : Running) (is : c.running ≡ Some r) (fits : c.place + (vec_len c.text - c.front) ≤ MOST_BYTES) where
    pub at-entries : AtEntries r c.line lines (take c.front c.text.items) said
    at-entries = subst (λ o. IsAt o c.line lines (take c.front c.text.items) said) is stands.at

    pub entry-line : (bytes : List ℕ) → bytes ≡ c.text.items → IsEntryLine bytes at-entries.head line body
    entry-line bytes same = record {
      is = same ∙ text-is ∙ ap (λ l. l ++ line) at-entries.kept;
      whole = at;
      possible = at-entries.text.head;
    }

    within : length lines + length line ≤ MOST_BYTES
    within = let a = stands.place in let b = line-length in omega (arith, a, b, fits)

    -- the line is an entry's
    pub entry-ends : (c' : Conversation) (r' : Running) (old new : List ℕ)
        → GoesOn at-entries.head at-entries.entries body r'.machine r'.steps old new
        → c'.place ≡ c.place + (vec_len c.text - c.front) → c'.line ≡ c.line + 1 → c'.front ≡ c.front
        → c'.text.items ≡ take c.front c.text.items → c'.running ≡ Some r' → Ends lines line said old new c' None
    entry-ends c' r' old new goes place number front text running =
        let head = at-entries.head in
        let entries = at-entries.entries in
        let more = flat_map event_line (moves (state head entries) goes.entry).events in
        let kept : take c'.front c'.text.items ≡ head_lines head = ap (λ n. take n c'.text.items) front ∙ ap (take c.front) text
        ∙ take-again c.front c.text.items ∙ at-entries.kept in
        let here : AtEntries r' c'.line (lines ++ line) (take c'.front c'.text.items) (said ++ more) = record {
          head = head;
          entries = entries ++ goes.entry ∷ [];
          text = line-reads lines head entries at-entries.text line body at within goes.entry goes.read goes.fits;
          runs = goes.runs;
          number_is = (let a = at-entries.number_is in let l = length-append entries (goes.entry ∷ []) in omega (arith, a, l, number));
          kept = kept;
          told = ap (λ s. s ++ more) at-entries.told ∙ sym (event_lines-more head entries goes.entry);
        } in (
          more,
          goes.said,
          record {
            place = more-place c'.place place;
            number = more-number c'.line number;
            at = subst (λ o. IsAt o c'.line (lines ++ line) (take c'.front c'.text.items) (said ++ more)) (sym running) here;
            rest_is = ap (λ n. drop n c'.text.items) front ∙ ap (drop c.front) text ∙ drop-taken c.front c.text.items;
          },
        )

    -- or it is faulty
    pub entry-fails : (kind : Kind)
        → fault_of_entry (steps_of at-entries.entries) (read_fields at-entries.head.edition (pieces 32 body)) ≡ Some kind
        → Fails lines line (record { line = c.line; kind = kind })
    entry-fails kind fault = record {
      fails = λ more. line-fails lines at-entries.head at-entries.entries at-entries.text line body at within kind fault more
          ∙ ap (λ k. Faulty k kind) (sym at-entries.number_is);
      number = stands.number;
    }

  module _ (is : c.running ≡ None) where
    at-head : AtHead c.line lines (take c.front c.text.items) said
    at-head = subst (λ o. IsAt o c.line lines (take c.front c.text.items) said) is stands.at

    whole : c.text.items ≡ lines ++ line
    whole = text-is ∙ ap (λ l. l ++ line) at-head.kept

    second-by : InHead c.line lines → c.line ≢ 1 → (edition : Edition) × (c.line ≡ 2) × (lines ≡ first_line edition)
    second-by (inl first) other = absurd (other first.0)
    second-by (inr second) other = second

    -- it is the second line
    pub second-line : (bytes : List ℕ) → bytes ≡ c.text.items → c.line ≢ 1 → (edition : Edition) × (c.line ≡ 2) × IsSecond bytes edition line body
    second-line bytes same other =
        let (edition, two, first) = second-by at-head.head other in
        (edition, two, record { is = same ∙ whole ∙ ap (λ l. l ++ line) first; whole = at })

    -- both head lines have come
    pub second-ends : (c' : Conversation) (r : Running) (head : Head) (answers : List ℕ) → c.line ≡ 2 → IsHead head
        → c.text.items ≡ head_lines head → RunsTo head [] r.machine r.steps → c.place + (vec_len c.text - c.front) ≤ MOST_BYTES
        → c'.place ≡ c.place + (vec_len c.text - c.front) → c'.line ≡ c.line + 1 → c'.front ≡ vec_len c.text
        → c'.text.items ≡ c.text.items → c'.running ≡ Some r → Ends lines line said answers answers c' None
    second-ends c' r head answers two possible spelled runs fits place number front text running =
        let all : lines ++ line ≡ head_lines head = sym whole ∙ spelled in
        let kept : take c'.front c'.text.items ≡ c.text.items = ap (λ n. take n c'.text.items) front
        ∙ ap (λ n. take n c'.text.items) c.text.ok.0 ∙ ap (take (length c.text.items)) text ∙ take-all c.text.items in
        let bytes_fit : length (lines ++ line) ≤ MOST_BYTES = (let p = more-place c'.place place in omega (arith, p, place, fits)) in
        let here : AtEntries r c'.line (lines ++ line) (take c'.front c'.text.items) (said ++ []) = record {
          head = head;
          entries = [];
          text = record { spelled = all ∙ sym (append-nil (head_lines head)); head = possible; fits = _; bytes_fit = bytes_fit; steps_fit = omega arith };
          runs = runs;
          number_is = omega (arith, number, two);
          kept = kept ∙ spelled;
          told = append-nil said ∙ at-head.silent;
        } in (
          [],
          sym (append-nil answers),
          record {
            place = more-place c'.place place;
            number = more-number c'.line number;
            at = subst (λ o. IsAt o c'.line (lines ++ line) (take c'.front c'.text.items) (said ++ [])) (sym running) here;
            rest_is = ap (λ n. drop n c'.text.items) front
                ∙ ap (λ n. drop n c'.text.items) c.text.ok.0 ∙ ap (drop (length c.text.items)) text ∙ drop-all c.text.items;
          },
        )
