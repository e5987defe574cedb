-- Where the readers go by pieces.
use Rattle.std.proofs.Common.{◌≡◌, ℕ, zero, suc, ◌<◌, ◌^◌, ◌==◌, Bool, true, false, List, [], ◌∷◌, ◌++◌, cond, get_or, refl, arith}
use Rattle.std.proofs.Common.{◌∙◌, ap, sym, subst, append_assoc}
use Rattle.std.proofs.Common.{Option, None, Some, codes, OnOk, Result, lit<}
use Rattle.std.proofs.lemmas.Bool.{and_parts}
use Rattle.std.proofs.lemmas.Fmt.{decimal_digit, first_decimal}
use Rattle.std.proofs.lemmas.Grind.{common_steps, flat_map-append}
use Rattle.std.proofs.lemmas.List.Sums.{fold-append}
use Rattle.std.specs.Prelude.{decimal, not, MatchOption}
use Rattle.std.specs.Char.{is_ascii_digit}
use Rattle.std.specs.List.{flat_map, list_all}
use Rattle.std.proofs.lemmas.Result.{on_ok_weaker}
use Rattle.hub_base.proofs.Decimals.{digits-of}
use Rattle.hub_trace.specs.Json as json
use Rattle.hub_trace.specs.Json.{Nest, Place, State, at}
use Rattle.hub_trace.specs.Json.Nest.{Array, Object}
use Rattle.hub_trace.specs.Json.Place.{First, Opened, Value, Text, Number, Point, Behind}
use Rattle.hub_trace.specs.Json.Place.{Broken as Failed}
use Rattle.hub_trace.specs.Diagrams as diagrams
use Rattle.hub_trace.specs.Diagrams.Place.{Due, Broken}
use Rattle.hub_trace.specs.Pieces.{behind, escape, escaped_behind, is_spelled, line_behind, number_behind, spelled_behind}
use Rattle.hub_trace.specs.Pieces.{Chain, GrowsBy, IsSpelled, Stands, Walks}
use Rattle.hub_trace.specs.Formats.Format.{Diagram}
use Rattle.hub_trace.specs.Formats.{margin, Keeps, Leads}
use Rattle.hub_trace.specs.declared.pieces.Piece.{Piece}
use Rattle.hub_trace.specs.declared.pieces.Piece.TheVariants as piece
use Rattle.hub_trace.proofs.Spelled.{number-spelled}

one-step : {S : Type 0} (o : Option S) (K : S → Type 0) → MatchOption o ⊥ K → (u : S) × (o ≡ Some u) × K u
one-step None K w = absurd w
one-step (Some u) K w = (u, refl, w)

kept-by : {S : Type 0} (b : Bool) (o : Option S) {u : S} → cond b o None ≡ Some u → (b ≡ true) × (o ≡ Some u)
kept-by true o so = (refl, so)
kept-by false o so = cc

-- so does a reader, which reads texts part by part
module _ {S : Type 0} (behind : Piece → S → Option S) (go : S → List ℕ → S)
    (split : (s : S) (xs ys : List ℕ) → go s (xs ++ ys) ≡ go (go s xs) ys)
    (one : (p : Piece) (s u : S) (text : List ℕ) → behind p s ≡ Some u → Stands p text → go s text ≡ u) where
  read : (ps : List Piece) (s t b : S) (old new : List ℕ) → Walks behind ps s t → Chain ps old new → go b old ≡ s → go b new ≡ t
  read [] s t b old new w chain h = ap (go b) chain ∙ h ∙ w
  read (p ∷ ps) s t b old new w (mid, grows, rest) h =
      let (u, is, more) = one-step (behind p s) (λ u. Walks behind ps u t) w in
      read ps u t b mid new more rest
      (ap (go b) grows.is ∙ split b old grows.text ∙ ap (λ v. go v grows.text) h ∙ one p s u grows.text is grows.stands)

-- ---- JSON
not-quote : (c : ℕ) → is_spelled c ≡ true → (c == 34) ≡ false
not-quote c h = grind (arith, common_steps)

text-byte : (c : ℕ) → is_spelled c ≡ true → json.is_text c ≡ true
text-byte c h = grind (arith, common_steps)

in-text : (nest : List Nest) (text : List ℕ) → IsSpelled text → json.after (at Text nest) text ≡ at Text nest
in-text nest [] h = refl
in-text nest (c ∷ cs) h =
    let parts = and_parts (is_spelled c) (list_all is_spelled cs) h in
    let one : json.step (at Text nest) c ≡ at Text nest =
    ap (λ b. cond b (at Behind nest) (cond (json.is_text c) (at Text nest) (at Failed nest))) (not-quote c parts.0)
    ∙ ap (λ b. cond b (at Text nest) (at Failed nest)) (text-byte c parts.0) in
    ap (λ s. json.after s cs) one ∙ in-text nest cs parts.1

in-number : (nest : List Nest) (ds : List ℕ) → list_all is_ascii_digit ds ≡ true → json.after (at (Number true) nest) ds ≡ at (Number true) nest
in-number nest [] h = refl
in-number nest (d ∷ ds) h =
    let parts = and_parts (is_ascii_digit d) (list_all is_ascii_digit ds) h in
    let one : json.step (at (Number true) nest) d ≡ at (Number true) nest =
    ap (λ b. cond b (at (Number true) nest) (cond (d == 46) (at Point nest) (json.behind nest d))) parts.0 in
    ap (λ s. json.after s ds) one ∙ in-number nest ds parts.1

no-space : (d : ℕ) → is_ascii_digit d ≡ true → json.is_space d ≡ false
no-space d h = grind (arith, common_steps)

no-bracket : (d : ℕ) → is_ascii_digit d ≡ true → (d == 91) ≡ false
no-bracket d h = grind (arith, common_steps)

no-brace : (d : ℕ) → is_ascii_digit d ≡ true → (d == 123) ≡ false
no-brace d h = grind (arith, common_steps)

no-quote : (d : ℕ) → is_ascii_digit d ≡ true → (d == 34) ≡ false
no-quote d h = grind (arith, common_steps)

first-digit : (nest : List Nest) (d : ℕ) → is_ascii_digit d ≡ true → json.step (at Value nest) d ≡ at (Number (not (d == 48))) nest
first-digit nest d h =
    let number : State = at (Number (not (d == 48))) nest in
    let broken : State = at Failed nest in
    ap (λ b. cond b (at Value nest) (json.begins nest d)) (no-space d h)
    ∙ ap (λ b. cond b (at First (Array ∷ nest))
    (cond (d == 123) (at Opened (Object ∷ nest)) (cond (d == 34) (at Text nest) (cond (is_ascii_digit d) number broken))))
    (no-bracket d h)
    ∙ ap (λ b. cond b (at Opened (Object ∷ nest)) (cond (d == 34) (at Text nest) (cond (is_ascii_digit d) number broken))) (no-brace d h)
    ∙ ap (λ b. cond b (at Text nest) (cond (is_ascii_digit d) number broken)) (no-quote d h)
    ∙ ap (λ b. cond b number broken) h

no-zero : (d : ℕ) → 48 < d → (d == 48) ≡ false
no-zero d h = grind (arith, common_steps)

digits-read : (nest : List Nest) (ds : List ℕ) → list_all is_ascii_digit ds ≡ true → 48 < get_or ds 0 0 →
    json.after (at Value nest) ds ≡ at (Number true) nest
digits-read nest [] h first = absurd (omega (arith, first))
digits-read nest (d ∷ ds) h first =
    let parts = and_parts (is_ascii_digit d) (list_all is_ascii_digit ds) h in
    ap (λ s. json.after s ds) (first-digit nest d parts.0 ∙ ap (λ b. at (Number (not b)) nest) (no-zero d first)) ∙ in-number nest ds parts.1

not-none : (n : ℕ) → 0 < n → (n == 0) ≡ false
not-none n h = grind (arith, common_steps)

number-read : (nest : List Nest) (n : ℕ) → n < 2 ^ 64 → json.after (at Value nest) (decimal n) ≡ at (Number (not (n == 0))) nest
number-read nest zero small = ap (json.after (at Value nest)) (decimal_digit 0 (lit< tt))
number-read nest (suc n) small =
    let some : 0 < suc n = omega arith in
    digits-read nest (decimal (suc n)) (digits-of (decimal (suc n)) (suc n) small refl) (first_decimal (suc n) some small)
    ∙ ap (λ b. at (Number (not b)) nest) (sym (not-none (suc n) some))

that-state : (s t : State) → Some s ≡ Some t → s ≡ t
that-state s t e = cc

number-leads : (n : ℕ) (p : Place) (nest : List Nest) (u : State) (text : List ℕ) → number_behind n p nest ≡ Some u → text ≡ decimal n → n < 2 ^ 64 →
    json.after (at p nest) text ≡ u
number-leads n Value nest u text e is small =
    ap (json.after (at Value nest)) is ∙ number-read nest n small ∙ that-state (at (Number (not (n == 0))) nest) u e
number-leads n Text nest u text e is small =
    ap (json.after (at Text nest)) is ∙ in-text nest (decimal n) (number-spelled n small) ∙ that-state (at Text nest) u e
number-leads n other nest u text e is small = cc

words-lead : (p : Place) (nest : List Nest) (u : State) (text : List ℕ) → spelled_behind p nest ≡ Some u → IsSpelled text → json.after (at p nest) text ≡ u
words-lead Text nest u text e h = in-text nest text h ∙ that-state (at Text nest) u e
words-lead other nest u text e h = cc

piece-leads : (p : Piece) (s u : State) (text : List ℕ) → behind p s ≡ Some u → Stands p text → json.after s text ≡ u
piece-leads (piece.Word bytes) s u text e is = ap (json.after s) is ∙ that-state (json.after s bytes.now) u e
piece-leads (piece.Number n) s u text e stands = number-leads n s.place s.nest u text e stands.0 stands.1
piece-leads (piece.With bytes n) s u text e stands =
    let (spelled, on) = kept-by (list_all is_spelled bytes.now) (spelled_behind s.place s.nest) e in
    words-lead s.place s.nest u text on (stands spelled)
piece-leads other s u text e stands = words-lead s.place s.nest u text e stands

abbrev pub JsonAt : State → List ℕ → Type 0
JsonAt s text = json.after json.start text ≡ s

pub json_leads : {A E : Type 0} (r : Result A E) (ps : List Piece) (s t : State) (old new : List ℕ) → OnOk r (GrowsBy ps old new) →
    Walks behind ps s t → OnOk r (Leads (JsonAt s) (JsonAt t) old new)
json_leads r ps s t old new done walks =
    let leads : GrowsBy ps old new → Leads (JsonAt s) (JsonAt t) old new =
    λ grows before h. fold-append json.step json.start before new
    ∙ read behind json.after (λ v xs ys. fold-append json.step v xs ys) piece-leads ps s t (json.after json.start before) old new walks grows.chain
    (sym (fold-append json.step json.start before old) ∙ h) in
    on_ok_weaker r leads done

-- ---- diagrams
no-newline : (c : ℕ) → is_spelled c ≡ true → (c == 10) ≡ false
no-newline c h = grind (arith, common_steps)

plain-byte : (c : ℕ) → is_spelled c ≡ true → (c == 35) ≡ false → diagrams.is_plain c ≡ true
plain-byte c h e = grind (arith, common_steps)

one-escaped : (c : ℕ) → is_spelled c ≡ true → diagrams.after (Due []) (escape c) ≡ Due []
one-escaped c h = by (c == 35) refl where
  by : (b : Bool) → (c == 35) ≡ b → diagrams.after (Due []) (cond b (codes "#35;") (c ∷ [])) ≡ Due []
  by true e = refl
  by false e =
      ap (λ b. cond b (Due (codes "    ")) (cond (c == 35) (Due (codes "35;")) (cond (diagrams.is_plain c) (Due []) Broken))) (no-newline c h)
      ∙ ap (λ b. cond b (Due (codes "35;")) (cond (diagrams.is_plain c) (Due []) Broken)) e
      ∙ ap (λ b. cond b (Due []) Broken) (plain-byte c h e)

in-line : (text : List ℕ) → IsSpelled text → diagrams.after (Due []) (flat_map escape text) ≡ Due []
in-line [] h = refl
in-line (c ∷ cs) h =
    let parts = and_parts (is_spelled c) (list_all is_spelled cs) h in
    fold-append diagrams.step (Due []) (escape c) (flat_map escape cs)
    ∙ ap (λ p. diagrams.after p (flat_map escape cs)) (one-escaped c parts.0) ∙ in-line cs parts.1

abbrev read-escaped : diagrams.Place → List ℕ → diagrams.Place
read-escaped p text = diagrams.after p (flat_map escape text)

escaped-split : (p : diagrams.Place) (xs ys : List ℕ) → read-escaped p (xs ++ ys) ≡ read-escaped (read-escaped p xs) ys
escaped-split p xs ys = ap (diagrams.after p) (flat_map-append escape xs ys) ∙ fold-append diagrams.step p (flat_map escape xs) (flat_map escape ys)

that-place : (p q : diagrams.Place) → Some p ≡ Some q → p ≡ q
that-place p q e = cc

line-leads : (p u : diagrams.Place) (text : List ℕ) → line_behind p ≡ Some u → IsSpelled text → read-escaped p text ≡ u
line-leads (Due []) u text e h = in-line text h ∙ that-place (Due []) u e
line-leads (Due (d ∷ ds)) u text e h = cc
line-leads Broken u text e h = cc

escaped-leads : (p : Piece) (s u : diagrams.Place) (text : List ℕ) → escaped_behind p s ≡ Some u → Stands p text → read-escaped s text ≡ u
escaped-leads (piece.Word bytes) s u text e is = ap (read-escaped s) is ∙ that-place (read-escaped s bytes.now) u e
escaped-leads (piece.Number n) s u text e stands =
    line-leads s u text e (subst IsSpelled (sym stands.0) (number-spelled n stands.1))
escaped-leads (piece.With bytes n) s u text e stands =
    let (spelled, on) = kept-by (list_all is_spelled bytes.now) (line_behind s) e in
    line-leads s u text on (stands spelled)
escaped-leads other s u text e stands = line-leads s u text e stands

pub diagram_line : (ps : List Piece) (empty plain old new : List ℕ) → empty ≡ [] → GrowsBy ps empty plain → new ≡ old ++ flat_map escape plain →
    Walks escaped_behind ps margin margin → Keeps Diagram old new
diagram_line ps empty plain old new none grows is walks before h =
    ap (λ l. diagrams.after diagrams.start (before ++ l)) is
    ∙ ap (diagrams.after diagrams.start) (sym (append_assoc before old (flat_map escape plain)))
    ∙ fold-append diagrams.step diagrams.start (before ++ old) (flat_map escape plain)
    ∙ ap (λ p. diagrams.after p (flat_map escape plain)) h
    ∙ read escaped_behind read-escaped escaped-split escaped-leads ps margin margin margin empty plain walks grows.chain (ap (read-escaped margin) none)
