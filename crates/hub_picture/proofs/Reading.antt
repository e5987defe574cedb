-- What leads a reader of XML from one place to another, step by step.
use Rattle.std.proofs.Common.{◌≡◌, ◌∙◌, ◌++◌, ◌+◌, ◌<◌, ◌≤◌, ◌&&◌, ℕ, Bool, true, false, cond, List, [], ◌∷◌, Option, None, Some, Result, Ok, Err}
use Rattle.std.proofs.Common.{IsErr, refl, sym, arith, ap, drop, get_or, length}
use Rattle.std.specs.Prelude.{OnOk}
use Rattle.std.specs.Borrow.{Bor}
use Rattle.std.specs.Global.{Vec}
use Rattle.std.specs.List.{list_all}
use Rattle.std.proofs.lemmas.Grind.{common_steps}
use Rattle.std.proofs.lemmas.List.{at_drop_more, drop_all, get_or_default}
use Rattle.hub_picture.specs.declared.piece.Piece.{Piece}
use Rattle.hub_picture.specs.declared.piece.Piece.TheVariants.{Word, If}
use Rattle.hub_picture.specs.Xml.{Name, State, after, step, is_plain}
use Rattle.hub_picture.specs.Xml.State.{Inside, Value}
use Rattle.hub_picture.specs.Reading.{AreElements, Elements, Leads, Reads, Plain, IsPlain, WritesPiece, takes_text, behind_pieces, behind_words}

pub after-append : (s : State) (xs ys : List ℕ) → after s (xs ++ ys) ≡ after (after s xs) ys
after-append s [] ys = refl
after-append s (x ∷ xs) ys = after-append (step s x) xs ys

-- where memory was refused
pub failed : {E : Type 0} {old new : Vec ℕ} {from to : State} {result : Result (Unit {0}) E} → IsErr result → Reads old new from to result
failed {result = Ok u} wrong = grind (arith, wrong)
failed {result = Err e} right = record { ok = _ }

pub refused : {E : Type 0} {old new : Vec ℕ} {result : Result (Unit {0}) E} → IsErr result → Plain old new result
refused wrong = record { at = λ s takes. failed wrong }

-- one behind the other
pub then : {E F : Type 0} {old mid new : Vec ℕ} {a b c : State} {u : Unit {0}} {result : Result (Unit {0}) E} → Reads {E = F} old mid a b (Ok u) →
    Reads mid new b c result → Reads old new a c result
then {result = Ok u} first more = record { ok = λ s was. more.ok s (first.ok s was) }
then {result = Err e} first more = record { ok = _ }

pub then-plain : {E F : Type 0} {old mid new : Vec ℕ} {u : Unit {0}} {result : Result (Unit {0}) E} → Plain {E = F} old mid (Ok u) →
    Plain mid new result → Plain old new result
then-plain first more = record { at = λ s takes. then (first.at s takes) (more.at s takes) }

pub none : {E : Type 0} {old : Vec ℕ} {at : State} {u : Unit {0}} → Reads {E = E} old old at at (Ok u)
none = record { ok = λ s was. was }

-- ---- whole elements
pub record LeadsOn (old new : Vec ℕ) : Type 0 where
  pub at : (name : Name) → (around : List Name) → Leads old new (Inside name around) (Inside name around)

pub elements-more : {E : Type 0} {old mid new : Vec ℕ} {u : Unit {0}} → LeadsOn old mid → Elements {E = E} mid new (Ok u) → LeadsOn old new
elements-more on more = record { at = λ name around s was. (more name around).ok s (on.at name around s was) }

pub elements-so-far : {E : Type 0} {old now : Vec ℕ} {u : Unit {0}} → LeadsOn old now → Elements {E = E} old now (Ok u)
elements-so-far on name around = record { ok = on.at name around }

pub elements-none : {old : Vec ℕ} → LeadsOn old old
elements-none = record { at = λ name around s was. was }

pub as-elements : {E : Type 0} {old new : Vec ℕ} (text : List ℕ) {result : Result (Unit {0}) E} → AreElements text →
    ((at : State) → Reads old new at (after at text) result) → Elements old new result
as-elements text {result = Ok u} are reads name around =
    record { ok = λ s was. (reads (Inside name around)).ok s was ∙ are name around }
as-elements text {result = Err e} are reads name around = record { ok = _ }

-- bytes
pub appended : {E : Type 0} {old new : Vec ℕ} (at : State) (text : List ℕ) {result : Result (Unit {0}) E} →
    OnOk result (new.items ≡ old.items ++ text) → Reads old new at (after at text) result
appended {old} at text {result = Ok u} is = record { ok = λ s was. ap (after s) is ∙ after-append s old.items text ∙ ap (λ r. after r text) was }
appended at text {result = Err e} is = record { ok = _ }

both : (a b : Bool) → (a && b) ≡ true → (a ≡ true) × (b ≡ true)
both true true h = (refl, refl)
both true false h = cc
both false b h = cc

plain-step : (s : State) (c : ℕ) → takes_text s ≡ true → is_plain c ≡ true → step s c ≡ s
plain-step (Inside name around) c takes plain = grind (arith, common_steps)
plain-step (Value tag) c takes plain = grind (arith, common_steps)
plain-step s c takes plain = cc

pub after-plain : (s : State) (text : List ℕ) → takes_text s ≡ true → IsPlain text → after s text ≡ s
after-plain s [] takes plain = refl
after-plain s (c ∷ cs) takes plain =
    let parts = both (is_plain c) (list_all is_plain cs) plain in
    ap (λ r. after r cs) (plain-step s c takes parts.0) ∙ after-plain s cs takes parts.1

pub plain : {E : Type 0} {old new : Vec ℕ} (text : List ℕ) {result : Result (Unit {0}) E} → OnOk result (new.items ≡ old.items ++ text) →
    IsPlain text → Plain old new result
plain {E} {old} {new} text {result = Ok u} is fits = record {
  at = λ s takes. record {
    ok = λ r was. (appended {E = E} {old = old} {new = new} s text {result = Ok u} is).ok r was ∙ after-plain s text takes fits;
  };
}
plain text {result = Err e} is fits = record { at = λ s takes. record { ok = _ } }

pub nothing : {E : Type 0} {old : Vec ℕ} {u : Unit {0}} → Plain {E = E} old old (Ok u)
nothing = record { at = λ s takes. record { ok = λ r was. was } }

-- ---- pieces and words, of which some are left
pub record Goes {X : Type 0} (behind : State → List X → Option State) (old now : Vec ℕ) (all rest : List X) : Type 0 where
  pub on : (at to : State) → behind at all ≡ Some to → (mid : State) × Leads old now at mid × (behind mid rest ≡ Some to)

pub begin : {X : Type 0} (behind : State → List X → Option State) (old : Vec ℕ) (all : List X) → Goes behind old old all all
begin behind old all = record { on = λ at to so. (at, (λ s was. was), so) }

some-same : {a b : State} → Some a ≡ Some b → a ≡ b
some-same is = cc

kept-by : (b : Bool) (s : Option State) {to : State} → cond b s None ≡ Some to → (b ≡ true) × (s ≡ Some to)
kept-by true s so = (refl, so)
kept-by false s so = cc

-- none is left
ends : {X : Type 0} {E : Type 0} (behind : State → List X → Option State) (old now : Vec ℕ) (all : List X) (i : ℕ) {u : Unit {0}} →
    ((s : State) → behind s [] ≡ Some s) → length all ≤ i → Goes behind old now all (drop i all) → (at to : State) → behind at all ≡ Some to →
    Reads {E = E} old now at to (Ok u)
ends behind old now all i last past goes at to so =
    let (mid, leads, left) = goes.on at to so in
    let is : mid ≡ to = some-same (sym (last mid) ∙ ap (behind mid) (sym (drop_all i all past)) ∙ left) in
    record { ok = λ s was. leads s was ∙ is }

pub pieces-end : {E : Type 0} {old now : Vec ℕ} (all : List Piece) (i : ℕ) {u : Unit {0}} → length all ≤ i →
    Goes behind_pieces old now all (drop i all) → (at to : State) → behind_pieces at all ≡ Some to → Reads {E = E} old now at to (Ok u)
pieces-end {old} {now} all i past goes = ends behind_pieces old now all i (λ s. refl) past goes

pub words-end : {E : Type 0} {old now : Vec ℕ} (all : List (Bor (List ℕ))) (i : ℕ) {u : Unit {0}} → length all ≤ i →
    Goes behind_words old now all (drop i all) → (at to : State) → behind_words at all ≡ Some to → Reads {E = E} old now at to (Ok u)
words-end {old} {now} all i past goes = ends behind_words old now all i (λ s. refl) past goes

-- one more
abbrev Next : {X : Type 0} → (State → List X → Option State) → Vec ℕ → Vec ℕ → X → List X → Type 0
Next behind old new x rest =
    (at to : State) → behind at (x ∷ rest) ≡ Some to → (mid : State) × Leads old new at mid × (behind mid rest ≡ Some to)

step-on : {X : Type 0} (behind : State → List X → Option State) (old mid new : Vec ℕ) (all : List X) (i : ℕ) (x : X) → i < length all →
    x ≡ get_or all i x → Goes behind old mid all (drop i all) → Next behind mid new x (drop (i + 1) all) → Goes behind old new all (drop (i + 1) all)
step-on behind old mid new all i x below is goes next = record {
  on = λ at to so.
      let (here, leads, left) = goes.on at to so in
      let split : behind here (x ∷ drop (i + 1) all) ≡ Some to =
      ap (λ y. behind here (y ∷ drop (i + 1) all)) is ∙ sym (at_drop_more (behind here) all i x below) ∙ left in
      let (there, more, rest) = next here to split in
      (there, (λ s was. more s (leads s was)), rest);
}

piece-next : (E : Type 0) (old new : Vec ℕ) (p : Piece) (rest : List Piece) {u : Unit {0}} → WritesPiece {E = E} old new p (Ok u) →
    Next behind_pieces old new p rest
piece-next E old new (Word bytes) rest put at to so = (after at bytes.now, (put at).ok, so)
piece-next E old new (If b bytes) rest put at to so =
    let (fits, left) = kept-by (takes_text at && list_all is_plain bytes.now) (behind_pieces at rest) so in
    let (takes, plain) = both (takes_text at) (list_all is_plain bytes.now) fits in
    (at, ((put plain).at at takes).ok, left)
piece-next E old new p rest put at to so =
    let (takes, left) = kept-by (takes_text at) (behind_pieces at rest) so in
    (at, (put.at at takes).ok, left)

pub piece-goes : (E : Type 0) {old mid : Vec ℕ} (new : Vec ℕ) (all : List Piece) (i : ℕ) (p : Piece) {u : Unit {0}} → i < length all → p ≡ get_or all i p →
    Goes behind_pieces old mid all (drop i all) → WritesPiece {E = E} mid new p (Ok u) → Goes behind_pieces old new all (drop (i + 1) all)
piece-goes E {old} {mid} new all i p below is goes put =
    step-on behind_pieces old mid new all i p below is goes (piece-next E mid new p (drop (i + 1) all) put)

word-next : (E : Type 0) (old new : Vec ℕ) (w : Bor (List ℕ)) (rest : List (Bor (List ℕ))) {u : Unit {0}} →
    ((at : State) → takes_text (after at w.now) ≡ true → Reads {E = E} old new at (after at w.now) (Ok u)) → Next behind_words old new w rest
word-next E old new w rest put at to so =
    let (takes, left) = kept-by (takes_text (after at w.now)) (behind_words (after at w.now) rest) so in
    (after at w.now, (put at takes).ok, left)

pub word-goes : (E : Type 0) {old mid : Vec ℕ} (new : Vec ℕ) (all : List (Bor (List ℕ))) (i : ℕ) (d : Bor (List ℕ)) {u : Unit {0}} → i < length all →
    Goes behind_words old mid all (drop i all) →
    ((at : State) → takes_text (after at (get_or all i d).now) ≡ true → Reads {E = E} mid new at (after at (get_or all i d).now) (Ok u)) →
    Goes behind_words old new all (drop (i + 1) all)
word-goes E {old} {mid} new all i d below goes put =
    step-on behind_words old mid new all i (get_or all i d) below (get_or_default all i d (get_or all i d) below) goes
    (word-next E mid new (get_or all i d) (drop (i + 1) all) put)
