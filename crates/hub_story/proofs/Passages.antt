-- Sends beside receives: since the values received begin those sent, each receive stands beside the
-- send of its value.
use Rattle.std.proofs.Common.{◌≡◌, List, [], ◌∷◌, ◌++◌, map, take, refl, ap, ◌∙◌, sym, Option, Some, None, take-append-drop}
use Rattle.std.specs.List.{AllByRecursion}
use Rattle.std.specs.Option.{option_map_or}
use Rattle.hub_base.specs.declared.head.Head.{Head}
use Rattle.hub_base.specs.declared.value.Port.{Port}
use Rattle.hub_base.specs.declared.value.Value.{Value}
use Rattle.hub_base.specs.Entry.{Entry}
use Rattle.hub_base.specs.State.{Channel, opening, buffer_of}
use Rattle.hub_base.specs.Runs.{state}
use Rattle.hub_base.specs.Values.{sent_values, received_values}
use Rattle.hub_laws.proofs.Kept.{sound-opening}
use Rattle.hub_laws.proofs.Totals.{total}
use Rattle.hub_laws.proofs.Deeds.{at}
use Rattle.hub_laws.proofs.Values.{sent-after, got-after, no_total}
use Rattle.hub_story.specs.declared.moved.Moved.{Moved}
use Rattle.hub_story.specs.Told.{told}
use Rattle.hub_story.specs.Passing.{beside, sends, receives}
use Rattle.hub_story.specs.Laws.{IsPassage, PassagesLaw}
use Rattle.hub_story.proofs.Stories.{sends-law}

abbrev value : Moved → Value
value m = m.value

head-same : {A : Type 0} {x y : A} {xs ys : List A} → x ∷ xs ≡ y ∷ ys → x ≡ y
head-same h = cc

tail-same : {A : Type 0} {x y : A} {xs ys : List A} → x ∷ xs ≡ y ∷ ys → xs ≡ ys
tail-same h = cc

same : (xs ys : List Moved) (rest : List Value) → map value ys ++ rest ≡ map value xs → AllByRecursion IsPassage (beside xs ys)
same [] ys rest h = tt
same (x ∷ xs) [] rest h = tt
same (x ∷ xs) (y ∷ ys) rest h = (sym (head-same h), same xs ys rest (tail-same h))

seconds : (xs ys : List Moved) (rest : List Value) → map value ys ++ rest ≡ map value xs → map (λ m. m.received) (beside xs ys) ≡ ys
seconds [] [] rest h = refl
seconds [] (y ∷ ys) rest h = absurd cc
seconds (x ∷ xs) [] rest h = refl
seconds (x ∷ xs) (y ∷ ys) rest h = ap (λ l. y ∷ l) (seconds xs ys rest (tail-same h))

-- ---- of every port, made or not, by what its channel holds
pub sent-all : (h : Head) (es : List Entry) (p : Port) → sent_values h es p ≡ total (λ c. c.sent) (state h es).channels p
sent-all h es p =
    sym (sent-after (opening h) [] es p (sound-opening h) tt ∙ ap (λ xs. xs ++ sent_values h es p) (no_total (λ c. c.sent) p))

pub received-all : (h : Head) (es : List Entry) (p : Port) → received_values h es p ≡ total (λ c. take c.received c.sent) (state h es).channels p
received-all h es p =
    sym (got-after (opening h) [] es p (sound-opening h) tt ∙ ap (λ xs. xs ++ received_values h es p) (no_total (λ c. take c.received c.sent) p))

taken-and-left : (o : Option Channel) →
    option_map_or (λ c. take c.received c.sent) o [] ++ option_map_or buffer_of o [] ≡ option_map_or (λ c. c.sent) o []
taken-and-left None = refl
taken-and-left (Some c) = take-append-drop c.received c.sent

begins : (h : Head) (es : List Entry) (p : Port) →
    map value (receives es (told h es) p) ++ total buffer_of (state h es).channels p ≡ map value (sends es (told h es) p)
begins h es p =
    ap (λ vs. vs ++ total buffer_of (state h es).channels p) ((sends-law h es).received p ∙ received-all h es p)
    ∙ taken-and-left (at (state h es).channels p) ∙ sym ((sends-law h es).sent p ∙ sent-all h es p)

pub passages-law : (h : Head) (es : List Entry) → PassagesLaw h es
passages-law h es =
    record {
      each = λ p. same (sends es (told h es) p) (receives es (told h es) p) (total buffer_of (state h es).channels p) (begins h es p);
      all = λ p. seconds (sends es (told h es) p) (receives es (told h es) p) (total buffer_of (state h es).channels p) (begins h es p);
    }
