-- Things that are kept by the numbers of ports, when a list or a thing more comes.
use Rattle.std.proofs.Common.{◌≡◌, ◌<◌, ◌==◌, ℕ, zero, suc, Bool, true, false, cond, List, [], ◌∷◌, ◌++◌, length, map}
use Rattle.std.proofs.Common.{refl, ap, ◌∙◌, sym, subst, arith, append-nil}
use Rattle.std.specs.Prelude.{slice_index_or, slice_set}
use Rattle.std.specs.Global.{Vec}
use Rattle.std.proofs.lemmas.Bool.{eqb-true, eqb-false}
use Rattle.std.proofs.lemmas.List.{get_or-map, get_or-set_same, get_or-set_other, length-map, map-append, map-set}
use Rattle.hub_base.specs.declared.value.Port.{Port}
use Rattle.hub_story.specs.OfPorts.{one_of, things_on, without}

-- an empty list more
pub none-more : {T : Type 0} (lists : List (List T)) → ((k : ℕ) → slice_index_or lists k [] ≡ []) → (k : ℕ) → slice_index_or (lists ++ [] ∷ []) k [] ≡ []
none-more [] none zero = refl
none-more [] none (suc k) = refl
none-more (l ∷ ls) none zero = none zero
none-more (l ∷ ls) none (suc k) = none-more ls (λ j. none (suc j)) k

pub none-pushed : {T : Type 0} (old new : List (Vec T)) (v : Vec T) → ((k : ℕ) → slice_index_or (map (λ (v : Vec T). v.items) old) k [] ≡ []) →
    v.items ≡ [] → new ≡ old ++ v ∷ [] → (k : ℕ) → slice_index_or (map (λ (v : Vec T). v.items) new) k [] ≡ []
none-pushed {T} old new v none empty is k =
    let items : Vec T → List T = λ v. v.items in
    ap (λ l. slice_index_or l k []) (ap (map items) is ∙ map-append items old (v ∷ []) ∙ ap (λ l. map items old ++ l ∷ []) empty)
    ∙ none-more (map items old) none k

-- a thing more of one port
things-more : {T : Type 0} (lists : List (List T)) (p q : Port) (x : T) → p.0 < length lists →
    things_on (slice_set lists p.0 (things_on lists p ++ x ∷ [])) q ≡ things_on lists q ++ one_of p q x
things-more lists p q x below = by (p.0 == q.0) refl
  where
    by : (b : Bool) → b ≡ (p.0 == q.0) →
        things_on (slice_set lists p.0 (things_on lists p ++ x ∷ [])) q ≡ things_on lists q ++ cond b (x ∷ []) []
    by true is =
        let same : p.0 ≡ q.0 = eqb-true p.0 q.0 (sym is) in
        ap (λ k. slice_index_or (slice_set lists p.0 (things_on lists p ++ x ∷ [])) k []) (sym same)
        ∙ get_or-set_same lists p.0 (things_on lists p ++ x ∷ []) [] below
        ∙ ap (λ k. slice_index_or lists k [] ++ x ∷ []) same
    by false is =
        get_or-set_other lists p.0 q.0 (things_on lists p ++ x ∷ []) [] (λ e. eqb-false p.0 q.0 (sym is) (sym e))
        ∙ sym (append-nil (things_on lists q))

-- so where it is pushed behind those of its port
pub things-pushed : {T : Type 0} (lists : List (Vec T)) (old new : Vec T) (i : ℕ) (p q : Port) (x : T) → p.0 < length lists → i ≡ p.0 →
    old ≡ slice_index_or lists i old → new.items ≡ old.items ++ x ∷ [] →
    things_on (map (λ (v : Vec T). v.items) (slice_set lists i new)) q ≡ things_on (map (λ (v : Vec T). v.items) lists) q ++ one_of p q x
things-pushed {T} lists old new i p q x below is was more =
    let items : Vec T → List T = λ v. v.items in
    let all = map items lists in
    let own : old.items ≡ things_on all p =
    ap items was ∙ sym (get_or-map items lists i old [] (subst (λ k. k < length lists) (sym is) below)) ∙ ap (λ k. slice_index_or all k []) is in
    ap (λ l. things_on l q) (map-set items lists i new)
    ∙ ap (λ l. things_on (slice_set all i l) q) (more ∙ ap (λ l. l ++ x ∷ []) own)
    ∙ ap (λ k. things_on (slice_set all k (things_on all p ++ x ∷ [])) q) is
    ∙ things-more all p q x (omega (arith, below, length-map lists items))

-- the things of one port taken out
things-fewer : {T : Type 0} (lists : List (List T)) (p q : Port) → p.0 < length lists →
    things_on (slice_set lists p.0 []) q ≡ without p q (things_on lists q)
things-fewer lists p q below = by (p.0 == q.0) refl
  where
    by : (b : Bool) → b ≡ (p.0 == q.0) → things_on (slice_set lists p.0 []) q ≡ cond b [] (things_on lists q)
    by true is =
        ap (λ k. slice_index_or (slice_set lists p.0 []) k []) (sym (eqb-true p.0 q.0 (sym is))) ∙ get_or-set_same lists p.0 [] [] below
    by false is = get_or-set_other lists p.0 q.0 [] [] (λ e. eqb-false p.0 q.0 (sym is) (sym e))

pub things-cleared : {T : Type 0} (lists : List (Vec T)) (new : Vec T) (i : ℕ) (p q : Port) → p.0 < length lists → i ≡ p.0 → new.items ≡ [] →
    things_on (map (λ (v : Vec T). v.items) (slice_set lists i new)) q ≡ without p q (things_on (map (λ (v : Vec T). v.items) lists) q)
things-cleared {T} lists new i p q below is none =
    let items : Vec T → List T = λ v. v.items in
    let all = map items lists in
    ap (λ l. things_on l q) (map-set items lists i new)
    ∙ ap (λ l. things_on (slice_set all i l) q) none
    ∙ ap (λ k. things_on (slice_set all k []) q) is
    ∙ things-fewer all p q (omega (arith, below, length-map lists items))
