-- Events that are heard one after the other.
use Rattle.std.proofs.Common.{◌≡◌, ◌∙◌, ◌++◌, ◌∷◌, [], ℕ, List, ap, sym, subst, refl, append_assoc, arith}
use Rattle.std.proofs.lemmas.List.{append-nil, length-append}
use Rattle.hub_base.specs.declared.event.Event.{Event}
use Rattle.hub_core.specs.Hearing.{Heard}

-- the same events
pub heard_as : {S : Type 0} {heard : S → List Event → S → Type 0} {room : S → ℕ} {old new : S} {xs ys : List Event}
    → Heard heard room old new xs → xs ≡ ys → Heard heard room old new ys
heard_as {S} {heard} {room} {old} {new} h same = subst (λ es. Heard heard room old new es) same h

-- some events, and then others
pub heard_on : {S : Type 0} {heard : S → List Event → S → Type 0} {room : S → ℕ} {a b c : S} {xs ys : List Event}
    → ((a b c : S) (xs ys : List Event) → heard a xs b → heard b ys c → heard a (xs ++ ys) c)
    → Heard heard room a b xs → Heard heard room b c ys → Heard heard room a c (xs ++ ys)
heard_on {S} {heard} {room} {a} {b} {c} {xs} {ys} goes_on first then = record {
  events = goes_on a b c xs ys first.events then.events;
  fits = omega (arith, length-append xs ys, first.fits, then.fits);
}

-- what was heard so far, and what of the whole is left to hear
pub record HeardSo {S : Type 0} (heard : S → List Event → S → Type 0) (room : S → ℕ) (old now : S) (left whole : List Event) : Type 0 where
  pub done : List Event
  pub so : Heard heard room old now done
  pub rest : done ++ left ≡ whole

-- nothing yet
pub heard_none : {S : Type 0} {heard : S → List Event → S → Type 0} {room : S → ℕ} (s : S) (whole : List Event)
    → ((a : S) → heard a [] a) → HeardSo heard room s s whole whole
heard_none s whole begins = record { done = []; so = record { events = begins s; fits = omega arith }; rest = refl }

-- one event more
pub heard_one : {S : Type 0} {heard : S → List Event → S → Type 0} {room : S → ℕ} {old now new : S} {left rest whole : List Event} {e : Event}
    → ((a b c : S) (xs ys : List Event) → heard a xs b → heard b ys c → heard a (xs ++ ys) c)
    → HeardSo heard room old now left whole → Heard heard room now new (e ∷ []) → left ≡ e ∷ rest → HeardSo heard room old new rest whole
heard_one {rest = rest} {e = e} goes_on so one first = record {
  done = so.done ++ e ∷ [];
  so = heard_on goes_on so.so one;
  rest = append_assoc so.done (e ∷ []) rest ∙ ap (λ es. so.done ++ es) (sym first) ∙ so.rest;
}

-- and nothing is left
pub heard_all : {S : Type 0} {heard : S → List Event → S → Type 0} {room : S → ℕ} {old now : S} {left whole : List Event}
    → HeardSo heard room old now left whole → left ≡ [] → Heard heard room old now whole
heard_all so none = heard_as so.so (sym (append-nil so.done) ∙ ap (λ es. so.done ++ es) (sym none) ∙ so.rest)
