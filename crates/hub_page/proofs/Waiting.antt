-- Where calls wait, after one event more.
use Rattle.std.proofs.Common.{Bool, List, None, Option, Some, [], ap, append-nil, cond, false, filter, refl, sym, true, ℕ, ◌++◌, ◌∙◌, ◌∷◌, ◌≡◌}
use Rattle.std.specs.List.{last_or}
use Rattle.std.proofs.lemmas.List.Elements.{filter-append}
use Rattle.hub_story.specs.declared.told.Told.{Told}
use Rattle.hub_page.specs.declared.parked_calls.ParkedCalls.{ParkedCalls}
use Rattle.hub_page.specs.Lanes.{is_news, parked_place, waiting_call}
use Rattle.hub_page.specs.ParkedCalls.{AreNext, AreParked}

last-push : (o : Option Told) (xs : List Told) (t : Told) → last_or o (xs ++ t ∷ []) ≡ Some t
last-push o [] t = refl
last-push o (x ∷ xs) t = last-push (Some x) xs t

waiting-more : (procs lane : ℕ) (until : List Told) (t : Told) →
    waiting_call procs lane (until ++ t ∷ []) ≡ cond (is_news procs lane t) (parked_place (Some t)) (waiting_call procs lane until)
waiting-more procs lane until t =
    ap (λ l. parked_place (last_or None l)) (filter-append (is_news procs lane) until (t ∷ [])) ∙ by (is_news procs lane t) refl
  where
    by : (b : Bool) → is_news procs lane t ≡ b →
        parked_place (last_or None (filter (is_news procs lane) until ++ filter (is_news procs lane) (t ∷ [])))
        ≡ cond (is_news procs lane t) (parked_place (Some t)) (waiting_call procs lane until)
    by true e = rw e (ap parked_place (last-push None (filter (is_news procs lane) until) t))
    by false e = rw e (ap (λ l. parked_place (last_or None l)) (append-nil (filter (is_news procs lane) until)))

pub calls-more : (procs : ℕ) (until : List Told) (t : Told) (old new : ParkedCalls) → AreParked procs until old → AreNext procs t old new →
    AreParked procs (until ++ t ∷ []) new
calls-more procs until t old new was next lane few =
    next lane few ∙ ap (cond (is_news procs lane t) (parked_place (Some t))) (was lane few) ∙ sym (waiting-more procs lane until t)
