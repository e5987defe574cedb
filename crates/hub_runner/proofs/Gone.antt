-- A process that has exited has made an exit.
use Rattle.std.proofs.Common.{◌≡◌, ℕ, ◌==◌, ◌&&◌, ◌||◌, Bool, true, false, cond, List, [], ◌∷◌, Option, None, Some, refl, sym, ◌∙◌}
use Rattle.std.specs.List.{list_any}
use Rattle.hub_base.specs.Entry.{Entry}
use Rattle.hub_base.specs.declared.fault.Fault.{Fault}
use Rattle.hub_base.specs.declared.head.Head.{Head}
use Rattle.hub_base.specs.Reading.{is_exit}
use Rattle.hub_base.specs.Runs.{admits, moves, state, state_after}
use Rattle.hub_base.specs.State.{State, opening}
use Rattle.hub_base.specs.Steps.{has_gone, refusal}
use Rattle.hub_laws.specs.Replies.{own}
use Rattle.hub_laws.proofs.Lasting.{turn-leaves}
use Rattle.hub_runner.specs.Working.{has_exited}

exited_by : (here exit : Bool) (e : Entry) (rest : List Entry) → exit ≡ is_exit e.step → (exit && here) ≡ true →
    list_any (λ x. is_exit x.step) (cond here (e ∷ rest) rest) ≡ true
exited_by true true e rest is h = rw (sym is) refl
exited_by here false e rest is h = cc
exited_by false true e rest is h = cc

exited_more : (here : Bool) (e : Entry) (rest : List Entry) → list_any (λ x. is_exit x.step) rest ≡ true →
    list_any (λ x. is_exit x.step) (cond here (e ∷ rest) rest) ≡ true
exited_more true e rest h = by (is_exit e.step)
  where
    by : (b : Bool) → (b || list_any (λ x. is_exit x.step) rest) ≡ true
    by true = refl
    by false = h
exited_more false e rest h = h

-- an entry by which it has
gone_by : (q : ℕ) (s : State) (e : Entry) (o : Option Fault) → has_gone (admits s e o).state q ≡ true → has_gone s q ≡ false →
    (is_exit e.step && (e.pid.0 == q)) ≡ true
gone_by q s e None is was = rw was at (sym (turn-leaves q s e) ∙ is)
gone_by q s e (Some f) is was = cc

gone_after : (q : ℕ) (s : State) (es : List Entry) → has_gone s q ≡ false → has_gone (state_after s es) q ≡ true → has_exited q es ≡ true
gone_after q s [] was is = cc
gone_after q s (e ∷ es) was is = by (has_gone (moves s e).state q) refl (λ now. gone_after q (moves s e).state es now is)
  where
    by : (b : Bool) → b ≡ has_gone (moves s e).state q → (has_gone (moves s e).state q ≡ false → has_exited q es ≡ true) →
        has_exited q (e ∷ es) ≡ true
    by true now later = exited_by (e.pid.0 == q) (is_exit e.step) e (own q es) refl (gone_by q s e (refusal s e.pid) (sym now) was)
    by false now later = exited_more (e.pid.0 == q) e (own q es) (later (sym now))

pub gone-exited : (h : Head) (q : ℕ) (es : List Entry) → has_gone (state h es) q ≡ true → has_exited q es ≡ true
gone-exited h q es is = gone_after q (opening h) es refl is
