-- The steps by which events come never go back.
use Rattle.std.proofs.Common.{◌≡◌, ◌≤◌, ℕ, List, [], ◌∷◌, ◌++◌, length, sym, subst, arith, length-append}
use Rattle.std.specs.List.{AllByRecursion, filter_map}
use Rattle.hub_base.specs.declared.head.Head.{Head}
use Rattle.hub_base.specs.Entry.{Entry}
use Rattle.hub_base.specs.State.{opening}
use Rattle.hub_base.specs.Values.{Turned, turns_after}
use Rattle.hub_story.specs.declared.told.Told.{Told}
use Rattle.hub_story.specs.Told.{tells_it, told_from, told}
use Rattle.hub_story.specs.Stories.{IsFrom}
use Rattle.hub_story.proofs.InTime.{turn-by}

lower : (n m : ℕ) (ts : List Told) → n ≤ m → IsFrom m ts → IsFrom n ts
lower n m [] below so = tt
lower n m (t ∷ ts) below so = (omega (arith, below, so.0), so.1)

joined : (n m : ℕ) (xs ys : List Told) → AllByRecursion (λ x. x.by ≡ n) xs → n ≤ m → IsFrom m ys → IsFrom n (xs ++ ys)
joined n m [] ys all below so = lower n m ys below so
joined n m (x ∷ xs) ys all below so =
    (omega (arith, all.0), subst (λ k. IsFrom k (xs ++ ys)) (sym all.0) (joined n m xs ys all.1 below so))

from-turns : (before ts : List Turned) → IsFrom (length before) (told_from before ts)
from-turns before [] = tt
from-turns before (t ∷ ts) =
    joined (length before) (length (before ++ t ∷ [])) (filter_map (tells_it before t) t.events) (told_from (before ++ t ∷ []) ts)
    (turn-by before t) (omega (arith, length-append before (t ∷ []))) (from-turns (before ++ t ∷ []) ts)

pub in-order : (h : Head) (es : List Entry) → IsFrom 0 (told h es)
in-order h es = from-turns [] (turns_after (opening h) es)
