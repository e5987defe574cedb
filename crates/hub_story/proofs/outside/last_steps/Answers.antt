use Rattle.std.proofs.Common.{◌≡◌, ◌==◌, ◌<◌, ◌≤◌, ◌+◌, ℕ, cond, List, [], ◌∷◌, length, drop, Option, Some, None, refl, ap}
use Rattle.std.proofs.Common.{sym, ◌∙◌, add-one, zero, suc, arith, slice_get}
use Rattle.std.specs.Prelude.{slice_index_or}
use Rattle.std.specs.Option.{option_map}
use Rattle.std.proofs.Math.ListN.{set, length-set}
use Rattle.std.proofs.Math.Seq.{drop-cons}
use Rattle.std.proofs.lemmas.List.{drop_all}
use Rattle.std.proofs.lemmas.Option.{get_or_from_slice_get}
use Rattle.hub_base.specs.declared.value.Pid.{Pid}
use Rattle.hub_base.specs.Entry.{Entry}
use Rattle.hub_story.specs.Outside.{last_of}
use Rattle.hub_story.proofs.Tellings.{none-called, table-set}
use Rattle.hub_story.proofs.outside.last_steps.Goals as goal
use Rattle.hub_story.proofs.outside.last_steps.Goals.{in-Some, in_default}

-- the entry at this place is of this process, which the table then tells
last-next : (es : List Entry) (place : ℕ) (table : List (Option ℕ)) (n : ℕ) (pid : Pid) (o : Option Entry) → o ≡ slice_get es place →
    Some pid ≡ option_map (λ (e : Entry). e.pid) o → place < length es → pid.0 < length table →
    last_of n (place + 1) (slice_index_or (set table pid.0 (Some place)) n None) (drop (place + 1) es)
    ≡ last_of n place (slice_index_or table n None) (drop place es)
last-next es place table n pid None is of-it below fits = absurd (cc)
last-next es place table n pid (Some e) is of-it below fits =
    let own : pid ≡ e.pid = cc in
    let here : drop place es ≡ e ∷ drop (place + 1) es =
    drop-cons es place e below ∙ ap (λ x. x ∷ drop (suc place) es) (get_or_from_slice_get es place e e (sym is))
    ∙ ap (λ k. e ∷ drop k es) (sym (add-one place)) in
    ap (λ b. last_of n (place + 1) b (drop (place + 1) es)) (table-set table pid.0 place n (pid.0 == n) refl fits)
    ∙ ap (λ (q : Pid). last_of n (place + 1) (cond (q.0 == n) (Some place) (slice_index_or table n None)) (drop (place + 1) es)) own
    ∙ ap (λ l. last_of n place (slice_index_or table n None) l) (sym here)

-- an entry within the journal is one
some-entry : (es : List Entry) (place : ℕ) → place < length es → None ≡ option_map (λ (e : Entry). e.pid) (slice_get es place) → ⊥
some-entry [] place below none = omega arith
some-entry (e ∷ es) zero below none = cc
some-entry (e ∷ es) (suc place) below none = some-entry es place (omega arith) none

pub loop-place-init : goal.loop-place-init
loop-place-init c = rw c.no_calls-last.ensures (record {
  whole = refl;
  last = λ n. ap (λ b. last_of n 0 b c.args.entries.now) (none-called 256 n);
})

pub loop-place-preserved : goal.loop-place-preserved
loop-place-preserved c =
    let es = c.args.entries.now in
    let place = c.loop-place.place in
    let table = c.loop-place.last in
    let below : place < length es = omega (arith, c.loop-place-test.true, c.len-place-end.ensures) in
    elim c.match-pid_at.branch [
      | in-Some w ↦
          let whole : w.in-Some.pid.0 < length table = omega (arith, c.loop-place.invariant.whole) in
          rw (w.last-is, w.from.ensures) (record {
            whole = length-set table w.in-Some.pid.0 (Some place) ∙ c.loop-place.invariant.whole;
            last = λ n.
                last-next es place table n w.in-Some.pid (slice_get es place) refl w.in-Some.ensures below whole
                ∙ c.loop-place.invariant.last n;
          })
      | in_default w ↦ absurd (some-entry es place below w.in_default.ensures)
    ]

pub returns : goal.returns
returns c = λ n.
    let es = c.args.entries.now in
    let place = c.loop-place.place in
    let past : length es ≤ place = omega (arith, c.loop-place-test.false, c.len-place-end.ensures) in
    ap (λ l. last_of n place (slice_index_or c.loop-place.last n None) l) (sym (drop_all place es past)) ∙ c.loop-place.invariant.last n
