-- Lists that are copied over others, from the front.
use Rattle.std.proofs.Common.{◌≡◌, ◌∙◌, ◌++◌, ◌∷◌, [], ◌<◌, ◌≤◌, ◌+◌, ◌-◌, ◌*◌, ℕ, zero, suc, List, Some, length, take, drop, ap, sym, refl, subst, arith}
use Rattle.std.specs.Prelude.{get_or, map, slice_get, slice_index_or, slice_set}
use Rattle.std.proofs.lemmas.Option.{get_or_from_slice_get, none-some, same_Some, slice_get_within}
use Rattle.std.proofs.lemmas.List.{take-append-le}
use Rattle.std.proofs.Math.Seq.{take-length}
use Rattle.hub_base.specs.declared.value.Port.{Port}
use Rattle.hub_parts.specs.declared.side.Side.{Side}
use Rattle.hub_parts.specs.declared.side.Side.TheVariants as side
use Rattle.hub_parts.specs.declared.wait_queue.TheConstants.{PLACES}
use Rattle.hub_parts.specs.Channels.{channel_of, no_channel, queue_of}
use Rattle.hub_parts.specs.Keeps.{BoardKeeps}
use Rattle.std.specs.List.{AllByRecursion}
use Rattle.std.specs.Vec.{vec_capacity}
use Rattle.hub_base.specs.declared.limits.TheConstants.{CASE_PLACES}
use Rattle.hub_parts.specs.declared.tickets.Tickets.TheInside.{Inside}
use Rattle.hub_parts.specs.declared.tickets.case_counts.CaseCounts.{CaseCounts}
use Rattle.hub_parts.specs.declared.tickets.TheConstants.{PIDS}
use Rattle.hub_parts.specs.CaseCounts.{IsCountOf}
use Rattle.hub_parts.specs.Tickets.{AreApart, IsMarked, TicketsFit, calls_of}
use Rattle.hub_parts.specs.Records.{Calls, ChannelLists, PortLists, Ticketed}
use Rattle.hub_parts.specs.Shapes.{HaveOneShape}

over : {X : Type 0} (cs ds : List X) (i : ℕ) (y : X) → i < length ds → length cs ≡ length ds → slice_get ds i ≡ Some y
    → slice_set (take i ds ++ drop i cs) i y ≡ take (suc i) ds ++ drop (suc i) cs
over cs [] i y below same at = absurd (omega (arith, below))
over [] (d ∷ ds) i y below same at = absurd (omega (arith, same))
over (c ∷ cs) (d ∷ ds) zero y below same at = ap (λ x. x ∷ cs) (sym (same_Some d y at))
over (c ∷ cs) (d ∷ ds) (suc i) y below same at = ap (λ xs. d ∷ xs) (over cs ds i y (omega (arith, below)) (omega (arith, same)) at)

-- one more is copied
pub over-next : {X : Type 0} (xs cs ds : List X) (i : ℕ) (y : X) → i < length ds → length cs ≡ length ds → slice_get ds i ≡ Some y
    → xs ≡ take i ds ++ drop i cs → slice_set xs i y ≡ take (i + 1) ds ++ drop (i + 1) cs
over-next xs cs ds i y below same at so =
    let next : suc i ≡ i + 1 = omega arith in
    ap (λ zs. slice_set zs i y) so ∙ over cs ds i y below same at ∙ ap (λ n. take n ds ++ drop n cs) next

-- all of a list that was written over another as long
pub kept-whole : {X : Type 0} (xs ys : List X) (n : ℕ) → n ≡ length xs → take n (xs ++ drop (length xs) ys) ≡ xs
kept-whole xs ys n is =
    take-append-le n xs (drop (length xs) ys) (omega (arith, is)) ∙ ap (λ k. take k xs) is ∙ take-length xs

-- boards of one shape

-- a queue has its places for each process
queue-places : (c : Calls) (cs : List ChannelLists) (i : ℕ) (x : ChannelLists) (s : Side) → BoardKeeps c cs → slice_get cs i ≡ Some x
    → (queue_of s x).capacity ≡ PLACES * c.procs
queue-places c cs i x s k at =
    let below : i < length cs = slice_get_within cs i x at in
    let port : Port = record { 0 = i + 1 } in
    let less : i + 1 - 1 ≡ i = omega arith in
    let here : channel_of cs port ≡ x = ap (λ n. slice_index_or cs n no_channel) less ∙ get_or_from_slice_get cs i x no_channel at in
    ap (λ (y : ChannelLists). (queue_of s y).capacity) (sym here) ∙ (k.queues s port (omega arith) (omega (arith, below))).places

-- channels of the same capacities, in order
pub cap-there : (cs ds : List ChannelLists) (i : ℕ) (x y : ChannelLists) → map (λ (p : PortLists). p.cap) (map (λ (ch : ChannelLists). ch.lists) cs)
    ≡ map (λ (p : PortLists). p.cap) (map (λ (ch : ChannelLists). ch.lists) ds)
    → slice_get cs i ≡ Some x → slice_get ds i ≡ Some y → x.lists.cap ≡ y.lists.cap
cap-there [] ds i x y same here there = absurd (none-some x here)
cap-there (c ∷ cs) [] i x y same here there = absurd (none-some y there)
cap-there (c ∷ cs) (d ∷ ds) zero x y same here there =
    ap (λ (z : ChannelLists). z.lists.cap) (sym (same_Some c x here)) ∙ ap (λ ns. get_or ns 0 0) same
    ∙ ap (λ (z : ChannelLists). z.lists.cap) (same_Some d y there)
cap-there (c ∷ cs) (d ∷ ds) (suc i) x y same here there = cap-there cs ds i x y (ap (λ ns. drop 1 ns) same) here there

counted-alike : (cs ds : List ChannelLists) → map (λ (p : PortLists). p.cap) (map (λ (ch : ChannelLists). ch.lists) cs)
    ≡ map (λ (p : PortLists). p.cap) (map (λ (ch : ChannelLists). ch.lists) ds) → length cs ≡ length ds
counted-alike [] [] same = refl
counted-alike [] (d ∷ ds) same = absurd (omega (arith, ap length same))
counted-alike (c ∷ cs) [] same = absurd (omega (arith, ap length same))
counted-alike (c ∷ cs) (d ∷ ds) same = ap suc (counted-alike cs ds (ap (λ ns. drop 1 ns) same))

pub one-shape : (b c : Calls) (cs ds : List ChannelLists) → BoardKeeps b cs → BoardKeeps c ds → b.procs ≡ c.procs
    → map (λ (p : PortLists). p.cap) (map (λ (ch : ChannelLists). ch.lists) cs) ≡ map (λ (p : PortLists). p.cap) (map (λ (ch : ChannelLists). ch.lists) ds)
    → HaveOneShape cs ds
one-shape b c cs ds kb kc procs caps = record {
  count = counted-alike cs ds caps;
  each = λ i x y here there.
      let places : PLACES * b.procs ≡ PLACES * c.procs = ap (λ n. PLACES * n) procs in record {
        cap = cap-there cs ds i x y caps here there;
        senders = queue-places b cs i x side.Send kb here ∙ places ∙ sym (queue-places c ds i y side.Send kc there);
        receivers = queue-places b cs i x side.Recv kb here ∙ places ∙ sym (queue-places c ds i y side.Recv kc there);
      };
}

-- the capacities of the channels are those that the board shows
pub caps-shown : (cs : List ChannelLists) → map (λ (c : ChannelLists). c.lists.cap) cs
    ≡ map (λ (p : PortLists). p.cap) (map (λ (ch : ChannelLists). ch.lists) cs)
caps-shown [] = refl
caps-shown (c ∷ cs) = ap (λ ns. c.lists.cap ∷ ns) (caps-shown cs)

-- tickets that hold what others hold, with room for it, fit as they do
pub fits-again : (t u : Inside) → TicketsFit t → u.procs ≡ t.procs → u.opened.items ≡ t.opened.items → u.procs ≤ vec_capacity u.opened
    → u.calls.items ≡ t.calls.items → u.counts ≡ t.counts → u.parked ≡ t.parked → TicketsFit u
fits-again t u fit procs opened room calls counts parked = record {
  distinct = subst (λ (os : List ℕ). AreApart os) (sym opened) fit.distinct;
  below = subst (λ (os : List ℕ). AllByRecursion (λ q. q < u.procs) os) (sym opened)
      (subst (λ n. AllByRecursion (λ q. q < n) t.opened.items) (sym procs) fit.below);
  room = room;
  small = subst (λ n. n < PIDS) (sym procs) fit.small;
  places = ap length calls ∙ fit.places ∙ sym procs;
  few = subst (λ (ws : List Ticketed). AllByRecursion (λ w. length w.call.cases ≤ CASE_PLACES) ws) (λ i. calls_of (sym calls i) (sym opened i)) fit.few;
  marked = subst (λ marks. IsMarked marks u.opened.items) (sym parked) (subst (λ (os : List ℕ). IsMarked t.parked os) (sym opened) fit.marked);
  counted = subst (λ (k : CaseCounts). IsCountOf k (calls_of u.calls.items u.opened.items)) (sym counts)
      (subst (λ (ws : List Ticketed). IsCountOf t.counts ws) (λ i. calls_of (sym calls i) (sym opened i)) fit.counted);
}
