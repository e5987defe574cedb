-- The seats of a run where the processes begin: one has made the ports, and all have seen them.
use Rattle.std.proofs.Common.{◌≡◌, ℕ, zero, suc, ◌+◌, ◌-◌, ◌<◌, ◌==◌, Bool, false, cond, List, [], ◌∷◌, ◌++◌, length, get_or, map, refl, ap, ◌∙◌, sym}
use Rattle.std.proofs.Common.{subst, All, take, arith}
use Rattle.std.specs.Prelude.{slice_set}
use Rattle.std.specs.List.{AllByRecursion}
use Rattle.std.proofs.Math.Seq.{take-append_seam}
use Rattle.std.proofs.lemmas.List.{length-map}
use Rattle.std.proofs.lemmas.List.Elements.{All-cons, All-from_recursion, recursion_from_All}
use Rattle.std.proofs.lemmas.Grind.{common_steps}
use mathlib.Core.List.{IsPrefix}
use Rattle.hub_base.specs.declared.head.Head.{Head}
use Rattle.hub_base.specs.declared.value.Pid.{Pid}
use Rattle.hub_base.specs.Entry.{Entry}
use Rattle.hub_laws.specs.Journals.{IsLegal}
use Rattle.hub_laws.specs.Replies.{own}
use Rattle.hub_laws.proofs.Journals.{begins-law}
use Rattle.hub_live.specs.Name.{Name}
use Rattle.hub_live.specs.SeatView.{SeatView}
use Rattle.hub_live.specs.Calls.{Later, AreSeats}
use Rattle.hub_scenario.specs.Scenario.{ScenarioData, run_head}
use Rattle.hub_laws.specs.Asked.{Asked, asked}
use Rattle.hub_runner.specs.Ports.{makes_of, BeginsWithPorts}
use Rattle.hub_runner.specs.Running.{AreMakes, IsReady}
use Rattle.hub_runner.specs.Scripts.{made_by}
use Rattle.hub_runner.specs.Working.{asked_of, Asker, asker_of, Onward}
use Rattle.hub_runner.proofs.Ports.{asked_none, none_before, only_makes}
use Rattle.hub_runner.proofs.Runs.{blank_at}

pub asked-nil : (q : ℕ) (head : Head) → asked q head [] ≡ []
unfolding asked
asked-nil q head = refl

-- a seat that has seen nothing
abbrev pub blank_seat : Name → ℕ → SeatView
blank_seat name k = record { hub = name; pid = record { 0 = k }; seen = [] }

first_or_later : (P : SeatView → Type 0) (name : Name) (s : SeatView) (ss : List SeatView) (t : SeatView) (k : ℕ) (e : SeatView) → AreSeats name 0 (s ∷ ss)
    → P t → ((i : ℕ) → P (blank_seat name (1 + i))) → k < length (t ∷ ss) → P (get_or (t ∷ ss) k e)
first_or_later P name s ss t zero e h here later low = here
first_or_later P name s ss t (suc k) e h here later low = subst P (sym (blank_at name 1 ss k e h.1 (omega arith))) (later k)

-- where the first of the seats is another one now: what holds of it and of blank seats holds of all
pub all_but_first : (P : SeatView → Type 0) (name : Name) (ss : List SeatView) (t : SeatView) → AreSeats name 0 ss → 0 < length ss
    → P t → ((i : ℕ) → P (blank_seat name (1 + i))) → All P (slice_set ss 0 t)
all_but_first P name [] t h some here later = absurd (omega arith)
all_but_first P name (s ∷ ss) t h some here later = λ k e low. first_or_later P name s ss t k e h here later low

-- the first seat is still one of this hub, and of process 0
pub first_kept : (name : Name) (ss : List SeatView) (d t : SeatView) → AreSeats name 0 ss → 0 < length ss → Onward (get_or ss 0 d) t
    → (t.hub ≡ name) × (t.pid.0 ≡ 0)
first_kept name ss d t h some on =
    let blank = blank_at name 0 ss 0 d h some in
    (on.hub ∙ ap (λ (s : SeatView). s.hub) blank, ap (λ (p : Pid). p.0) on.pid ∙ ap (λ (s : SeatView). s.pid.0) blank)

-- a process other than the first makes no ports
pub made_by_none : (q : ℕ) (caps : List ℕ) → 0 < q → made_by q caps ≡ []
made_by_none q caps some =
    let z : (q == 0) ≡ false = grind (arith, some, common_steps) in ap (λ (b : Bool). cond b caps []) z

pub later_makes : (head : Head) (q : ℕ) (caps : List ℕ) → 0 < q → AreMakes (made_by q caps) (asked q head [])
later_makes head q caps some =
    subst (λ (zs : List Asked). AreMakes (made_by q caps) zs) (sym (asked-nil q head))
    (subst (λ (cs : List ℕ). AreMakes cs []) (sym (made_by_none q caps some)) tt)

-- ---- and once all have seen that they are made

-- a vector whose elements were written over by as many
pub written : {A : Type 0} (n : ℕ) (xs more : List A) → length xs ≡ n → take n (xs ++ more) ≡ xs
written n xs more same = ap (λ (k : ℕ). take k (xs ++ more)) (sym same) ∙ take-append_seam xs more

pub same_count : (olds news : List SeatView) → map asker_of news ≡ map asker_of olds → length news ≡ length olds
same_count olds news same = sym (length-map news asker_of) ∙ ap length same ∙ length-map olds asker_of

-- a seat, whose process is still this one and asked nothing
blank_ready : (name : Name) (sc : ScenarioData) (q : ℕ) (s : SeatView) → name.terms.head ≡ run_head sc → 0 < q
    → asker_of s ≡ asker_of (blank_seat name q) → BeginsWithPorts sc s.seen → IsReady sc s
blank_ready name sc q s head some same ports = record {
  head = ap (λ (a : Asker). a.hub.terms.head) same ∙ head;
  makes = subst (λ (a : Asker). AreMakes (made_by a.pid.0 sc.ports) a.asked) (sym same) (later_makes name.terms.head q sc.ports some);
  ports = ports;
}

-- the others
others_ready : (name : Name) (sc : ScenarioData) (first : ℕ) (olds news : List SeatView) → name.terms.head ≡ run_head sc → 0 < first
    → AreSeats name first olds → map asker_of news ≡ map asker_of olds → AllByRecursion (λ s. BeginsWithPorts sc s.seen) news
    → AllByRecursion (IsReady sc) news
others_ready name sc first [] [] head some are same ports = tt
others_ready name sc first [] (t ∷ news) head some are same ports = absurd (let g : ⊥ = cc in g)
others_ready name sc first (s ∷ olds) [] head some are same ports = absurd (let g : ⊥ = cc in g)
others_ready name sc first (s ∷ olds) (t ∷ news) head some are same ports =
    let here : asker_of t ≡ asker_of s = cc in
    let rest : map asker_of news ≡ map asker_of olds = cc in (
      blank_ready name sc first t head some (here ∙ ap asker_of are.0) ports.0,
      others_ready name sc (first + 1) olds news head (omega arith) are.1 rest ports.1,
    )

-- none of the others has an entry in what all of them have seen
others_none : (name : Name) (first k : ℕ) (olds news : List SeatView) (seen : List Entry) → AreSeats name first olds
    → map asker_of news ≡ map asker_of olds → AllByRecursion (λ s. IsPrefix seen s.seen) news → k < length olds → own (first + k) seen ≡ []
others_none name first k [] news seen are same shown low = absurd (omega arith)
others_none name first k (s ∷ olds) [] seen are same shown low = absurd (let g : ⊥ = cc in g)
others_none name first zero (s ∷ olds) (t ∷ news) seen are same shown low =
    let here : asker_of t ≡ asker_of s = cc in
    let blank = here ∙ ap asker_of are.0 in
    let none : asked t.pid.0 t.hub.terms.head t.seen ≡ [] = ap (λ (a : Asker). a.asked) blank ∙ asked-nil first name.terms.head in
    let pid : t.pid.0 ≡ first + 0 = omega (arith, ap (λ (a : Asker). a.pid.0) blank) in
    subst (λ (q : ℕ). own q seen ≡ []) pid (none_before t.pid.0 seen t.seen shown.0 (asked_none t.pid.0 t.hub.terms.head t.seen none))
others_none name first (suc k) (s ∷ olds) (t ∷ news) seen are same shown low =
    let rest : map asker_of news ≡ map asker_of olds = cc in
    let n : first + 1 + k ≡ first + suc k = omega arith in
    subst (λ (q : ℕ). own q seen ≡ []) n (others_none name (first + 1) k olds news seen are.1 rest shown.1 (omega arith))

others_pids : (olds news : List SeatView) → map asker_of news ≡ map asker_of olds → map (λ s. s.pid) news ≡ map (λ s. s.pid) olds
others_pids [] [] same = refl
others_pids [] (t ∷ news) same = absurd (let g : ⊥ = cc in g)
others_pids (s ∷ olds) [] same = absurd (let g : ⊥ = cc in g)
others_pids (s ∷ olds) (t ∷ news) same =
    let here : asker_of t ≡ asker_of s = cc in
    let rest : map asker_of news ≡ map asker_of olds = cc in
    λ i. (here i).pid ∷ others_pids olds news rest i

pub same_pids : (s t u : SeatView) (olds news : List SeatView) → Onward s t → asker_of u ≡ asker_of t → map asker_of news ≡ map asker_of olds
    → map (λ s. s.pid) (u ∷ news) ≡ map (λ s. s.pid) (s ∷ olds)
same_pids s t u olds news on same others =
    let here : u.pid ≡ s.pid = ap (λ (a : Asker). a.pid) same ∙ on.pid in
    λ i. here i ∷ others_pids olds news others i

-- process 0 has made the ports, and nothing else is in what its seat has seen
ports_made : (name : Name) (sc : ScenarioData) (t u : SeatView) (olds news : List SeatView) → AreSeats name 1 olds → length olds + 1 ≡ name.terms.head.procs
    → t.hub ≡ name → t.pid.0 ≡ 0 → AreMakes sc.ports (asked_of t) → Later t u → map asker_of news ≡ map asker_of olds
    → AllByRecursion (λ s. IsPrefix t.seen s.seen) news → t.seen ≡ makes_of sc
ports_made name sc t u olds news are count hub pid made later others shown =
    let h = name.terms.head in
    let head : t.hub.terms.head ≡ h = ap (λ (m : Name). m.terms.head) hub in
    let all : IsLegal h (t.seen ++ later.begins.0) =
    subst (IsLegal h) (sym later.begins.1) (subst (λ (m : Name). IsLegal m.terms.head u.seen) (later.hub ∙ hub) later.idle.history.legal) in
    only_makes h sc.ports t.seen ((begins-law h t.seen later.begins.0).legal all) (subst (AreMakes sc.ports) (λ i. asked (pid i) (head i) t.seen) made)
    (λ q some low.
    let n : 1 + (q - 1) ≡ q = omega arith in
    subst (λ (p : ℕ). own p t.seen ≡ []) n (others_none name 1 (q - 1) olds news t.seen are others shown (omega arith)))

pub all_ready : (name : Name) (sc : ScenarioData) (s t u : SeatView) (olds news : List SeatView) → name.terms.head ≡ run_head sc
    → length olds + 1 ≡ name.terms.head.procs → AreSeats name 0 (s ∷ olds) → Onward s t → AreMakes sc.ports (asked_of t)
    → Later t u → asker_of u ≡ asker_of t → map asker_of news ≡ map asker_of olds → All (λ s. IsPrefix t.seen s.seen) news
    → All (IsReady sc) (u ∷ news)
all_ready name sc s t u olds news head count are on made later same others shown =
    let kept = first_kept name (s ∷ olds) s t are (omega arith) on in
    let each = recursion_from_All (λ s. IsPrefix t.seen s.seen) news shown in
    let is : t.seen ≡ makes_of sc = ports_made name sc t u olds news are.1 count kept.0 kept.1 made later others each in
    let ports = λ (v : SeatView) (begins : IsPrefix t.seen v.seen). subst (λ (es : List Entry). IsPrefix es v.seen) is begins in
    let hub : u.hub ≡ name = later.hub ∙ kept.0 in
    let first : AreMakes (made_by 0 sc.ports) (asked_of u) = subst (AreMakes sc.ports) (sym (ap (λ (a : Asker). a.asked) same)) made in
    All-cons (IsReady sc) u news
    (record {
      head = ap (λ (m : Name). m.terms.head) hub ∙ head;
      makes = subst (λ (n : ℕ). AreMakes (made_by n sc.ports) (asked_of u)) (sym (ap (λ (p : Pid). p.0) later.pid ∙ kept.1)) first;
      ports = ports u later.begins;
    })
    (All-from_recursion (IsReady sc) news (others_ready name sc 1 olds news head (omega arith) are.1 others
    (recursion_from_All (λ s. BeginsWithPorts sc s.seen) news (λ k d low. ports (get_or news k d) (shown k d low)))))
