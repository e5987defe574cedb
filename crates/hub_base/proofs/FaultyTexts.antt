-- Faulty texts: what is refused is faulty there, and what is faulty is refused for it.
use Rattle.std.proofs.Common.{◌≡◌, ℕ, ◌≤◌, List, [], ◌∷◌, ◌⊎◌, inl, inr}
use Rattle.std.proofs.Common.{length, refl, ap, ◌∙◌, sym, subst, Option, Some, None, arith}
use Rattle.hub_base.specs.declared.head.Edition.{Edition}
use Rattle.hub_base.specs.declared.head.Head.{Head}
use Rattle.hub_base.specs.declared.read_fault.Kind.{Kind}
use Rattle.hub_base.specs.declared.limits.TheConstants.{MOST_BYTES}
use Rattle.hub_base.specs.declared.read_fault.Kind.TheVariants.{BadHeader, BadProcs}
use Rattle.hub_base.specs.Head.{head_of}
use Rattle.hub_base.specs.Reading.{Row, rows, Faulty, header, head_lines, procs_line, entries_from, row_fault, edition_of, edition_says}
use Rattle.hub_base.specs.Reading.{faulty_or, end_of, procs_number, procs_say, procs_from, reading, read_text}
use Rattle.hub_base.specs.Text.{header_row, procs_row, header_fault, procs_fault, fault_of_edition, fault_of_procs, fault_of_first}
use Rattle.hub_base.specs.Text.{first_fault, FaultyFirst, FaultySecond, FaultyEntry, IsFaulty, EntryFails}
use Rattle.hub_base.proofs.Running.{entries-fail, entries-fail-again, row-none}
use Rattle.hub_base.proofs.Heads.{edition-take, first-place, header-again, heads-again, procs-take, second-place, whole-row}

header-faulty : (o : Option Kind) (p : Option Edition) (end : ℕ) (rs : List Row) (k : ℕ) (kind : Kind)
    → faulty_or 1 (edition_says p end rs) o ≡ Faulty k kind → ((k ≡ 1) × (first_fault o (fault_of_edition p) ≡ Some kind))
    ⊎ ((e : Edition) × (o ≡ None) × (p ≡ Some e) × (procs_from e end rs ≡ Faulty k kind))
header-faulty (Some other) p end rs k kind h = inl (cc, let same : other ≡ kind = cc in ap (λ k. Some k) same)
header-faulty None None end rs k kind h = inl (cc, let same : BadHeader ≡ kind = cc in ap (λ k. Some k) same)
header-faulty None (Some e) end rs k kind h = inr (e, refl, refl, h)

procs-faulty : (e : Edition) (o : Option Kind) (p : Option ℕ) (end : ℕ) (rs : List Row) (k : ℕ) (kind : Kind)
    → faulty_or 2 (procs_say e p end rs) o ≡ Faulty k kind → ((k ≡ 2) × (first_fault o (fault_of_procs p) ≡ Some kind))
    ⊎ ((said : Head) × (said.edition ≡ e) × (o ≡ None) × (p ≡ Some said.procs) × (entries_from said 3 end 0 rs ≡ Faulty k kind))
procs-faulty e (Some other) p end rs k kind h = inl (cc, let same : other ≡ kind = cc in ap (λ k. Some k) same)
procs-faulty e None None end rs k kind h = inl (cc, let same : BadProcs ≡ kind = cc in ap (λ k. Some k) same)
procs-faulty e None (Some n) end rs k kind h = inr (head_of e n, refl, refl, refl, h)

fails-at : (e : Edition) (place place' : ℕ) (rs : List Row) (k : ℕ) (kind : Kind) → place ≡ place' → EntryFails e place 0 3 rs k kind
    → EntryFails e place' 0 3 rs k kind
fails-at e place place' rs k kind is f = let P : ℕ → Type 0 = λ p. EntryFails e p 0 3 rs k kind in subst P is f

second-fail : (e : Edition) (rs : List Row) (k : ℕ) (kind : Kind) → procs_from e 18 rs ≡ Faulty k kind
    → FaultySecond (header_row e ∷ rs) k kind ⊎ FaultyEntry (header_row e ∷ rs) k kind
second-fail e [] k kind h =
    inl (record { edition = e; more = []; lines = refl; number = cc; fault = (let same : BadProcs ≡ kind = cc in ap (λ k. Some k) same) })
second-fail e (r ∷ rs) k kind h =
    elim (procs-faulty e (row_fault (end_of 18 r) r) (procs_number r.bytes) (end_of 18 r) rs k kind h)
    as (λ _. FaultySecond (header_row e ∷ r ∷ rs) k kind ⊎ FaultyEntry (header_row e ∷ r ∷ rs) k kind) [
      | inl a ↦ inl (record { edition = e; more = r ∷ rs; lines = refl; number = a.0; fault = a.1 })
      | inr a ↦ (
          let v = row-none (end_of 18 r) r a.2 in
          let p = procs-take r.bytes a.0.procs a.3 in
          let row : r ≡ procs_row a.0.procs = whole-row r (procs_line a.0.procs) p.spelled v.whole in
          let end : end_of 18 r ≡ length (head_lines a.0) = second-place r a.0 row in
          inr (record {
            head = a.0;
            more = rs;
            lines = ap (λ r. header_row e ∷ r ∷ rs) row ∙ ap (λ e. header_row e ∷ procs_row a.0.procs ∷ rs) (sym a.1);
            possible = (p.some, p.few);
            fails = fails-at a.0.edition (end_of 18 r) (length (head_lines a.0)) rs k kind end
                (entries-fail a.0 rs 3 (end_of 18 r) 0 k kind v.fits (omega arith) a.4);
          }))
    ]

-- where reading stops at a fault, a line is faulty
pub head-fail : (rs : List Row) (k : ℕ) (kind : Kind) → reading rs ≡ Faulty k kind → FaultyFirst rs k kind ⊎ (FaultySecond rs k kind ⊎ FaultyEntry rs k kind)
head-fail [] k kind h = inl (record { number = cc; fault = (let same : BadHeader ≡ kind = cc in ap (λ k. Some k) same) })
head-fail (r ∷ rs) k kind h =
    elim (header-faulty (row_fault (end_of 0 r) r) (edition_of r.bytes) (end_of 0 r) rs k kind h)
    as (λ _. FaultyFirst (r ∷ rs) k kind ⊎ (FaultySecond (r ∷ rs) k kind ⊎ FaultyEntry (r ∷ rs) k kind)) [
      | inl a ↦ inl (record { number = a.0; fault = a.1 })
      | inr a ↦ (
          let w = row-none (end_of 0 r) r a.1 in
          let is : r ≡ header_row a.0 = whole-row r (header a.0) (edition-take r.bytes a.0 a.2) w.whole in
          let place : end_of 0 r ≡ 18 = ap (end_of 0) is ∙ first-place a.0 in
          let P : Row → Type 0 = λ r. FaultySecond (r ∷ rs) k kind ⊎ FaultyEntry (r ∷ rs) k kind in
          inr (subst P (sym is) (second-fail a.0 rs k kind (ap (λ p. procs_from a.0 p rs) (sym place) ∙ a.3))))
    ]

-- what is refused is faulty there
pub fault-take : (bytes : List ℕ) (k : ℕ) (kind : Kind) → read_text bytes ≡ Faulty k kind → IsFaulty bytes k kind
fault-take bytes k kind h = head-fail (rows bytes) k kind h

-- ---- and back
first-faulty : (rs : List Row) (kind : Kind) → fault_of_first header_fault BadHeader rs ≡ Some kind → reading rs ≡ Faulty 1 kind
first-faulty [] kind h = let same : BadHeader ≡ kind = cc in ap (Faulty 1) same
first-faulty (r ∷ rs) kind h = go (row_fault (end_of 0 r) r) (edition_of r.bytes) h where
  go : (o : Option Kind) (p : Option Edition) → first_fault o (fault_of_edition p) ≡ Some kind
      → faulty_or 1 (edition_says p (end_of 0 r) rs) o ≡ Faulty 1 kind
  go (Some other) p h = let same : other ≡ kind = cc in ap (Faulty 1) same
  go None (Some e) h = cc
  go None None h = let same : BadHeader ≡ kind = cc in ap (Faulty 1) same

second-faulty : (e : Edition) (rs : List Row) (kind : Kind) → fault_of_first procs_fault BadProcs rs ≡ Some kind → procs_from e 18 rs ≡ Faulty 2 kind
second-faulty e [] kind h = let same : BadProcs ≡ kind = cc in ap (Faulty 2) same
second-faulty e (r ∷ rs) kind h = go (row_fault (end_of 18 r) r) (procs_number r.bytes) h where
  go : (o : Option Kind) (p : Option ℕ) → first_fault o (fault_of_procs p) ≡ Some kind → faulty_or 2 (procs_say e p (end_of 18 r) rs) o ≡ Faulty 2 kind
  go (Some other) p h = let same : other ≡ kind = cc in ap (Faulty 2) same
  go None None h = let same : BadProcs ≡ kind = cc in ap (Faulty 2) same
  go None (Some n) h = cc

head-fits : (h : Head) (rs : List Row) (k : ℕ) (kind : Kind) → EntryFails h.edition (length (head_lines h)) 0 3 rs k kind → length (head_lines h) ≤ MOST_BYTES
head-fits h rs k kind f = let l = f.bytes_fit in omega (arith, l)

-- what is faulty is refused there, for that fault
pub fault-again : (bytes : List ℕ) (k : ℕ) (kind : Kind) → IsFaulty bytes k kind → read_text bytes ≡ Faulty k kind
fault-again bytes k kind f =
    elim f as (λ _. read_text bytes ≡ Faulty k kind) [
      | inl a ↦ first-faulty (rows bytes) kind a.fault ∙ ap (λ k. Faulty k kind) (sym a.number)
      | inr b ↦ elim b as (λ _. read_text bytes ≡ Faulty k kind) [
        | inl a ↦ ap reading a.lines ∙ header-again a.edition a.more ∙ second-faulty a.edition a.more kind a.fault ∙ ap (λ k. Faulty k kind) (sym a.number)
        | inr a ↦ ap reading a.lines ∙ heads-again a.head a.more a.possible (head-fits a.head a.more k kind a.fails)
            ∙ entries-fail-again a.head a.more 3 (length (head_lines a.head)) 0 k kind a.fails
      ]
    ]
