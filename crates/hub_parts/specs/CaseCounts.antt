-- Counts of the cases of open calls, for each side of each port: how they change, and when they are right.
use Rattle.std.specs.Prelude.{ℕ, suc, ◌≡◌, Bool, not, ◌==◌, ◌+◌, ◌-◌, ◌<◌, ◌≤◌, nat_lt, List, [], ◌∷◌, length, slice_index, slice_set, if◌then◌else◌}
use Rattle.hub_base.specs.declared.value.Port.{Port}
use Rattle.hub_base.specs.declared.case.Case.{Case}
use Rattle.hub_base.specs.declared.case.Case.TheVariants.{Send, Recv}
use Rattle.hub_base.specs.Ready.{is_send_on, is_recv_on}
use Rattle.hub_base.specs.declared.limits.TheConstants.{MOST_PORTS}
use Rattle.hub_parts.specs.Records.{Ticketed}
use Rattle.hub_parts.specs.declared.side.Side.{Side}
use Rattle.hub_parts.specs.declared.side.Side.TheVariants as side
use Rattle.hub_parts.specs.declared.tickets.case_counts.CaseCounts.{CaseCounts}
use Rattle.hub_parts.specs.declared.tickets.case_counts.Change.{Change}
use Rattle.hub_parts.specs.declared.tickets.case_counts.Change.TheVariants.{More, Fewer}

-- the numbers where the port's has changed
abbrev pub changed : (ℕ → ℕ) → Port → List ℕ → List ℕ
changed f p xs = if nat_lt p.0 (length xs) then slice_set xs p.0 (f (slice_index xs p.0)) else xs

-- the counts where the case's has changed
abbrev pub with_changed : (ℕ → ℕ) → CaseCounts → Case → CaseCounts
with_changed f t (Send p v) = record { sends = changed f p t.sends; recvs = t.recvs }
with_changed f t (Recv p) = record { sends = t.sends; recvs = changed f p t.recvs }

-- the counts where each case's has changed in turn
abbrev pub all_changed : (ℕ → ℕ) → CaseCounts → List Case → CaseCounts
all_changed f t [] = t
all_changed f t (c ∷ cases) = all_changed f (with_changed f t c) cases

-- the port's number passes, where it has one
abbrev pub Allows : (ℕ → Type 0) → List ℕ → Port → Type 0
Allows P xs p = p.0 < length xs → P (slice_index xs p.0)

-- the case's count passes
abbrev pub CaseAllows : (ℕ → Type 0) → CaseCounts → Case → Type 0
CaseAllows P t (Send p v) = Allows P t.sends p
CaseAllows P t (Recv p) = Allows P t.recvs p

-- each case's count passes when its turn comes
abbrev pub AllAllow : (ℕ → ℕ) → (ℕ → Type 0) → CaseCounts → List Case → Type 0
AllAllow f P t [] = Unit {0}
AllAllow f P t (c ∷ cases) = CaseAllows P t c × AllAllow f P (with_changed f t c) cases

-- one case more
abbrev pub one_more : ℕ → ℕ
one_more n = n + 1

-- one case fewer
abbrev pub one_less : ℕ → ℕ
one_less n = n - 1

-- one case more or fewer
abbrev pub changed_by : Change → ℕ → ℕ
changed_by More = one_more
changed_by Fewer = one_less

-- the counts with these cases
abbrev pub with_raised : CaseCounts → List Case → CaseCounts
with_raised t cases = all_changed one_more t cases

-- the counts without these cases
abbrev pub with_lowered : CaseCounts → List Case → CaseCounts
with_lowered t cases = all_changed one_less t cases

-- one more fits in 16 bits
abbrev pub CanGrow : ℕ → Type 0
CanGrow n = n + 1 < 65536

-- there is one to take away
abbrev pub IsPositive : ℕ → Type 0
IsPositive n = 0 < n

-- the one or the other
abbrev pub CanChange : Change → ℕ → Type 0
CanChange More = CanGrow
CanChange Fewer = IsPositive

-- these cases can be counted, one by one
abbrev pub CanRaise : CaseCounts → List Case → Type 0
CanRaise t cases = AllAllow one_more CanGrow t cases

-- these cases can be taken away, one by one
abbrev pub CanLower : CaseCounts → List Case → Type 0
CanLower t cases = AllAllow one_less IsPositive t cases

-- some case is counted on this side of the port
abbrev pub has_case : CaseCounts → Port → Side → Bool
has_case t p side.Send = not (slice_index t.sends p.0 == 0)
has_case t p side.Recv = not (slice_index t.recvs p.0 == 0)

-- how many of these cases pass
abbrev pub passing : (Case → Bool) → List Case → ℕ
passing test [] = 0
passing test (c ∷ cases) = if test c then suc (passing test cases) else passing test cases

-- how many of the calls' cases pass
abbrev pub all_passing : (Case → Bool) → List Ticketed → ℕ
all_passing test [] = 0
all_passing test (w ∷ ws) = passing test w.call.cases + all_passing test ws

-- each port's number is how many of the calls' cases are on it
abbrev pub CountsCases : (Port → Case → Bool) → List ℕ → List Ticketed → Type 0
CountsCases test counts ws = (p : Port) → p.0 ≤ MOST_PORTS → slice_index counts p.0 ≡ all_passing (test p) ws

-- the counts are those of the calls' cases, with a number for each port and for port 0
pub record IsCountOf (t : CaseCounts) (ws : List Ticketed) : Type 0 where
  pub sends : CountsCases is_send_on t.sends ws
  pub recvs : CountsCases is_recv_on t.recvs ws
  pub sends_length : length t.sends ≡ MOST_PORTS + 1
  pub recvs_length : length t.recvs ≡ MOST_PORTS + 1
