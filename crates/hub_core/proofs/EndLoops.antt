-- Loops that end open calls one by one, oldest first, and tell each: what holds between two rounds, and in the end.
use Rattle.std.proofs.Common.{◌≡◌, ◌∙◌, ◌++◌, ◌∷◌, ◌<◌, ◌≤◌, [], ℕ, List, ap, length, sym, subst, refl, arith}
use Rattle.hub_base.specs.declared.value.Pid.{Pid}
use Rattle.hub_base.specs.declared.event.Event.{Event}
use Rattle.hub_laws.specs.Sound.{Apart}
use Rattle.hub_parts.specs.Records.{Lists, Ticketed}
use Rattle.hub_parts.specs.Lists.{open_calls, ended_by}
use Rattle.hub_core.specs.Hearing.{Heard}
use Rattle.hub_core.proofs.Hearing.{HeardSo, heard_none, heard_one, heard_all}
use Rattle.hub_core.proofs.Endings.{EndsOne, EndsNone}

-- between two rounds: the board was `first` and is b now, and what was heard leaves what the calls on b are told
pub record EndedSo {S : Type 0} (heard : S → List Event → S → Type 0) (room : S → ℕ) (told : List Ticketed → List Event) (left : Lists → Lists)
    (old now : S) (first b : Lists) : Type 0 where
  pub apart : Apart (open_calls b.waiting)
  pub fits : length b.waiting ≤ room now
  pub kept : left b ≡ left first
  pub so : HeardSo heard room old now (told b.waiting) (told first.waiting)

-- no call has ended yet
pub none_ended : {S : Type 0} {heard : S → List Event → S → Type 0} {room : S → ℕ} {told : List Ticketed → List Event} {left : Lists → Lists}
    {s : S} {b : Lists} → ((a : S) → heard a [] a) → Apart (open_calls b.waiting) → length b.waiting ≤ room s
    → EndedSo heard room told left s s b b
none_ended {told = told} {s = s} {b = b} begins apart fits =
    record { apart = apart; fits = fits; kept = refl; so = heard_none s (told b.waiting) begins }

-- one call more has ended, and was told this event
pub one_ended : {S : Type 0} {heard : S → List Event → S → Type 0} {room : S → ℕ} {told : List Ticketed → List Event} {left : Lists → Lists}
    {old now then : S} {first b next : Lists} {pid : Pid} {e : Event}
    → ((a b c : S) (xs ys : List Event) → heard a xs b → heard b ys c → heard a (xs ++ ys) c)
    → EndedSo heard room told left old now first b → EndsOne told left b pid e → Heard heard room now then (e ∷ []) → next ≡ ended_by pid b
    → EndedSo heard room told left old then first next
one_ended {heard = heard} {room} {told} {left} {old} {then = then} {first} goes_on ended one hears is =
    subst (λ (b : Lists). EndedSo heard room told left old then first b) (sym is) (record {
      apart = one.apart;
      fits = omega (arith, one.fewer, hears.fits, ended.fits);
      kept = one.kept ∙ ended.kept;
      so = heard_one goes_on ended.so hears one.events;
    })

-- and fewer are left
pub fewer_left : {told : List Ticketed → List Event} {left : Lists → Lists} {b next : Lists} {pid : Pid} {e : Event}
    → EndsOne told left b pid e → next ≡ ended_by pid b → length next.waiting < length b.waiting
fewer_left one is = omega (arith, one.fewer, ap (λ (b : Lists). length b.waiting) is)

-- all have ended
pub record EndedAll {S : Type 0} (heard : S → List Event → S → Type 0) (room : S → ℕ) (told : List Ticketed → List Event) (left : Lists → Lists)
    (old now : S) (first last : Lists) : Type 0 where
  pub kept : last ≡ left first
  pub hears : Heard heard room old now (told first.waiting)

pub all_ended : {S : Type 0} {heard : S → List Event → S → Type 0} {room : S → ℕ} {told : List Ticketed → List Event} {left : Lists → Lists}
    {old now : S} {first b last : Lists}
    → EndedSo heard room told left old now first b → EndsNone told left b → last ≡ b → EndedAll heard room told left old now first last
all_ended ended none is = record { kept = is ∙ sym none.kept ∙ ended.kept; hears = heard_all ended.so none.events }
