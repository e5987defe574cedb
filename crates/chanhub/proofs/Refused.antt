-- What a `?` hands over, and what a replay's fault is to the program.
use Rattle.std.proofs.Common.{◌≡◌, ℕ, List, Option, refl, sym, subst, Result, Ok, Err, IfErr, IsErr, IsErrAnd}
use Rattle.hub_base.specs.declared.read_fault.TextFault.{TextFault}
use Rattle.hub_replay.specs.declared.fault.ReplayFault.{ReplayFault}
use Rattle.hub_replay.specs.declared.fault.ReplayFault.TheVariants as fault
use Rattle.hub_replay.specs.Replay.{ReadsFaulty}
use Rattle.chanhub.specs.declared.refusal.Refusal.{Refusal}
use Rattle.chanhub.specs.declared.refusal.Refusal.TheVariants.{Replay}
use Rattle.chanhub.specs.Promises.{IsRefused, RefusesReplay}
use Rattle.chanhub.specs.Statuses.{status_of}

pub handed : {A E F : Type 0} (r : Result A F) (of : E → F) (e : E) (Q : F → Type 0) → IsErr r × IsErrAnd r (λ given. given ≡ of e) → Q (of e) → IfErr r Q
handed (Ok x) of e Q given q = tt
handed (Err f) of e Q given q = subst Q (sym given.1) q

-- a failed write
pub wrote_less :
    {A failed begun : Type 0} (unchanged : Type 0) (r : Result A Refusal) → IsErr r × IsErrAnd r (λ given. given ≡ Replay fault.Write) →
    failed × begun → IfErr r (λ why. IsRefused why unchanged failed begun)
wrote_less unchanged r given left =
    handed r (λ (x : Unit {0}). Replay fault.Write) tt _ given (record { unwritten = λ other. absurd (other refl); write = λ _. left })

-- all faults but a failed write leave this
pub but_write :
    (P : Type 0) (f : ReplayFault) → ((at : TextFault) → f ≡ fault.Text at → P) → (f ≡ fault.Read → P) → (f ≡ fault.NoMemory → P) →
    ¬ (Replay f ≡ Replay fault.Write) → P
but_write P (fault.Text at) text read memory other = text at refl
but_write P fault.Read text read memory other = read refl
but_write P fault.Write text read memory other = absurd (other refl)
but_write P fault.NoMemory text read memory other = memory refl

-- and a failed write has failed
pub but_other : (P : Type 0) (f : ReplayFault) → (f ≡ fault.Write → P) → Replay f ≡ Replay fault.Write → P
but_other P (fault.Text at) write is = cc
but_other P fault.Read write is = cc
but_other P fault.Write write is = write refl
but_other P fault.NoMemory write is = cc

pub found : (unread left : Option (List ℕ)) (failed : Type 0) (f : ReplayFault) → ((at : TextFault) → f ≡ fault.Text at → ReadsFaulty unread left at)
    → (f ≡ fault.Read → failed) → RefusesReplay unread left failed (Replay f)
found unread left failed (fault.Text at) text read = text at refl
found unread left failed fault.Read text read = read refl
found unread left failed fault.Write text read = tt
found unread left failed fault.NoMemory text read = tt

-- the text alone has status 2
pub of_text : (P : Type 0) (f : ReplayFault) → ((at : TextFault) → f ≡ fault.Text at → P) → status_of (Replay f) ≡ 2 → P
of_text P (fault.Text at) text two = text at refl
of_text P fault.Read text two = cc
of_text P fault.Write text two = cc
of_text P fault.NoMemory text two = cc
