-- What a comparison knows behind each step of a journal, and what it says at the end.
use Rattle.std.proofs.Common.{◌≡◌, ℕ, ◌-◌, ◌^◌, ◌<◌, Bool, List, ◌++◌, take, Result, Ok, Err, sym, ap, subst, ◌∙◌, arith}
use Rattle.std.specs.Prelude.{IfErr, IsErrAnd}
use Rattle.hub_base.specs.declared.head.Head.{Head}
use Rattle.hub_base.specs.Entry.{Entry}
use Rattle.hub_text.specs.Reader.{ReaderView}
use Rattle.hub_base.specs.Text.{IsText}
use Rattle.hub_core.specs.Records.{MachineLists}
use Rattle.hub_replay.specs.declared.fault.ReplayFault.{ReplayFault}
use Rattle.hub_replay.specs.declared.verifier.Compared.{Compared}
use Rattle.hub_replay.specs.declared.verifier.Compared.TheVariants.{Same, Differs}
use Rattle.hub_replay.specs.Comparing.{Agrees, Tells}
use Rattle.hub_replay.specs.Replay.{IsEventText, event_lines}
use Rattle.hub_replay.specs.Replayed.{Replayed, ReplayedWhole}
use Rattle.hub_replay.specs.Verify.{Compares, newlines_in, line_of_difference}
use Rattle.hub_replay.proofs.Comparing.{agreed-newlines}

-- there is a text of the events so far, and the given ones agree with it so far
pub record Verified (journal events : List ℕ) (reader : ReaderView) (machine : MachineLists) (bytes : List ℕ) (agreed : ℕ) (parted : Bool) : Type 0 where
  pub text : List ℕ
  pub replayed : Replayed journal text reader machine
  pub given : bytes ≡ events
  pub agrees : Agrees text bytes agreed parted

-- a step more, whose lines were compared
pub one-more-verified : {journal events told lines : List ℕ} {reader : ReaderView} {machine : MachineLists} {bytes : List ℕ}
    {agreed : ℕ} {parted : Bool} {reader' : ReaderView} {machine' : MachineLists} {bytes' : List ℕ} {agreed' : ℕ} {parted' : Bool}
    (so_far : Verified journal events reader machine bytes agreed parted) → Replayed journal (so_far.text ++ told) reader' machine' → lines ≡ told
    → bytes' ≡ bytes → Agrees (so_far.text ++ lines) bytes' agreed' parted' → Verified journal events reader' machine' bytes' agreed' parted'
one-more-verified {journal} {events} {told} {lines} {reader} {machine} {bytes} {agreed} {parted} {reader'} {machine'} {bytes'} {agreed'} {parted'}
    so_far replayed is same agrees = record {
      text = so_far.text ++ told;
      replayed = replayed;
      given = same ∙ so_far.given;
      agrees = subst (λ (l : List ℕ). Agrees (so_far.text ++ l) bytes' agreed' parted') is agrees;
    }

-- the number of lines fits
pub lines-fit : {journal text bytes : List ℕ} {agreed : ℕ} {parted : Bool} → ReplayedWhole journal text → Agrees text bytes agreed parted
    → newlines_in (take agreed bytes) < 2 ^ 32 - 1
lines-fit whole agrees = let fit = whole.lines in let fewer = agreed-newlines agrees in omega (arith, fit, fewer)

-- a journal has one event text
one-event-text : {journal xs ys : List ℕ}
    → ((head other : Head) (es fs : List Entry) → IsText journal head es → IsText journal other fs → (head ≡ other) × (es ≡ fs))
    → IsEventText journal xs → IsEventText journal ys → xs ≡ ys
one-event-text {journal} {xs} {ys} one first second =
    let same = one first.head second.head first.entries second.entries first.spelled second.spelled in
    first.lines ∙ ap (λ head. event_lines head first.entries) same.0 ∙ ap (event_lines second.head) same.1 ∙ sym second.lines

-- what is said of the whole text is said of the journal
pub tells-all : {journal text bytes events : List ℕ} (compared : Compared)
    → ((head other : Head) (es fs : List Entry) → IsText journal head es → IsText journal other fs → (head ≡ other) × (es ≡ fs))
    → ReplayedWhole journal text → bytes ≡ events → Tells text bytes compared → Compares journal events compared
tells-all {journal} {text} {bytes} {events} Same one whole given tells = subst (λ (l : List ℕ). IsEventText journal l) (sym tells ∙ given) whole.is
tells-all {journal} {text} {bytes} {events} (Differs line) one whole given tells = record {
  text = text;
  is = whole.is;
  other = λ same. tells.0 (given ∙ one-event-text one same whole.is);
  at = tells.1 ∙ ap (line_of_difference text) given;
}

-- of the fault that is handed on holds what holds of the one that came
pub same-fault : {A : Type 0} (P : ReplayFault → Type 0) (fault : ReplayFault) (r : Result A ReplayFault) → IsErrAnd r (λ other. other ≡ fault)
    → P fault → IfErr r P
same-fault P fault (Ok x) is so = absurd is
same-fault P fault (Err other) is so = subst P (sym is) so
