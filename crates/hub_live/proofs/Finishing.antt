-- A loop over the seats that are compared with the journal at the end.
use Rattle.std.proofs.Common.{◌≡◌, ◌≤◌, List, [], ◌∷◌, ◌++◌, length, refl, sym, ◌∙◌, subst, arith}
use Rattle.std.specs.Prelude.{All}
use Rattle.std.proofs.lemmas.List.{append-nil}
use Rattle.hub_live.specs.Prelude.{AreOf, EndsIn, IsLegal, JournalView, LockedView, Name, SeatView, StandsIn, steps_of}
use Rattle.hub_base.proofs.Loops.{all_snoc, one_further}

-- the hub is as at the start, and the seats that were compared, which with those that are left are all, stand in its journal
pub record Compared (start now : LockedView) (done rest all : List SeatView) : Type 0 where
  pub same : now ≡ start
  pub stand : All (λ s. StandsIn s now.hub.journal) done
  pub split : done ++ rest ≡ all

pub compared_next : {start before after : LockedView} {done rest next all : List SeatView} {s inner : SeatView} → Compared start before done rest all
    → after ≡ before → inner ≡ s → StandsIn inner after.hub.journal → rest ≡ s ∷ next → Compared start after (done ++ s ∷ []) next all
compared_next {after = after} {done} {rest} {next} {all} {s} c same is here left = record {
  same = same ∙ c.same;
  stand = all_snoc done (done ++ s ∷ []) s (λ t. StandsIn t after.hub.journal) refl
      (subst (λ (l : LockedView). All (λ t. StandsIn t l.hub.journal) done) (sym same) c.stand)
      (subst (λ (t : SeatView). StandsIn t after.hub.journal) is here);
  split = one_further done rest next all s left c.split;
}

pub compared_all : {start now : LockedView} {done rest all : List SeatView} → Compared start now done rest all → length rest ≡ 0
    → All (λ s. StandsIn s now.hub.journal) all
compared_all {now = now} {done} {rest = []} c none =
    subst (λ (x : List SeatView). All (λ s. StandsIn s now.hub.journal) x) (sym (append-nil done) ∙ c.split) c.stand
compared_all {rest = s ∷ rest} c none = absurd (omega arith)

-- what the hub of this name ends in, where all that are handed in stand in its journal
pub ended : (name : Name) (now : LockedView) {all : List SeatView} {journal : JournalView} → All (λ s. StandsIn s now.hub.journal) all
    → journal ≡ record { head = name.terms.head; entries = now.hub.journal } → IsLegal name.terms.head now.hub.journal
    → AreOf name.terms.head.edition now.hub.journal → steps_of now.hub.journal ≤ name.terms.limit → EndsIn name all journal
ended name now {all = all} stand is legal fits few =
    subst (λ (j : JournalView). EndsIn name all j) (sym is) record { head = refl; legal = legal; fits = fits; few = few; seats = stand }
