-- Entries that are kept short, and how they are written out.
use Rattle.std.proofs.Common.{◌≡◌, ◌∙◌, ◌++◌, ◌≤◌, ◌<◌, ◌+◌, ◌∷◌, [], Bool, false, ℕ, zero, suc, List, Option, Some, None, length, take, drop}
use Rattle.std.proofs.Common.{ap, sym, subst, refl, arith, append-nil, append_assoc, length-append}
use Rattle.std.specs.Prelude.{get_or, slice_get, slice_index_or, vec_len}
use Rattle.std.specs.Vec.{vec_capacity}
use Rattle.std.specs.Option.{option_map, option_map_or}
use Rattle.hub_laws.specs.Once.{is_call}
use Rattle.std.proofs.lemmas.List.{take-append-le, drop-append-le, drop-drop, length-drop}
use Rattle.std.proofs.lemmas.Option.{none-some, same_Some, slice_get_past, slice_get_read}
use Rattle.std.proofs.Math.Seq.{take-length, drop-length, drop-cons}
use Rattle.hub_base.specs.declared.case.Case.{Case}
use Rattle.hub_base.specs.Entry.{Entry, Step}
use Rattle.hub_base.specs.declared.entry.Step.TheVariants.{Call}
use Rattle.hub_base.specs.Values.{cases_or}
use Rattle.arrayvec.specs.ArrayVec.{ArrayVec}
use Rattle.hub_base.specs.declared.limits.TheConstants.{CASE_PLACES}
use Rattle.hub_core.specs.declared.brief.Brief.{Brief}
use Rattle.hub_core.specs.declared.brief.Brief.TheVariants as brief
use Rattle.hub_core.specs.declared.log.Log.TheInside.{Inside}
use Rattle.hub_core.specs.LogKeeps.{log_shown}
use Rattle.hub_core.specs.LogView.{AreBriefs, LogView, BeginsAt, IsBriefOf, IsWhole, StandFrom, case_count, cases_beside, entry_of, first_of, own_of}
use Rattle.hub_core.specs.LogView.{written}

-- its cases, with where they stand
pub record Own (b : Brief) (n : ℕ) (all : List Case) : Type 0 where
  pub own : take (case_count b) (drop n all) ≡ own_of b all
  pub within : n + case_count b ≤ length all → first_of b + case_count b ≤ length all

pub own_there : (b : Brief) (n : ℕ) (all : List Case) → BeginsAt n b → Own b n all
own_there (brief.Call pid default count first word) n all begins = record {
  own = ap (λ k. take count (drop k all)) (sym begins);
  within = λ fits. omega (arith, begins, fits);
}
own_there other n all begins = record { own = refl; within = λ fits. omega arith }

take_all : (n : ℕ) (cs ds : List Case) → cs ≡ [] → n ≡ length ds → take n (cs ++ ds) ≡ ds
take_all n cs ds none is = (λ i. take (is i) (none i ++ ds)) ∙ take-length ds

drop_all : (n : ℕ) (cs ds : List Case) → cs ≡ [] → n ≡ length ds → drop n (cs ++ ds) ≡ []
drop_all n cs ds none is = (λ i. drop (is i) (none i ++ ds)) ∙ drop-length ds

-- one more, with its cases behind the others'
pub written_more : (bs : List Brief) (cs : List Case) (b : Brief) (ds : List Case) → AreBriefs bs cs → case_count b ≡ length ds
    → written (bs ++ b ∷ []) (cs ++ ds) ≡ written bs cs ++ entry_of b ds ∷ []
unfolding AreBriefs written
written_more [] cs b ds none is = ap (λ (xs : List Case). entry_of b xs ∷ []) (take_all (case_count b) cs ds none is)
written_more (x ∷ bs) cs b ds (few, within, rest) is =
    let n = case_count x in
    (λ i. entry_of x (take-append-le n cs ds within i) ∷ written (bs ++ b ∷ []) (drop-append-le n cs ds within i))
    ∙ ap (λ (es : List Entry). entry_of x (take n cs) ∷ es) (written_more bs (drop n cs) b ds rest is)

pub briefs_more : (bs : List Brief) (cs : List Case) (b : Brief) (ds : List Case) → AreBriefs bs cs → case_count b ≡ length ds
    → length ds ≤ CASE_PLACES → AreBriefs (bs ++ b ∷ []) (cs ++ ds)
unfolding AreBriefs written
briefs_more [] cs b ds none is few =
    (omega (arith, is, few), omega (arith, is, length-append cs ds), drop_all (case_count b) cs ds none is)
briefs_more (x ∷ bs) cs b ds (some, within, rest) is few =
    let n = case_count x in (
      some,
      omega (arith, within, length-append cs ds),
      subst (AreBriefs (bs ++ b ∷ [])) (sym (drop-append-le n cs ds within)) (briefs_more bs (drop n cs) b ds rest is few),
    )

pub written_length : (bs : List Brief) (cs : List Case) → length (written bs cs) ≡ length bs
unfolding AreBriefs written
written_length [] cs = refl
written_length (b ∷ bs) cs = ap suc (written_length bs (drop (case_count b) cs))

-- so many entries there are in all
pub all_length : (whole : List Entry) (bs : List Brief) (cs : List Case) → length (whole ++ written bs cs) ≡ length whole + length bs
all_length whole bs cs = length-append whole (written bs cs) ∙ ap (λ n. length whole + n) (written_length bs cs)

no_brief : (bs : List Brief) → length bs ≡ 0 → bs ≡ []
no_brief [] none = refl
no_brief (b ∷ bs) none = absurd (omega (arith, none))

-- where none is kept short, all are written out
pub all_whole : (whole : List Entry) (bs : List Brief) (cs : List Case) → length bs ≡ 0 → whole ++ written bs cs ≡ whole
unfolding AreBriefs written
all_whole whole bs cs none = ap (λ (xs : List Brief). whole ++ written xs cs) (no_brief bs none) ∙ append-nil whole

pub none_short : (bs : List Brief) (cs : List Case) → bs ≡ [] → cs ≡ [] → AreBriefs bs cs
unfolding AreBriefs written
none_short bs cs none empty = subst (λ (xs : List Brief). AreBriefs xs cs) (sym none) empty

pub none_begins : (bs : List Brief) → bs ≡ [] → StandFrom 0 bs
unfolding StandFrom
none_begins bs none = subst (StandFrom 0) (sym none) tt

-- one more, whose cases begin behind the others'
begin_more : (n : ℕ) (bs : List Brief) (cs : List Case) (b : Brief) → AreBriefs bs cs → StandFrom n bs → BeginsAt (n + length cs) b
    → StandFrom n (bs ++ b ∷ [])
unfolding AreBriefs StandFrom
begin_more n [] cs b none stand is =
    let here : n + length cs ≡ n = omega (arith, ap length none) in (subst (λ k. BeginsAt k b) here is, tt)
begin_more n (x ∷ bs) cs b (few, within, rest) (first, stand) is =
    let k = case_count x in
    let there : n + length cs ≡ (n + k) + length (drop k cs) = omega (arith, within, length-drop k cs) in
    (first, begin_more (n + k) bs (drop k cs) b rest stand (subst (λ m. BeginsAt m b) there is))

-- ---- an entry more is kept short

pub record Gains (bs more : List Brief) (cs cs' : List Case) (e : Entry) : Type 0 where
  pub briefs : AreBriefs more cs'
  pub begin : StandFrom 0 bs → StandFrom 0 more
  pub one : length more ≡ length bs + 1
  pub items : (whole : List Entry) → whole ++ written more cs' ≡ (whole ++ written bs cs) ++ e ∷ []

pub gains : {bs more grown : List Brief} {cs cs' ds : List Case} {b : Brief} {first : ℕ} (e : Entry) → AreBriefs bs cs → grown ≡ bs ++ b ∷ []
    → IsBriefOf e first b → first ≡ length cs → more ≡ grown → ds ≡ cases_beside e b → length ds ≤ CASE_PLACES → cs' ≡ cs ++ ds → Gains bs more cs cs' e
gains {bs} {more} {grown} {cs} {cs'} {ds} {b} {first} e are grown_is kept behind more_is own few longer =
    let count : case_count b ≡ length ds = kept.count ∙ ap length (sym own) in
    let all : more ≡ bs ++ b ∷ [] = more_is ∙ grown_is in
    let again : entry_of b ds ≡ e = ap (entry_of b) own ∙ kept.again in
    let start : first ≡ 0 + length cs = omega (arith, behind) in
    let spelled : written more cs' ≡ written bs cs ++ e ∷ [] =
    (λ i. written (all i) (longer i)) ∙ written_more bs cs b ds are count ∙ ap (λ x. written bs cs ++ x ∷ []) again in
    record {
      briefs = subst (λ (x : List Brief × List Case). AreBriefs x.0 x.1) (λ i. (sym all i, sym longer i)) (briefs_more bs cs b ds are count few);
      begin = λ stand. subst (StandFrom 0) (sym all) (begin_more 0 bs cs b are stand (subst (λ n. BeginsAt n b) start kept.begins));
      one = ap length all ∙ length-append bs (b ∷ []);
      items = λ whole. ap (λ (es : List Entry). whole ++ es) spelled ∙ sym (append_assoc whole (written bs cs) (e ∷ []));
    }

-- there is room for it when all are written out
pub room_for_more : {n : ℕ} {v : LogView} (l : Inside) → n ≡ length l.briefs.items + 1 → log_shown l ≡ v → length v.items < v.capacity
    → vec_len l.whole + n ≤ vec_capacity l.whole
room_for_more l one is room =
    let items = ap (λ (w : LogView). length w.items) is in
    let capacity = ap (λ (w : LogView). w.capacity) is in
    omega (arith, one, room, items, capacity, l.whole.ok, all_length l.whole.items l.briefs.items l.cases.items)

-- ---- the loop that writes them out

-- the briefs and cases that are left at a place
pub record Left (bs : List Brief) (cs : List Case) (i : ℕ) (d : Brief) : Type 0 where
  pub few : case_count (slice_index_or bs i d) ≤ CASE_PLACES
  pub within : case_count (slice_index_or bs i d) ≤ length cs
  pub rest : AreBriefs (drop (i + 1) bs) (drop (case_count (slice_index_or bs i d)) cs)
  pub one : length (drop i bs) ≡ length (drop (i + 1) bs) + 1
  pub written : written (drop i bs) cs
      ≡ entry_of (slice_index_or bs i d) (take (case_count (slice_index_or bs i d)) cs)
      ∷ written (drop (i + 1) bs) (drop (case_count (slice_index_or bs i d)) cs)

pub next_left : (bs : List Brief) (cs : List Case) (i : ℕ) (d : Brief) → i < length bs → AreBriefs (drop i bs) cs → Left bs cs i d
unfolding AreBriefs written
next_left bs cs i d below are =
    let next : suc i ≡ i + 1 = omega arith in
    let is : drop i bs ≡ slice_index_or bs i d ∷ drop (i + 1) bs = drop-cons bs i d below ∙ ap (λ k. slice_index_or bs i d ∷ drop k bs) next in
    let all = subst (λ (xs : List Brief). AreBriefs xs cs) is are in record {
      few = all.0;
      within = all.1;
      rest = all.2;
      one = ap length is ∙ (let z : suc (length (drop (i + 1) bs)) ≡ length (drop (i + 1) bs) + 1 = omega arith in z);
      written = ap (λ (xs : List Brief). written xs cs) is;
    }

-- one entry more is written out
pub one_out : (whole : List Entry) {more all : List Entry} {bs : List Brief} {cs own others : List Case} {i n : ℕ} {d : Brief} {e : Entry} → Left bs cs i d
    → n ≡ case_count (slice_index_or bs i d) → own ≡ take n cs → others ≡ drop n cs → e ≡ entry_of (slice_index_or bs i d) own
    → more ≡ whole ++ e ∷ [] → whole ++ written (drop i bs) cs ≡ all
    → AreBriefs (drop (i + 1) bs) others × (more ++ written (drop (i + 1) bs) others ≡ all)
one_out whole {more} {all} {bs} {cs} {own} {others} {i} {n} {d} {e} left count own_is others_is entry grown so_far =
    let b = slice_index_or bs i d in
    let left_is : others ≡ drop (case_count b) cs = others_is ∙ ap (λ k. drop k cs) count in
    let entry_is : e ≡ entry_of b (take (case_count b) cs) = entry ∙ ap (λ (xs : List Case). entry_of b xs) (own_is ∙ ap (λ k. take k cs) count) in (
      subst (AreBriefs (drop (i + 1) bs)) (sym left_is) left.rest,
      ap (λ (es : List Entry). es ++ written (drop (i + 1) bs) others) grown ∙ append_assoc whole (e ∷ []) (written (drop (i + 1) bs) others)
          ∙ ap (λ (es : List Entry). whole ++ es) ((λ k. entry_is k ∷ written (drop (i + 1) bs) (left_is k)) ∙ sym left.written) ∙ so_far,
    )

-- ---- one of them alone

pub none_written : (bs : List Brief) (cs : List Case) (i : ℕ) → length bs ≤ i → slice_get (written bs cs) i ≡ None
none_written bs cs i past = slice_get_past (written bs cs) i (omega (arith, past, written_length bs cs))

-- what is known of an entry whatever its cases are is known by what is kept of it
pub brief-tells : {A : Type 0} (f : Entry → A) → ((b : Brief) (cs ds : List Case) → f (entry_of b cs) ≡ f (entry_of b ds))
    → (bs : List Brief) (cs : List Case) (i : ℕ) (b : Brief) → (i < length bs) × ((d : Brief) → b ≡ get_or bs i d)
    → option_map f (slice_get (written bs cs) i) ≡ Some (f (entry_of b []))
unfolding written
brief-tells f same bs cs i b (low, at) = there bs cs i (slice_get_read bs (length bs) i b refl low (at b))
  where
    there : (bs : List Brief) (cs : List Case) (i : ℕ) → slice_get bs i ≡ Some b → option_map f (slice_get (written bs cs) i) ≡ Some (f (entry_of b []))
    there [] cs i is = absurd (none-some b is)
    there (x ∷ bs) cs zero is =
        ap Some (same x (take (case_count x) cs) []) ∙ ap (λ (y : Brief). Some (f (entry_of y []))) (same_Some x b is)
    there (x ∷ bs) cs (suc i) is = there bs (drop (case_count x) cs) i is

-- so where nothing stands, something else may be known
pub mapped-is : (f : Entry → Bool) (o : Option Entry) (b : Bool) → option_map f o ≡ Some b → option_map_or f o false ≡ b
mapped-is f None b is = absurd (none-some b is)
mapped-is f (Some e) b is = same_Some (f e) b is

pub same_pid : (b : Brief) (cs ds : List Case) → (entry_of b cs).pid ≡ (entry_of b ds).pid
same_pid (brief.Exit pid) cs ds = refl
same_pid other cs ds = refl

pub same_kind : (b : Brief) (cs ds : List Case) → is_call (entry_of b cs).step ≡ is_call (entry_of b ds).step
same_kind (brief.Exit pid) cs ds = refl
same_kind other cs ds = refl

-- a brief with its cases
pub record Stands (bs : List Brief) (left all : List Case) (i : ℕ) (b : Brief) : Type 0 where
  pub few : case_count b ≤ CASE_PLACES
  pub within : first_of b + case_count b ≤ length all
  pub is : slice_get (written bs left) i ≡ Some (entry_of b (own_of b all))

stands_behind : (n : ℕ) (bs : List Brief) (all : List Case) (i : ℕ) (b : Brief) → n ≤ length all → AreBriefs bs (drop n all) → StandFrom n bs
    → slice_get bs i ≡ Some b → Stands bs (drop n all) all i b
unfolding AreBriefs StandFrom written
stands_behind n [] all i b low are stand at = absurd (none-some b at)
stands_behind n (x ∷ bs) all zero b low (few, within, rest) (first, stand) at =
    let same : x ≡ b = same_Some x b at in
    let own = own_there b n all (subst (BeginsAt n) same first) in
    record {
      few = subst (λ (y : Brief). case_count y ≤ CASE_PLACES) same few;
      within = own.within (omega (arith, low, ap case_count same, within, length-drop n all));
      is = ap (λ (y : Brief). Some (entry_of y (take (case_count y) (drop n all)))) same
          ∙ ap (λ (cs : List Case). Some (entry_of b cs)) own.own;
    }
stands_behind n (x ∷ bs) all (suc i) b low (few, within, rest) (first, stand) at =
    let k = case_count x in
    let left : drop k (drop n all) ≡ drop (n + k) all = drop-drop k n all in
    let next = stands_behind (n + k) bs all i b (omega (arith, low, within, length-drop n all)) (subst (AreBriefs bs) left rest) stand at in
    record {
      few = next.few;
      within = next.within;
      is = ap (λ (cs : List Case). slice_get (written bs cs) i) left ∙ next.is;
    }

pub stands_at : (bs : List Brief) (all : List Case) (i : ℕ) (b : Brief) → AreBriefs bs all → StandFrom 0 bs
    → (i < length bs) × ((d : Brief) → b ≡ get_or bs i d) → Stands bs all all i b
stands_at bs all i b are stand (low, at) =
    stands_behind 0 bs all i b (omega arith) are stand (slice_get_read bs (length bs) i b refl low (at b))

-- ---- an entry more, all of which is kept in one place

-- it has no cases beside
whole_beside : (e : Entry) (b : Brief) → IsWhole e b → cases_beside e b ≡ []
whole_beside e (brief.Send pid p number) whole = refl
whole_beside e (brief.Recv pid p) whole = refl
whole_beside e (brief.Call pid default count first word) whole = absurd (omega (arith, (whole 0).begins, (whole 1).begins))
whole_beside e (brief.Make pid cap) whole = refl
whole_beside e (brief.Close pid p) whole = refl
whole_beside e (brief.Exit pid) whole = refl
whole_beside e (brief.Cancel pid q) whole = refl
whole_beside e (brief.Start pid q) whole = refl
whole_beside e (brief.Reopen pid p cap) whole = refl

pub gains_whole : {bs more : List Brief} {cs : List Case} {b : Brief} (e : Entry) → AreBriefs bs cs → IsWhole e b → more ≡ bs ++ b ∷ []
    → Gains bs more cs cs e
gains_whole {bs} {more} {cs} {b} e are whole more_is =
    gains e are refl (whole (length cs)) refl more_is (sym (whole_beside e b whole)) (omega arith) (sym (append-nil cs))

-- a call whose cases stand beside
pub gains_beside : {bs more : List Brief} {cs cs' ds : List Case} (e : Entry) (cases : ArrayVec Case) (default : Bool) (word first count : ℕ)
    → AreBriefs bs cs → e.step ≡ Call cases default word → count ≡ length cases.items → first ≡ length cs
    → more ≡ bs ++ brief.Call e.pid default count first word ∷ [] → ds ≡ cases.items → length ds ≤ CASE_PLACES → cs' ≡ cs ++ ds
    → Gains bs more cs cs' e
gains_beside {bs} {more} {cs} {cs'} {ds} e cases default word first count are is many behind more_is own few longer =
    let b : Brief = brief.Call e.pid default count first word in
    let kept : IsBriefOf e first b =
    subst (λ (s : Step). IsBriefOf (record { pid = e.pid; step = s }) first b) (sym is) (record { again = refl; count = many; begins = refl }) in
    gains e are refl kept behind more_is (own ∙ sym (ap (λ (s : Step). cases_or s []) is)) few longer
