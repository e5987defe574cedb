-- What the tests of keys and kinds say of a table.
use Rattle.std.proofs.Common.{◌≡◌, ℕ, zero, suc, ◌∙◌, ℤ, pos, Bool, true, false, ◌&&◌, List, [], ◌∷◌, codes}
use Rattle.std.proofs.Common.{Option, None, Some, IsSome, IfSome, Ok, Err, refl, ap, sym, if◌then◌else◌}
use Rattle.std.specs.Option.{IsSomeAnd, is_some, option_and_then, option_map}
use Rattle.std.specs.Result.{is_ok}
use Rattle.std.specs.Cmp.Lexicographic.{slice_cmp}
use Rattle.std.specs.Ordering.{nat_cmp, match_ordering}
use Rattle.std.specs.declared.cmp.Ordering.{Ordering}
use Rattle.std.specs.declared.cmp.Ordering.TheVariants.{Less, Equal, Greater}
use Rattle.std.proofs.lemmas.Bool.{false≢true}
use Rattle.std.proofs.lemmas.Cmp.{nat_list_cmp_total, tied_itself}
use Rattle.std.proofs.lemmas.Map.Lookups.{exact_bytes}
use Rattle.std.specs.Cmp.{first_so, second_so}
use Rattle.toml.specs.Data.{Data, integer, array, table, Items, no_items, item, Members, no_members, member, get_member}
use Rattle.hub_scenario.specs.declared.limits.TheConstants.{DEFAULT_JOURNAL, DEFAULT_LIMIT}
use Rattle.hub_scenario.specs.declared.keys.Owner.{Owner}
use Rattle.hub_scenario.specs.declared.keys.Owner.TheVariants.{File, Process}
use Rattle.hub_scenario.specs.declared.fault.ScenarioFault.{ScenarioFault}
use Rattle.hub_scenario.specs.declared.fault.ScenarioFault.TheVariants.{BadKey}
use Rattle.hub_scenario.proofs.Firsts.{same_err}
use Rattle.hub_scenario.specs.Causes.{IsWhole, IsArray, Each, IsArrayOf, HasOnly, IsProcess, HasShape}
use Rattle.hub_scenario.specs.Faults.{cons_some}
use Rattle.hub_scenario.specs.Frames.{FrameData, steps_of, all_steps, framed, frame_of}
use Rattle.hub_scenario.specs.Keys.{is_key, keys_known, whole_or, array_at}

-- nothing is there and something is there
pub apart : {A : Type 0} (x : A) (o : Option A) → o ≡ Some x → o ≡ None → ⊥
apart x o is none = false≢true (ap is_some (sym none ∙ is))

-- ---- keys
found-later-case : (o : Ordering) (d : Data) (r : Option Data) → IsSome r → IsSome (match_ordering o r (Some d) r)
found-later-case Less d r h = h
found-later-case Equal d r h = refl
found-later-case Greater d r h = h

found-later : (k l : List ℕ) (d : Data) (ms : Members) → IsSome (get_member k ms) → IsSome (get_member k (member l d ms))
found-later k l d ms = found-later-case (slice_cmp nat_cmp k l) d (get_member k ms)

found-first : (l : List ℕ) (d : Data) (ms : Members) → IsSome (get_member l (member l d ms))
found-first l d ms = rw (tied_itself nat_list_cmp_total l) refl

known-case : (owner : Owner) (k l : List ℕ) (d : Data) (ms : Members) (o : Ordering) → slice_cmp nat_cmp k l ≡ o → is_key owner l ≡ true
    → (IsSome (get_member k ms) → is_key owner k ≡ true) → IsSome (match_ordering o (get_member k ms) (Some d) (get_member k ms)) → is_key owner k ≡ true
known-case owner k l d ms Less is known rest found = rest found
known-case owner k l d ms Equal is known rest found = ap (is_key owner) (exact_bytes k l is) ∙ known
known-case owner k l d ms Greater is known rest found = rest found

pub keys-known : (owner : Owner) (ms : Members) → keys_known owner ms ≡ true → HasOnly owner ms
keys-known owner no_members h k found = absurd (false≢true found)
keys-known owner (member l d ms) h k found =
    known-case owner k l d ms (slice_cmp nat_cmp k l) refl (first_so (is_key owner l) (keys_known owner ms) h)
    (keys-known owner ms (second_so (is_key owner l) (keys_known owner ms) h) k) found

unknown-case : (owner : Owner) (l : List ℕ) (d : Data) (ms : Members) (b : Bool) → is_key owner l ≡ b → (b && keys_known owner ms) ≡ false
    → (keys_known owner ms ≡ false → HasOnly owner ms → ⊥) → HasOnly owner (member l d ms) → ⊥
unknown-case owner l d ms false is h rest only = false≢true (sym is ∙ only l (found-first l d ms))
unknown-case owner l d ms true is h rest only = rest h (λ k found. only k (found-later k l d ms found))

pub keys-unknown : (owner : Owner) (ms : Members) → keys_known owner ms ≡ false → HasOnly owner ms → ⊥
keys-unknown owner no_members h only = false≢true (sym h)
keys-unknown owner (member l d ms) h only =
    unknown-case owner l d ms (is_key owner l) refl h (keys-unknown owner ms) only

-- ---- kinds
pub whole-some : (default z : ℤ) (o : Option Data) → whole_or default o ≡ Some z → IfSome o IsWhole
whole-some default z None h = tt
whole-some default z (Some (integer n)) h = (n, refl)
whole-some default z (Some other) h = absurd (apart z None h refl)

pub whole-none : (default : ℤ) (o : Option Data) → whole_or default o ≡ None → IfSome o IsWhole → ⊥
whole-none default None h is = apart default (Some default) refl h
whole-none default (Some d) h (z, is) = apart z (whole_or default (Some d)) (ap (λ d. whole_or default (Some d)) is) h

pub array-some : (ds : Items) (o : Option Data) → array_at o ≡ Some ds → o ≡ Some (array ds)
array-some ds None h = absurd (apart ds None h refl)
array-some ds (Some (array es)) h = ap (option_map array) h
array-some ds (Some other) h = absurd (apart ds None h refl)

is_array : (ds : Items) (o : Option Data) → array_at o ≡ Some ds → IsSomeAnd o IsArray
is_array ds o h = rw (array-some ds o h) (ds, refl)

pub array-none : (o : Option Data) → array_at o ≡ None → IsSomeAnd o IsArray → ⊥
array-none None h is = is
array-none (Some d) h (ds, is) = apart ds (array_at (Some d)) (ap (λ d. array_at (Some d)) is) h

-- ---- each element of an array
-- the elements by this test, where each passes it
abbrev pub all_by : {A : Type 0} → (Data → Option A) → Items → Option (List A)
all_by test no_items = Some []
all_by test (item d ds) = cons_some (test d) (all_by test ds)

all-some-case : {A : Type 0} (test : Data → Option A) (Is : Data → Type 0) (d : Data) (ds : Items) (o : Option A) (r : Option (List A)) (all : List A)
    → test d ≡ o → cons_some o r ≡ Some all → ((x : A) → test d ≡ Some x → Is d) → ((xs : List A) → r ≡ Some xs → Each Is ds) → Each Is (item d ds)
all-some-case test Is d ds None r all is h passes rest i = absurd (apart all None h refl)
all-some-case test Is d ds (Some x) None all is h passes rest i = absurd (apart all None h refl)
all-some-case test Is d ds (Some x) (Some xs) all is h passes rest zero = passes x is
all-some-case test Is d ds (Some x) (Some xs) all is h passes rest (suc i) = rest xs refl i

pub all-some : {A : Type 0} (test : Data → Option A) (Is : Data → Type 0) → ((d : Data) (x : A) → test d ≡ Some x → Is d)
    → (ds : Items) (all : List A) → all_by test ds ≡ Some all → Each Is ds
all-some test Is passes no_items all h i = tt
all-some test Is passes (item d ds) all h i =
    all-some-case test Is d ds (test d) (all_by test ds) all refl h (passes d) (all-some test Is passes ds) i

all-none-case : {A : Type 0} (test : Data → Option A) (Is : Data → Type 0) (d : Data) (ds : Items) (o : Option A) (r : Option (List A))
    → test d ≡ o → cons_some o r ≡ None → (test d ≡ None → Is d → ⊥) → (r ≡ None → Each Is ds → ⊥) → Each Is (item d ds) → ⊥
all-none-case test Is d ds None r is h fails rest each = fails is (each 0)
all-none-case test Is d ds (Some x) None is h fails rest each = rest refl (λ i. each (suc i))
all-none-case test Is d ds (Some x) (Some xs) is h fails rest each = apart (x ∷ xs) (Some (x ∷ xs)) refl h

pub all-none : {A : Type 0} (test : Data → Option A) (Is : Data → Type 0) → ((d : Data) → test d ≡ None → Is d → ⊥) → (ds : Items)
    → all_by test ds ≡ None → Each Is ds → ⊥
all-none test Is fails no_items h each = apart [] (Some []) refl h
all-none test Is fails (item d ds) h each =
    all-none-case test Is d ds (test d) (all_by test ds) refl h (fails d) (all-none test Is fails ds) each

-- ---- processes
process-case : (ds : Items) (ms : Members) (b : Bool) → keys_known Process ms ≡ b
    → (if b then array_at (get_member (codes "steps") ms) else None) ≡ Some ds → IsProcess (table ms)
process-case ds ms false is h = absurd (apart ds None h refl)
process-case ds ms true is h = (ms, refl, keys-known Process ms is, is_array ds (get_member (codes "steps") ms) h)

steps-some : (d : Data) (ds : Items) → steps_of d ≡ Some ds → IsProcess d
steps-some (table ms) ds h = process-case ds ms (keys_known Process ms) refl h
steps-some other ds h = absurd (apart ds None h refl)

no_process-case : (ms : Members) (b : Bool) → keys_known Process ms ≡ b → (if b then array_at (get_member (codes "steps") ms) else None) ≡ None
    → HasOnly Process ms → IsSomeAnd (get_member (codes "steps") ms) IsArray → ⊥
no_process-case ms false is h only steps = keys-unknown Process ms is only
no_process-case ms true is h only steps = array-none (get_member (codes "steps") ms) h steps

steps-none : (d : Data) → steps_of d ≡ None → IsProcess d → ⊥
steps-none d h (ms, is, only, steps) = no_process-case ms (keys_known Process ms) refl (sym (ap steps_of is) ∙ h) only steps

all_steps-by : (ds : Items) → all_steps ds ≡ all_by steps_of ds
all_steps-by no_items = refl
all_steps-by (item d ds) = ap (cons_some (steps_of d)) (all_steps-by ds)

processes-some-case : (o : Option Data) (r : Option Items) (all : List Items) → array_at o ≡ r → option_and_then all_steps r ≡ Some all
    → IsSomeAnd o (IsArrayOf IsProcess)
processes-some-case o None all is h = absurd (apart all None h refl)
processes-some-case o (Some ds) all is h =
    rw (array-some ds o is) (ds, refl, all-some steps_of IsProcess steps-some ds all (sym (all_steps-by ds) ∙ h))

processes-none : (o : Option Data) → option_and_then all_steps (array_at o) ≡ None → IsSomeAnd o (IsArrayOf IsProcess) → ⊥
processes-none None h is = is
processes-none (Some d) h (ds, is, each) =
    all-none steps_of IsProcess steps-none ds
    (sym (all_steps-by ds) ∙ sym (ap (λ d. option_and_then all_steps (array_at (Some d))) is) ∙ h) each

-- ---- the frame
pub fails : {A : Type 0} (x : A) (e : ScenarioFault) → Err e ≡ Ok x → ⊥
fails x e h = false≢true (ap is_ok h)

shape-case : (ms : Members) (f : FrameData) (b : Bool) (seed limit journal : Option ℤ) (ports : Option Items) (process : Option (List Items))
    → keys_known File ms ≡ b → whole_or (pos 0) (get_member (codes "seed") ms) ≡ seed → whole_or (pos DEFAULT_LIMIT) (get_member (codes "limit") ms) ≡ limit
    → whole_or (pos DEFAULT_JOURNAL) (get_member (codes "journal") ms) ≡ journal
    → array_at (get_member (codes "ports") ms) ≡ ports → option_and_then all_steps (array_at (get_member (codes "process") ms)) ≡ process
    → (if b then framed seed limit journal ports process else Err BadKey) ≡ Ok f → HasShape ms
shape-case ms f false s l j p q known seed limit journal ports process h = absurd (fails f BadKey h)
shape-case ms f true None l j p q known seed limit journal ports process h = absurd (fails f BadKey h)
shape-case ms f true (Some s) None j p q known seed limit journal ports process h = absurd (fails f BadKey h)
shape-case ms f true (Some s) (Some l) None p q known seed limit journal ports process h = absurd (fails f BadKey h)
shape-case ms f true (Some s) (Some l) (Some j) None q known seed limit journal ports process h = absurd (fails f BadKey h)
shape-case ms f true (Some s) (Some l) (Some j) (Some p) None known seed limit journal ports process h = absurd (fails f BadKey h)
shape-case ms f true (Some s) (Some l) (Some j) (Some p) (Some q) known seed limit journal ports process h = record {
  keys = keys-known File ms known;
  seed = whole-some (pos 0) s (get_member (codes "seed") ms) seed;
  limit = whole-some (pos DEFAULT_LIMIT) l (get_member (codes "limit") ms) limit;
  journal = whole-some (pos DEFAULT_JOURNAL) j (get_member (codes "journal") ms) journal;
  ports = is_array p (get_member (codes "ports") ms) ports;
  process = processes-some-case (get_member (codes "process") ms) (array_at (get_member (codes "process") ms)) q refl process;
}

-- a tree whose keys and kinds pass has the shape of a scenario
pub shape : (ms : Members) (f : FrameData) → frame_of ms ≡ Ok f → HasShape ms
shape ms f h = shape-case ms f (keys_known File ms) _ _ _ _ _ refl refl refl refl refl refl h

no_shape-case : (ms : Members) (e : ScenarioFault) (b : Bool) (seed limit journal : Option ℤ) (ports : Option Items) (process : Option (List Items))
    → keys_known File ms ≡ b → whole_or (pos 0) (get_member (codes "seed") ms) ≡ seed → whole_or (pos DEFAULT_LIMIT) (get_member (codes "limit") ms) ≡ limit
    → whole_or (pos DEFAULT_JOURNAL) (get_member (codes "journal") ms) ≡ journal
    → array_at (get_member (codes "ports") ms) ≡ ports → option_and_then all_steps (array_at (get_member (codes "process") ms)) ≡ process
    → (if b then framed seed limit journal ports process else Err BadKey) ≡ Err e → HasShape ms → ⊥
no_shape-case ms e false s l j p q known seed limit journal ports process h has = keys-unknown File ms known has.keys
no_shape-case ms e true None l j p q known seed limit journal ports process h has = whole-none (pos 0) (get_member (codes "seed") ms) seed has.seed
no_shape-case ms e true (Some s) None j p q known seed limit journal ports process h has =
    whole-none (pos DEFAULT_LIMIT) (get_member (codes "limit") ms) limit has.limit
no_shape-case ms e true (Some s) (Some l) None p q known seed limit journal ports process h has =
    whole-none (pos DEFAULT_JOURNAL) (get_member (codes "journal") ms) journal has.journal
no_shape-case ms e true (Some s) (Some l) (Some j) None q known seed limit journal ports process h has =
    array-none (get_member (codes "ports") ms) ports has.ports
no_shape-case ms e true (Some s) (Some l) (Some j) (Some p) None known seed limit journal ports process h has =
    processes-none (get_member (codes "process") ms) process has.process
no_shape-case ms e true (Some s) (Some l) (Some j) (Some p) (Some q) known seed limit journal ports process h has = false≢true (sym (ap is_ok h))

-- and one that does not pass has not
pub no_shape : (ms : Members) (e : ScenarioFault) → frame_of ms ≡ Err e → HasShape ms → ⊥
no_shape ms e h = no_shape-case ms e (keys_known File ms) _ _ _ _ _ refl refl refl refl refl refl h

bad_key-case : (e : ScenarioFault) (b : Bool) (seed limit journal : Option ℤ) (ports : Option Items) (process : Option (List Items))
    → (if b then framed seed limit journal ports process else Err BadKey) ≡ Err e → BadKey ≡ e
bad_key-case e false s l j p q h = same_err BadKey e _ h refl
bad_key-case e true None l j p q h = same_err BadKey e _ h refl
bad_key-case e true (Some s) None j p q h = same_err BadKey e _ h refl
bad_key-case e true (Some s) (Some l) None p q h = same_err BadKey e _ h refl
bad_key-case e true (Some s) (Some l) (Some j) None q h = same_err BadKey e _ h refl
bad_key-case e true (Some s) (Some l) (Some j) (Some p) None h = same_err BadKey e _ h refl
bad_key-case e true (Some s) (Some l) (Some j) (Some p) (Some q) h = absurd (false≢true (sym (ap is_ok h)))

pub bad_key : (ms : Members) (e : ScenarioFault) → frame_of ms ≡ Err e → BadKey ≡ e
bad_key ms e h = bad_key-case e (keys_known File ms) _ _ _ _ _ h
