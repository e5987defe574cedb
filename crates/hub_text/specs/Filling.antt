-- What the parts of a reader do that read into a given entry.
use Rattle.std.specs.Prelude.{◌≡◌, ℕ, List, Result, Ok, Err}
use Rattle.hub_base.specs.Entry.{Entry}
use Rattle.hub_base.specs.declared.read_fault.Kind.{Kind}
use Rattle.hub_text.specs.declared.steps.OneNumber.{OneNumber}
use Rattle.hub_text.specs.declared.steps.OneNumber.TheVariants.{Make, Recv, Close, Cancel, Start}
use Rattle.hub_base.specs.Lines.{read_make, read_recv, read_close, read_cancel, read_start}

-- what a result and an entry tell: the entry, or why there is none, and then the entry may be any
abbrev pub filled : Result (Unit {0}) Kind → Entry → Result Entry Kind
filled (Ok done) entry = Ok entry
filled (Err kind) entry = Err kind

-- they tell what was said
abbrev pub Fills : Result (Unit {0}) Kind → Entry → Result Entry Kind → Type 0
Fills result entry said = said ≡ filled result entry

-- what is said behind a word with one number
abbrev pub read_one_number : OneNumber → List ℕ → List (List ℕ) → Result Entry Kind
read_one_number Make = read_make
read_one_number Recv = read_recv
read_one_number Close = read_close
read_one_number Cancel = read_cancel
read_one_number Start = read_start
