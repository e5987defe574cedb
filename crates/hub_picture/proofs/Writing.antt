-- A document that is written bit by bit.
use Rattle.std.proofs.Common.{◌≡◌, ◌∙◌, ◌++◌, ℕ, false, List, [], ◌∷◌, Option, Ok, refl, sym, ap, append_assoc}
use Rattle.std.specs.Global.{Vec}
use Rattle.std.specs.Io.KnownBytes.{Appends}
use Rattle.std.proofs.KnownBytes.{Appends-nil, Appends-trans}
use Rattle.hub_replay.specs.Devices.{AppendsAllBut, AppendsBeginning, AppendsSome}
use Rattle.hub_picture.specs.Xml.{IsBegun, IsDocument, State, after, is_broken}
use Rattle.hub_picture.specs.Xml.State.{Broken, End, Start}
use Rattle.hub_picture.specs.Reading.{Elements, Holds, Reads, in_root}
use Rattle.hub_picture.proofs.Reading.{after-append}

-- what is broken stays so
broken-on : (text : List ℕ) → after Broken text ≡ Broken
broken-on [] = refl
broken-on (c ∷ cs) = broken-on cs

front-whole : (s : State) (text : List ℕ) → is_broken (after s text) ≡ false → is_broken s ≡ false
front-whole Broken text so = ap is_broken (sym (broken-on text)) ∙ so
front-whole s text so = refl

begins : (written front back : List ℕ) {to : State} → is_broken to ≡ false → after Start (written ++ (front ++ back)) ≡ to → IsBegun (written ++ front)
begins written front back so reads =
    front-whole (after Start (written ++ front)) back
    (ap is_broken (sym (after-append Start (written ++ front) back) ∙ ap (after Start) (append_assoc written front back) ∙ reads) ∙ so)

-- its head waits
pub holds-first : {E : Type 0} {old new : Vec ℕ} {u : Unit {0}} (start : Option (List ℕ)) → old.items ≡ [] → Reads {E = E} old new Start in_root (Ok u) →
    Holds start start new.items
holds-first start none reads = record { written = []; appends = Appends-nil start; reads = reads.ok Start (ap (after Start) none) }

module _ {start now : Option (List ℕ)} where
  there : {E : Type 0} {old new : Vec ℕ} {u : Unit {0}} {to : State} (so : Holds start now old.items) → Reads {E = E} old new in_root to (Ok u) →
      after Start (so.written ++ new.items) ≡ to
  there {old} {new} so reads =
      after-append Start so.written new.items
      ∙ reads.ok (after Start so.written) (sym (after-append Start so.written old.items) ∙ so.reads)

  -- elements were put behind the text that waits
  pub holds-elements : {E : Type 0} {old new : Vec ℕ} {u : Unit {0}} → Elements {E = E} old new (Ok u) → Holds start now old.items →
      Holds start now new.items
  holds-elements put so = record { written = so.written; appends = so.appends; reads = there so (put _ _) }

  -- some of it was written
  pub holds-more : {next : Option (List ℕ)} {old new : List ℕ} → AppendsAllBut now next old new → Holds start now old → Holds start next new
  holds-more {next} {old} {new} more so = record {
    written = so.written ++ more.written;
    appends = Appends-trans start now next so.written more.written so.appends more.appends;
    reads = ap (after Start) (append_assoc so.written more.written new ∙ ap (λ l. so.written ++ l) (sym more.split)) ∙ so.reads;
  }

  -- it ended there
  pub begun-here : {text : List ℕ} → Holds start now text → AppendsSome IsBegun start now
  begun-here {text} so =
      (so.written, front-whole (after Start so.written) text (ap is_broken (sym (after-append Start so.written text) ∙ so.reads)), so.appends)

  pub begun-more : (next : Option (List ℕ)) {text : List ℕ} → AppendsBeginning now next text → Holds start now text → AppendsSome IsBegun start next
  begun-more next (front, back, split, appends) so = (
    so.written ++ front,
    begins so.written front back refl (ap (λ l. after Start (so.written ++ l)) (sym split) ∙ so.reads),
    Appends-trans start now next so.written front so.appends appends,
  )

  -- its foot was put behind
  module _ {E : Type 0} (next : Option (List ℕ)) {old new : Vec ℕ} {bytes : List ℕ} {u : Unit {0}} (so : Holds start now old.items)
      (reads : Reads {E = E} old new in_root End (Ok u)) (is : bytes ≡ new.items) where
    pub whole : Appends now next bytes → AppendsSome IsDocument start next
    whole appends = (
      so.written ++ bytes,
      ap (λ l. after Start (so.written ++ l)) is ∙ there so reads,
      Appends-trans start now next so.written bytes so.appends appends,
    )

    pub begun-whole : AppendsBeginning now next bytes → AppendsSome IsBegun start next
    begun-whole (front, back, split, appends) = (
      so.written ++ front,
      begins so.written front back refl (ap (λ l. after Start (so.written ++ l)) (sym split ∙ is) ∙ there so reads),
      Appends-trans start now next so.written front so.appends appends,
    )
