-- Texts that are written one after the other.
use Rattle.std.proofs.Common.{◌≡◌, ◌∙◌, ℕ, false, List, [], ◌∷◌, ◌++◌, ap, refl, sym, append_assoc, Option, subst}
use Rattle.std.proofs.lemmas.List.Sums.{fold-append}
use Rattle.std.specs.Io.KnownBytes.{Appends}
use Rattle.std.proofs.KnownBytes.{Appends-nil, Appends-trans}
use Rattle.hub_replay.specs.Devices.{AppendsAllBut, AppendsBeginning, AppendsSome}
use Rattle.hub_trace.specs.Json as json
use Rattle.hub_trace.specs.Json.{Nest, State}
use Rattle.hub_trace.specs.Json.Place.{Broken as Failed}
use Rattle.hub_trace.specs.Diagrams as diagrams
use Rattle.hub_trace.specs.Diagrams.Place.{Due, Broken}
use Rattle.hub_trace.specs.Formats.Format.{Trace, Diagram}
use Rattle.hub_trace.specs.Formats.{Format, AtLine, Holds, IsBegun, Keeps, Leads}

-- ---- what is no text of a format stays none
unbroken-place : (p : json.Place) (nest : List Nest) (c : ℕ) → json.is_broken (json.by p nest c).place ≡ false → json.is_broken p ≡ false
unbroken-place Failed nest c h = h
unbroken-place other nest c h = refl

unbroken : (s : State) (text : List ℕ) → json.is_broken (json.after s text).place ≡ false → json.is_broken s.place ≡ false
unbroken s [] h = h
unbroken s (c ∷ cs) h = unbroken-place s.place s.nest c (unbroken (json.step s c) cs h)

json-begun : (t : State) (xs ys : List ℕ) → json.is_broken t.place ≡ false → json.after json.start (xs ++ ys) ≡ t → json.IsBegun xs
json-begun t xs ys whole h =
    unbroken (json.after json.start xs) ys
    (ap (λ (s : State). json.is_broken s.place) (sym (fold-append json.step json.start xs ys) ∙ h) ∙ whole)

unbroken-byte : (p : diagrams.Place) (c : ℕ) → diagrams.is_broken (diagrams.step p c) ≡ false → diagrams.is_broken p ≡ false
unbroken-byte Broken c h = h
unbroken-byte (Due ds) c h = refl

unbroken-line : (p : diagrams.Place) (text : List ℕ) → diagrams.is_broken (diagrams.after p text) ≡ false → diagrams.is_broken p ≡ false
unbroken-line p [] h = h
unbroken-line p (c ∷ cs) h = unbroken-byte p c (unbroken-line (diagrams.step p c) cs h)

pub begun : (f : Format) (xs ys : List ℕ) → AtLine f (xs ++ ys) → IsBegun f xs
begun Trace xs ys h = json-begun _ xs ys refl h
begun Diagram xs ys h =
    unbroken-line (diagrams.after diagrams.start xs) ys (ap diagrams.is_broken (sym (fold-append diagrams.step diagrams.start xs ys) ∙ h))

-- a whole value begins with what a text of JSON begins with
pub whole-begun : (xs ys : List ℕ) → json.IsJson (xs ++ ys) → json.IsBegun xs
whole-begun xs ys h = json-begun _ xs ys refl h

-- ---- what was written
module _ (f : Format) (start : Option (List ℕ)) where
  pub holds-first : (text : List ℕ) → AtLine f text → Holds f start start text
  holds-first text h = record { written = []; appends = Appends-nil start; lines = h }

  -- lines were put behind the text that waits
  pub holds-lines : (now : Option (List ℕ)) (old new : List ℕ) → Keeps f old new → Holds f start now old → Holds f start now new
  holds-lines now old new keeps so = record { written = so.written; appends = so.appends; lines = keeps so.written so.lines }

  -- some of it was written
  pub holds-more : (now next : Option (List ℕ)) (old new : List ℕ) → AppendsAllBut now next old new → Holds f start now old → Holds f start next new
  holds-more now next old new more so = record {
    written = so.written ++ more.written;
    appends = Appends-trans start now next so.written more.written so.appends more.appends;
    lines = subst (AtLine f) (ap (λ l. so.written ++ l) more.split ∙ sym (append_assoc so.written more.written new)) so.lines;
  }

  -- it ended there
  pub begun-here : (now : Option (List ℕ)) (text : List ℕ) → Holds f start now text → AppendsSome (IsBegun f) start now
  begun-here now text so = (so.written, begun f so.written text so.lines, so.appends)

  -- ---- behind it came a text that leads to the end, or a beginning of that
  module _ (Is : List ℕ → Type 0) (now next : Option (List ℕ)) (mid last bytes : List ℕ) (so : Holds f start now mid)
      (leads : Leads (AtLine f) Is mid last) (is : bytes ≡ last) where
    pub whole : Appends now next bytes → AppendsSome Is start next
    whole appends = (
      so.written ++ bytes,
      subst (λ l. Is (so.written ++ l)) (sym is) (leads so.written so.lines),
      Appends-trans start now next so.written bytes so.appends appends,
    )

    pub begun-whole : ((xs ys : List ℕ) → Is (xs ++ ys) → IsBegun f xs) → AppendsBeginning now next bytes → AppendsSome (IsBegun f) start next
    begun-whole begins (front, back, split, appends) = (
      so.written ++ front,
      begins (so.written ++ front) back
          (subst Is (ap (λ l. so.written ++ l) (sym is ∙ split) ∙ sym (append_assoc so.written front back)) (leads so.written so.lines)),
      Appends-trans start now next so.written front so.appends appends,
    )

  -- a beginning of what waits was written
  pub begun-more : (now next : Option (List ℕ)) (text : List ℕ) → AppendsBeginning now next text → Holds f start now text →
      AppendsSome (IsBegun f) start next
  begun-more now next text more so = begun-whole (AtLine f) now next text text text so (λ before h. h) refl (begun f) more
