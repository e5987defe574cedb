-- Lists of texts that are those of chapters.
use Rattle.std.specs.Prelude.{◌≡◌, ℕ, List, [], ◌∷◌, ◌++◌, Option, None, Some}
use Rattle.hub_base.specs.declared.head.Head.{Head}
use Rattle.hub_base.specs.Journal.{JournalView}
use Rattle.hub_base.specs.Text.{IsText}
use Rattle.hub_chapters.specs.Chapters.{Chapters, last_chapter}
use Rattle.hub_chapters.specs.Chapters.Chapters.{First, Cut}
use Rattle.hub_cut.specs.declared.fault.ChainFault.{ChainFault}
use Rattle.hub_cut.specs.Chains.{Stands, IsWhole}
use Rattle.hub_cut.specs.Faults.{IsNotLegal, DoesNotFollow}

-- the texts are those of the chapters, in order
abbrev pub AreTexts : Head → Chapters → List (List ℕ) → Type 0
AreTexts h (First es) texts = (text : List ℕ) × (texts ≡ text ∷ []) × IsText text h es
AreTexts h (Cut chapters later) texts =
    (before : List (List ℕ)) × (text : List ℕ) × (texts ≡ before ++ text ∷ [])
    × AreTexts h chapters before × IsText text h (last_chapter h (Cut chapters later))

-- the texts are those of chapters that are one legal history
pub record AreWhole (texts : List (List ℕ)) : Type 0 where
  pub head : Head
  pub chapters : Chapters
  pub texts_are : AreTexts head chapters texts
  pub whole : IsWhole head chapters

-- a chain stands behind the chapters whose texts these are
pub record StandsAt (chain : JournalView) (texts : List (List ℕ)) : Type 0 where
  pub head : Head
  pub chapters : Chapters
  pub texts_are : AreTexts head chapters texts
  pub stands : Stands chain head chapters

-- the same of a chain that may be none, at no text
abbrev pub IsAt : Option JournalView → List (List ℕ) → Type 0
IsAt None texts = texts ≡ []
IsAt (Some chain) texts = StandsAt chain texts

-- why a text is not the next chapter, or not the first where there is no chain
abbrev pub IsNoNext : Option JournalView → List ℕ → ChainFault → Type 0
IsNoNext None text fault = IsNotLegal text fault
IsNoNext (Some chain) text fault = DoesNotFollow chain text fault
