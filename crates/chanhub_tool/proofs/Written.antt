-- What was written, whole or a beginning of it.
use Rattle.std.proofs.Common.{◌≡◌, ℕ, List, [], Option, Result, Ok, Err, OnErr, OnOk, refl}
use Rattle.std.specs.Io.KnownBytes.{Appends}
use Rattle.std.proofs.KnownBytes.{Appends-nil}
use Rattle.hub_base.specs.Journal.{JournalView}
use Rattle.hub_replay.specs.Devices.{AppendsBeginning, AppendsSome}
use Rattle.hub_story.specs.declared.window.Window.{Window}
use Rattle.chanhub_tool.specs.declared.asked.Form.{Form}
use Rattle.chanhub_tool.specs.declared.asked.Form.TheVariants as form
use Rattle.chanhub_tool.specs.Explains.{Begins, IsBegun}

-- nothing is a beginning in any form
nothing-begins : (f : Form) (w : Window) (given : JournalView) → IsBegun f w given []
nothing-begins (form.Text paint) w given = (_, refl)
nothing-begins form.Picture w given = refl
nothing-begins form.Mermaid w given = refl
nothing-begins form.Trace w given = refl
nothing-begins form.Page w given = (_, refl)

module _ {A E : Type 0} (r : Result A E) (old : Option (List ℕ)) where
  pub nothing : (f : Form) (w : Window) (given : JournalView) → OnErr r (AppendsSome (IsBegun f w given) old old)
  nothing f w given = elim r as (λ r. OnErr r (AppendsSome (IsBegun f w given) old old))
      [ Ok x ↦ tt | Err e ↦ ([], nothing-begins f w given, Appends-nil old) ]

  pub whole : (new : Option (List ℕ)) (text : List ℕ) → OnOk r (Appends old new text) → OnOk r (AppendsSome (λ (l : List ℕ). l ≡ text) old new)
  whole new text = elim r as (λ r. OnOk r (Appends old new text) → OnOk r (AppendsSome (λ (l : List ℕ). l ≡ text) old new))
      [ Ok x ↦ λ appends. (text, refl, appends) | Err e ↦ λ _. tt ]

  pub begun : (new : Option (List ℕ)) (text : List ℕ) → OnErr r (AppendsBeginning old new text) → OnErr r (AppendsSome (λ (l : List ℕ). Begins l text) old new)
  begun new text = elim r as (λ r. OnErr r (AppendsBeginning old new text) → OnErr r (AppendsSome (λ (l : List ℕ). Begins l text) old new))
      [ Ok x ↦ λ _. tt | Err e ↦ λ (front, back, split, appends). (front, (back, split), appends) ]
