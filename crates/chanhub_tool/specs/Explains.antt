-- What the program writes of a journal, and why it does not.
use Rattle.std.specs.Prelude.{◌≡◌, ℕ, List, ◌++◌, length, Option, Ok, Err}
use Rattle.hub_base.specs.declared.head.Head.{Head}
use Rattle.hub_base.specs.Entry.{Entry}
use Rattle.hub_base.specs.Journal.{JournalView}
use Rattle.hub_base.specs.Text.{IsText, IsFaulty}
use Rattle.hub_replay.specs.declared.fault.ReplayFault.TheVariants as replay
use Rattle.hub_replay.specs.Devices.{AppendsSome}
use Rattle.hub_replay.specs.Replay.{ReadsWhole}
use Rattle.hub_story.specs.Told.{told}
use Rattle.hub_story.specs.declared.window.Window.{Window}
use Rattle.hub_story_text.specs.StoryText.{painted_text}
use Rattle.hub_picture.specs.Xml as xml
use Rattle.hub_picture.specs.Xml.{IsDocument}
use Rattle.hub_trace.specs.Diagrams as diagram
use Rattle.hub_trace.specs.Diagrams.{IsDiagram}
use Rattle.hub_trace.specs.Json as json
use Rattle.hub_trace.specs.Json.{IsJson}
use Rattle.hub_page.specs.Page.{page_text}
use Rattle.chanhub_tool.specs.declared.asked.Asked.{Asked}
use Rattle.chanhub_tool.specs.declared.asked.Form.{Form}
use Rattle.chanhub_tool.specs.declared.asked.Form.TheVariants as form
use Rattle.chanhub_tool.specs.declared.fault.StoryFault.{StoryFault}
use Rattle.chanhub_tool.specs.declared.fault.StoryFault.TheVariants as fault
use Rattle.chanhub_tool.specs.Windows.{window_of}

-- the bytes are these steps in that form: a story and a page to the byte, and the others as those read them for whom they are
abbrev pub IsWhole : Form → Window → JournalView → List ℕ → Type 0
IsWhole (form.Text paint) w given text = text ≡ painted_text paint w given.head given.entries (told given.head given.entries)
IsWhole form.Picture w given text = IsDocument text
IsWhole form.Mermaid w given text = IsDiagram text
IsWhole form.Trace w given text = IsJson text
IsWhole form.Page w given text = text ≡ page_text w given.head given.entries (told given.head given.entries)

-- the bytes begin that text
abbrev pub Begins : List ℕ → List ℕ → Type 0
Begins text whole = (rest : List ℕ) × (whole ≡ text ++ rest)

-- the bytes are a beginning of these steps in that form
abbrev pub IsBegun : Form → Window → JournalView → List ℕ → Type 0
IsBegun (form.Text paint) w given text = Begins text (painted_text paint w given.head given.entries (told given.head given.entries))
IsBegun form.Picture w given text = xml.IsBegun text
IsBegun form.Mermaid w given text = diagram.IsBegun text
IsBegun form.Trace w given text = json.IsBegun text
IsBegun form.Page w given text = Begins text (page_text w given.head given.entries (told given.head given.entries))

-- the bytes are a journal's text, and its steps that are asked for are not shown for this
pub record HasNoSteps (asked : Asked) (bytes : List ℕ) (why : StoryFault) : Type 0 where
  pub head : Head
  pub entries : List Entry
  pub spelled : IsText bytes head entries
  pub none : window_of asked (length entries) ≡ Err why

-- why these bytes are not explained
abbrev pub HasNone : Asked → List ℕ → StoryFault → Type 0
HasNone asked bytes (fault.Replay (replay.Text text)) = IsFaulty bytes text.line text.kind
HasNone asked bytes (fault.Replay other) = ⊥
HasNone asked bytes other = HasNoSteps asked bytes other

-- a journal was read, and of its steps that are asked for a text of this kind was written
pub record Explains (asked : Asked) (unread left old new : Option (List ℕ)) (Is : Form → Window → JournalView → List ℕ → Type 0) : Type 0 where
  pub journal : List ℕ
  pub head : Head
  pub entries : List Entry
  pub window : Window
  pub read : ReadsWhole unread left journal
  pub spelled : IsText journal head entries
  pub shown : window_of asked (length entries) ≡ Ok window
  pub written : AppendsSome (Is asked.form window (record { head = head; entries = entries })) old new

-- what was read is not explained for this
pub record ReadsNone (asked : Asked) (unread left : Option (List ℕ)) (why : StoryFault) : Type 0 where
  pub bytes : List ℕ
  pub read : ReadsWhole unread left bytes
  pub none : HasNone asked bytes why
