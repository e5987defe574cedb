-- The two formats, whose texts are written line by line, and how far a writer of one has come.
use Rattle.std.specs.Prelude.{◌≡◌, ℕ, List, [], ◌∷◌, ◌++◌, codes, Option}
use Rattle.std.specs.Io.KnownBytes.{Appends}
use Rattle.hub_replay.specs.Devices.{AppendsSome}
use Rattle.hub_trace.specs.Json as json
use Rattle.hub_trace.specs.Json.Nest.{Array, Object}
use Rattle.hub_trace.specs.Json.Place.{Value}
use Rattle.hub_trace.specs.Diagrams as diagrams
use Rattle.hub_trace.specs.Diagrams.Place.{Due}

pub data Format : Type 0 where
  Trace : Format
  Diagram : Format

-- where a reader stands before a line: in a trace a list is open, and about it an object
abbrev pub in_events : json.State
in_events = json.at Value (Array ∷ Object ∷ [])

abbrev pub margin : diagrams.Place
margin = Due (codes "    ")

-- whole lines, behind which others can stand
abbrev pub AtLine : Format → List ℕ → Type 0
AtLine Trace text = json.after json.start text ≡ in_events
AtLine Diagram text = diagrams.IsDiagram text

abbrev pub IsBegun : Format → List ℕ → Type 0
IsBegun Trace text = json.IsBegun text
IsBegun Diagram text = diagrams.IsBegun text

-- a text that grew leads from here to there, whatever stands before it
abbrev pub Leads : (List ℕ → Type 0) → (List ℕ → Type 0) → List ℕ → List ℕ → Type 0
Leads From To old new = (before : List ℕ) → From (before ++ old) → To (before ++ new)

-- it grew by whole lines
abbrev pub Keeps : Format → List ℕ → List ℕ → Type 0
Keeps f old new = Leads (AtLine f) (AtLine f) old new

-- since the start bytes were written that, with a text that waits to be, are whole lines
pub record Holds (f : Format) (start now : Option (List ℕ)) (text : List ℕ) : Type 0 where
  pub written : List ℕ
  pub appends : Appends start now written
  pub lines : AtLine f (written ++ text)

-- if they were whole lines before, they are so now, or what was written begins such
abbrev pub Goes : Format → Option (List ℕ) → Option (List ℕ) → List ℕ → List ℕ → Type 0
Goes f before after old new = (start : Option (List ℕ)) → Holds f start before old → Holds f start after new

abbrev pub Begins : Format → Option (List ℕ) → Option (List ℕ) → List ℕ → Type 0
Begins f before after old = (start : Option (List ℕ)) → Holds f start before old → AppendsSome (IsBegun f) start after
