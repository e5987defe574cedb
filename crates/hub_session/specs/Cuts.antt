-- Cuts that C asks for, and the chapter that waits to be read.
use Rattle.std.specs.Prelude.{◌≡◌, Bool, true, false, Option, None, Some}
use Rattle.std.specs.Option.{option_map}
use Rattle.hub_core.specs.HubView.{ShortInMemory}
use Rattle.hub_cut.specs.Recorder.{hub_in}
use Rattle.hub_served.specs.Endless.{CutsNow, EndlessView}
use Rattle.hub_session.specs.declared.session.Opened.{Opened}
use Rattle.hub_session.specs.declared.session.Opened.TheVariants.{Limited, Endless, Following}
use Rattle.hub_session.specs.declared.session.Session.{Session}
use Rattle.hub_session.specs.declared.structs.CutC.{CutC}
use Rattle.hub_session.specs.Hubs.{is_there}
use Rattle.hub_session.specs.Steps.{held}

-- a hub that never ends is cut, or not. Not while a chapter waits to be read
abbrev pub CutsOut : Bool → EndlessView → Option ShortInMemory → EndlessView → Option ShortInMemory → Bool → Type 0
CutsOut hands_out was waited now waits true =
    (waited ≡ None) × CutsNow was now × (option_map hub_in waits ≡ held hands_out was.recorder.before)
CutsOut hands_out was waited now waits false = (now ≡ was) × (waits ≡ waited)

-- the same of a hub as it was opened: only one that never ends is cut
abbrev pub CutsHub : Bool → Opened → Option ShortInMemory → Opened → Option ShortInMemory → Bool → Type 0
CutsHub hands_out (Endless was) waited (Endless now) waits cut = CutsOut hands_out was waited now waits cut
CutsHub hands_out (Limited was) waited (Limited now) waits cut = (now ≡ was) × (waits ≡ waited) × (cut ≡ false)
CutsHub hands_out (Following was) waited (Following now) waits cut = (now ≡ was) × (waits ≡ waited) × (cut ≡ false)
CutsHub hands_out was waited now waits cut = ⊥

-- a cut that C asked for, and whether it was made
pub record CutsIn (was now : Session) (told : CutC) : Type 0 where
  pub hub : CutsHub was.hands_out was.hub was.chapter now.hub now.chapter told.cut
  pub chapter : told.chapter ≡ is_there now.chapter
  pub hands_out : now.hands_out ≡ was.hands_out

-- nothing, where there is no hub
abbrev pub Cuts : Option Session → Option Session → CutC → Type 0
Cuts None now told = (now ≡ None) × (told ≡ record { cut = false; chapter = false })
Cuts (Some was) None told = ⊥
Cuts (Some was) (Some now) told = CutsIn was now told

-- the chapter goes that waited to be read, and it is told whether one did
pub record LetsGoIn (was now : Session) (gone : Bool) : Type 0 where
  pub chapter : now.chapter ≡ None
  pub told : gone ≡ is_there was.chapter
  pub hub : now.hub ≡ was.hub
  pub hands_out : now.hands_out ≡ was.hands_out

abbrev pub LetsGo : Option Session → Option Session → Bool → Type 0
LetsGo None now gone = (now ≡ None) × (gone ≡ false)
LetsGo (Some was) None gone = ⊥
LetsGo (Some was) (Some now) gone = LetsGoIn was now gone
