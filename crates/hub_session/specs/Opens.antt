-- What an opening leaves, and when it is refused.
use Rattle.std.specs.Prelude.{◌≡◌, ◌<◌, ◌==◌, ℕ, Bool, true, false, List, [], Option, None, Some, if◌then◌else◌}
use Rattle.hub_base.specs.declared.head.Edition.{Edition}
use Rattle.hub_base.specs.declared.head.Edition.TheVariants.{One, Two, Three}
use Rattle.hub_base.specs.Head.{IsHead, head_of}
use Rattle.hub_core.specs.HubView.{IsLimit, RefusesOpening, opened_hub, terms_of}
use Rattle.hub_core.specs.declared.opening.OpenFault.{OpenFault}
use Rattle.hub_core.specs.declared.opening.OpenFault.TheVariants as fault
use Rattle.hub_base.specs.declared.limits.TheConstants.{MOST_STEPS}
use Rattle.hub_chapters.specs.Chapters.Chapters.{First}
use Rattle.hub_cut.specs.Recorder.{IsKeep}
use Rattle.hub_served.specs.Endless.{EndlessView, Explains, NoneWaits}
use Rattle.hub_cut.specs.declared.fault.ChainFault.{ChainFault}
use Rattle.hub_cut.specs.Faults.{IsNotLegal}
use Rattle.hub_served.specs.declared.follower.AfterDivergence.{AfterDivergence}
use Rattle.hub_served.specs.declared.follower.AfterDivergence.TheVariants.{GoesOn, Ends}
use Rattle.hub_served.specs.Follow.{FollowView, FollowsAnew}
use Rattle.hub_live.specs.Locked.{none_waits}
use Rattle.hub_session.specs.declared.session.Opened.{Opened}
use Rattle.hub_session.specs.declared.session.Opened.TheVariants.{Limited, Endless, Following}
use Rattle.hub_session.specs.declared.session.Session.{Session}
use Rattle.hub_session.specs.declared.structs.FollowC.{FollowC}
use Rattle.hub_session.specs.Tells.{follow_refused}

-- the edition of this number
abbrev pub edition_of : ℕ → Option Edition
edition_of n = if n == 1 then Some One else if n == 2 then Some Two else if n == 3 then Some Three else None

-- this hub, and no chapter that waits
pub record IsAnew (hub : Opened) (hands_out : Bool) (s : Session) : Type 0 where
  pub hub_is : s.hub ≡ hub
  pub waiting : s.chapter ≡ None
  pub hands_out_is : s.hands_out ≡ hands_out

-- a hub at which nothing has happened
abbrev pub IsOpened : Edition → ℕ → ℕ → Session → Type 0
IsOpened edition procs limit s = IsAnew (Limited (none_waits (opened_hub (terms_of edition procs limit)))) false s

-- a hub that never ends, at which nothing has happened
pub record IsOpenedEndless (edition : Edition) (procs keep : ℕ) (hands_out : Bool) (s : Session) : Type 0 where
  pub hub : EndlessView
  pub anew : IsAnew (Endless hub) hands_out s
  pub explained : Explains (First []) hub
  pub none : NoneWaits hub
  pub terms : hub.recorder.hub.terms ≡ terms_of edition procs MOST_STEPS
  pub keep_is : hub.recorder.keep ≡ keep

-- a hub that follows the journal of this text, at which nothing has happened
pub record IsOpenedFollowing (text : List ℕ) (after : AfterDivergence) (s : Session) : Type 0 where
  pub hub : FollowView
  pub anew : IsAnew (Following hub) false s
  pub follows : FollowsAnew text after hub

-- there is a hub of this edition, with so many processes and this limit
pub record CanOpen (edition procs limit : ℕ) : Type 0 where
  pub is : Edition
  pub edition_is : edition_of edition ≡ Some is
  pub head : IsHead (head_of is procs)
  pub limits : IsLimit limit

-- there is such a hub, and this is one at which nothing has happened
pub record IsNew (edition procs limit : ℕ) (s : Session) : Type 0 where
  pub can : CanOpen edition procs limit
  pub new : IsOpened can.is procs limit s

-- the same of one that never ends and keeps so many entries of a chapter
pub record IsNewEndless (edition procs keep : ℕ) (hands_out : Bool) (s : Session) : Type 0 where
  pub can : CanOpen edition procs MOST_STEPS
  pub keeps : IsKeep keep
  pub new : IsOpenedEndless can.is procs keep hands_out s

-- there is a hub of this edition, but this fault refuses it
pub record IsRefusedBy (edition procs limit : ℕ) (f : OpenFault) : Type 0 where
  pub is : Edition
  pub edition_is : edition_of edition ≡ Some is
  pub refuses : RefusesOpening (terms_of is procs limit) f

-- when the number of each refusal comes
pub record IsRefusedSo (edition procs limit number : ℕ) : Type 0 where
  pub procs_bad : number ≡ 1 → IsRefusedBy edition procs limit fault.BadProcs
  pub limit_bad : number ≡ 2 → IsRefusedBy edition procs limit fault.BadLimit
  pub memory : number ≡ 3 → CanOpen edition procs limit
  pub edition_bad : number ≡ 4 → edition_of edition ≡ None
  pub some : 0 < number
  pub few : number < 5

-- the same for a hub that never ends
pub record IsRefusedEndless (edition procs keep number : ℕ) : Type 0 where
  pub procs_bad : number ≡ 1 → IsRefusedBy edition procs MOST_STEPS fault.BadProcs
  pub keep_bad : number ≡ 2 → ¬ IsKeep keep
  pub memory : number ≡ 3 → CanOpen edition procs MOST_STEPS × IsKeep keep
  pub edition_bad : number ≡ 4 → edition_of edition ≡ None
  pub some : 0 < number
  pub few : number < 5

-- what an opening comes to: a new hub, or none, and the number of what refused it
abbrev pub OpensSession : ℕ → ℕ → ℕ → Option Session → ℕ → Type 0
OpensSession edition procs limit None number = IsRefusedSo edition procs limit number
OpensSession edition procs limit (Some s) number = IsNew edition procs limit s × (number ≡ 0)

-- the same of a hub that never ends
abbrev pub OpensEndless : ℕ → ℕ → ℕ → Bool → Option Session → ℕ → Type 0
OpensEndless edition procs keep hands_out None number = IsRefusedEndless edition procs keep number
OpensEndless edition procs keep hands_out (Some s) number = IsNewEndless edition procs keep hands_out s × (number ≡ 0)

-- ---- a hub that follows a journal
-- what comes after a divergence
abbrev pub after_of : Bool → AfterDivergence
after_of true = GoesOn
after_of false = Ends

-- the text is that of a legal journal, and this is a hub that follows it
abbrev pub IsNewFollowing : List ℕ → Bool → Session → Type 0
IsNewFollowing text goes_on s = IsOpenedFollowing text (after_of goes_on) s

-- this is told of why it is not followed
pub record NotFollowed (text : List ℕ) (told : FollowC) : Type 0 where
  pub fault : ChainFault
  pub why : IsNotLegal text fault
  pub tells : told ≡ follow_refused fault

abbrev pub OpensFollowing : List ℕ → Bool → Option Session → FollowC → Type 0
OpensFollowing text goes_on None told = NotFollowed text told
OpensFollowing text goes_on (Some s) told = IsNewFollowing text goes_on s × (told ≡ record { refusal = 0; line = 0 })
