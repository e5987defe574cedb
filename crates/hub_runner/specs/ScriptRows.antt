-- Worked rows: what processes asked in some journals, and that it follows their scripts.
use Rattle.std.specs.Prelude.{◌≡◌, ℕ, ◌+◌, true, List, [], ◌∷◌, Some, refl}
use Rattle.hub_base.specs.declared.event.Outcome.TheVariants.{Drained}
use Rattle.hub_base.specs.Entry.{Entry}
use Rattle.hub_base.specs.Notation.{procs, port, s, r, make, send, recv, close, exit, select, case, got, done}
use Rattle.hub_base.specs.Value.{value_of}
use Rattle.hub_scenario.specs.declared.script.ScriptStep.TheVariants.{Send, Recv, Select, Close, Range}
use Rattle.hub_laws.specs.Asked.{asked}
use Rattle.hub_runner.specs.Scripts.{Follows, MakesThenFollows}

-- word j is 10 and j
abbrev words : ℕ → ℕ
words j = 10 + j

-- process 0 makes the port, sends 4 and closes; process 1 ranges over the port until it is drained
abbrev passing : List Entry
passing = make 0 0 ∷ recv 1 1 ∷ send 0 1 4 ∷ recv 1 1 ∷ close 0 1 ∷ exit 1 ∷ exit 0 ∷ []

pub receiver_asked :
    asked 1 (procs 2) passing
    ≡ record { step = (recv 1 1).step; reply = Some (case 1 0 (got 4)) }
    ∷ record { step = (recv 1 1).step; reply = Some (case 1 0 Drained) }
    ∷ record { step = (exit 1).step; reply = Some (done 1) } ∷ []
unfolding asked
receiver_asked = refl

pub range_until_drained : Follows (Range (port 1) ∷ []) words 0 (asked 1 (procs 2) passing)
unfolding asked
range_until_drained = (refl, (refl, (refl, refl)))

pub sender_makes_the_port :
    MakesThenFollows (0 ∷ []) (Send (port 1) (value_of 4) ∷ Close (port 1) ∷ []) words (asked 0 (procs 2) passing)
unfolding asked
sender_makes_the_port = (refl, (refl, (refl, (refl, refl))))

-- the port of a range was never made, so its first receive is a fault; the script goes on
pub range_until_a_fault :
    Follows (Range (port 1) ∷ Close (port 0) ∷ []) words 0 (asked 0 (procs 1) (recv 0 1 ∷ close 0 0 ∷ exit 0 ∷ []))
unfolding asked
range_until_a_fault = (refl, (refl, (refl, refl)))

-- a range that gets one value and then stalls: the close behind it is left out
pub range_until_a_stall :
    MakesThenFollows (1 ∷ []) (Send (port 1) (value_of 7) ∷ Range (port 1) ∷ Close (port 1) ∷ []) words
    (asked 0 (procs 1) (make 0 1 ∷ send 0 1 7 ∷ recv 0 1 ∷ recv 0 1 ∷ exit 0 ∷ []))
unfolding asked
range_until_a_stall = (refl, (refl, (refl, (refl, (refl, refl)))))

-- a lone process stalls at its first step, so the second is left out
pub rest_is_left_out :
    Follows (Recv (port 0) ∷ Close (port 1) ∷ []) words 0 (asked 0 (procs 1) (recv 0 0 ∷ exit 0 ∷ []))
unfolding asked
rest_is_left_out = (refl, (refl, refl))

-- each select takes the next word, and no other step does; an answer `Closed` changes nothing
pub selects_take_words_in_order :
    MakesThenFollows (1 ∷ 0 ∷ [])
    (Select (record { items = r 1 ∷ s 2 3 ∷ [] }) true ∷ Close (port 1) ∷ Send (port 1) (value_of 5)
    ∷ Select (record { items = [] }) true ∷ [])
    words
    (asked 0 (procs 1) (make 0 1 ∷ make 0 0 ∷ select 0 10 (r 1 ∷ s 2 3 ∷ []) true ∷ close 0 1 ∷ send 0 1 5 ∷ select 0 11 [] true ∷ exit 0 ∷ []))
unfolding asked
selects_take_words_in_order = (refl, (refl, (refl, (refl, (refl, (refl, (refl, refl)))))))

-- an empty script is an exit
pub empty_script : Follows [] words 0 (asked 1 (procs 2) (exit 1 ∷ make 0 0 ∷ exit 0 ∷ []))
unfolding asked
empty_script = (refl, refl)
