-- Worked rows of drawings, worked out by hand.
use Rattle.std.specs.Prelude.{◌≡◌, ℕ, true, false, List, [], ◌∷◌, filter, map, None, refl}
use Rattle.hub_base.specs.Entry.{Entry}
use Rattle.hub_base.specs.Notation.{procs, make, send, recv, exit}
use Rattle.hub_story.specs.declared.told.Told.{Told}
use Rattle.hub_story.specs.Told.{told, end_of}
use Rattle.hub_story.specs.declared.window.Window.{Window}
use Rattle.hub_picture.specs.declared.arrows.Arrow.{Arrow}
use Rattle.hub_picture.specs.declared.asked.Shown.TheVariants.{Bars}
use Rattle.hub_story.specs.Windows.{within}
use Rattle.hub_picture.specs.Drawings.{ended_by, shows, all_arrows, stalls_in}

abbrev steps : ℕ → ℕ → Window
steps first end = record { first = first; end = end }

pub cut_row : within (steps 2 90) 7 ≡ steps 2 7
cut_row = refl

-- ---- a full buffer: process 0 sends at places 1 and 2, and waits at 2 until process 1 receives at 3
abbrev through_a_buffer : List Entry
through_a_buffer = make 0 1 ∷ send 0 1 5 ∷ send 0 1 6 ∷ recv 1 1 ∷ recv 1 1 ∷ []

abbrev all_told : List Told
all_told = told (procs 2) through_a_buffer

-- by which step each arrow leaves, and by which it comes
abbrev ends : List Arrow → List (ℕ × ℕ)
ends arrows = map (λ a. (a.passage.sent.told.by, a.passage.received.told.by)) arrows

pub arrows_row : ends (all_arrows (steps 0 5) through_a_buffer all_told) ≡ (1, 3) ∷ (3, 4) ∷ []
arrows_row = refl

-- the second arrow began before step 4, and the first ended before it
pub window_row : ends (all_arrows (steps 4 5) through_a_buffer all_told) ≡ (3, 4) ∷ []
window_row = refl

pub wait_row : shows Bars (steps 3 4) 2 (ended_by (end_of all_told 2)) ≡ true
wait_row = refl

pub no_wait_row : shows Bars (steps 0 5) 1 (ended_by (end_of all_told 1)) ≡ false
no_wait_row = refl

pub open_row : shows Bars (steps 8 9) 2 None ≡ true
open_row = refl

-- ---- both who are left are stalled by the exit at place 3, and so outside of the first three steps nobody is
abbrev everyone_stalls : List Told
everyone_stalls = told (procs 3) (make 0 0 ∷ recv 1 1 ∷ send 2 0 5 ∷ exit 0 ∷ [])

pub stalled_row : map (λ t. t.asked) (filter (stalls_in (steps 3 4)) everyone_stalls) ≡ 1 ∷ 2 ∷ []
stalled_row = refl

pub not_stalled_row : filter (stalls_in (steps 0 3)) everyone_stalls ≡ []
not_stalled_row = refl
