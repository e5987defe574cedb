-- Worked rows of a recorder's chapters, of its counts and of its texts, each by hand from what they mean.
use Rattle.std.specs.Prelude.{◌≡◌, true, false, [], ◌∷◌, ◌^◌, ◌-◌, refl}
use Rattle.hub_base.specs.Notation.{s, r, make, select, send, recv, close, start}
use Rattle.hub_chapters.specs.Chapters.{Chapters}
use Rattle.hub_chapters.specs.Chapters.Chapters.{First, Cut}
use Rattle.hub_cut.specs.ChapterText.{most_line}
use Rattle.hub_cut.specs.Totals.{in_64_bits}
use Rattle.hub_cut.specs.Recorder.{is_full_at, since_cut, with_next}

-- a port is made, and one value is sent and received
abbrev first_chapter : Chapters
first_chapter = First (make 0 2 ∷ send 0 1 4 ∷ recv 1 1 ∷ [])

-- the next step comes behind a cut, or without one
pub cut_row : with_next true first_chapter (send 0 1 5) ≡ Cut first_chapter (send 0 1 5 ∷ [])
cut_row = refl

pub next_row : with_next false (Cut first_chapter (send 0 1 5 ∷ [])) (recv 1 1) ≡ Cut first_chapter (send 0 1 5 ∷ recv 1 1 ∷ [])
next_row = refl

pub since_cut_row : since_cut (Cut first_chapter (send 0 1 5 ∷ [])) ≡ send 0 1 5 ∷ []
since_cut_row = refl

-- with three entries of three behind a checkpoint of one a chapter is full; with two it is not, unless their lines are very long
pub full_row : is_full_at 3 1 3 342 ≡ true
full_row = refl

pub not_full_row : is_full_at 3 1 2 228 ≡ false
not_full_row = refl

pub long_row : is_full_at 900000 65728 500000 59500000 ≡ true
long_row = refl

-- behind a checkpoint of two it is full with four
pub twice_row : is_full_at 3 2 4 456 ≡ true
twice_row = refl

pub not_twice_row : is_full_at 3 2 3 342 ≡ false
not_twice_row = refl

-- the line of a call of one case has at most 114 bytes
pub most_line_row : most_line (send 0 1 7) ≡ 114
most_line_row = refl

pub close_row : most_line (close 0 1) ≡ 41
close_row = refl

-- and that of a start keeps as many again
pub start_row : most_line (start 0 1) ≡ 82
start_row = refl

pub select_row : most_line (select 1 0 (r 1 ∷ s 2 4 ∷ []) false) ≡ 187
select_row = refl

-- a count stays at the greatest number of 64 bits
pub count_row : in_64_bits (2 ^ 64) ≡ 2 ^ 64 - 1
count_row = refl
