-- Worked texts: what a journal's text says, and for which fault a malformed one is refused, and at
-- which line. Each is computed from `read_text`.
use Rattle.std.specs.Prelude.{◌≡◌, List, ℕ, [], ◌∷◌, ◌++◌, codes, map, replicate, refl, true, false}
use Rattle.std.specs.List.{flat_map, range_with_len}
use Rattle.hex.specs.Hex.{decode_pairs}
use Rattle.hub_base.specs.declared.read_fault.Kind.{Kind}
use Rattle.hub_base.specs.declared.read_fault.Kind.TheVariants.{BadHeader, BadProcs, BadStep, BadNumber, CutLine}
use Rattle.hub_base.specs.Notation.{procs, procs_two, procs_three, s, r, make, send, recv, select, close, cancel, exit, start, reopen}
use Rattle.hub_base.specs.Reading.{read_text, Reads, Faulty}

-- the text of these lines
abbrev text_of : List (List ℕ) → List ℕ
text_of lines = flat_map (λ line. line ++ codes "\n") lines

-- ---- whole texts
-- every kind of line, with the greatest numbers of each
abbrev greatest_numbers : List ℕ
greatest_numbers = text_of (
    codes "chanhub journal 1"
    ∷ codes "procs 64"
    ∷ codes "255 make 4294967295"
    ∷ codes "0 send 65535 18446744073709551615"
    ∷ codes "0 recv 65535"
    ∷ codes "1 select 18446744073709551615 s65535:18446744073709551615 r65535 default"
    ∷ codes "2 close 65535"
    ∷ codes "3 exit" ∷ [])

pub every_kind_of_line :
    read_text greatest_numbers
    ≡ Reads (procs 64) (make 255 4294967295
    ∷ send 0 65535 18446744073709551615
    ∷ recv 0 65535
    ∷ select 1 18446744073709551615 (s 65535 18446744073709551615 ∷ r 65535 ∷ []) true
    ∷ close 2 65535
    ∷ exit 3 ∷ [])
every_kind_of_line = refl

-- selects of no case, and of one case that has no short form
abbrev selects_of_few_cases : List ℕ
selects_of_few_cases = text_of (
    codes "chanhub journal 1"
    ∷ codes "procs 1"
    ∷ codes "0 select 0"
    ∷ codes "0 select 0 default"
    ∷ codes "0 select 7 s1:2"
    ∷ codes "0 select 0 r1 default" ∷ [])

pub few_cases :
    read_text selects_of_few_cases
    ≡ Reads (procs 1) (select 0 0 [] false
    ∷ select 0 0 [] true
    ∷ select 0 7 (s 1 2 ∷ []) false
    ∷ select 0 0 (r 1 ∷ []) true ∷ [])
few_cases = refl

-- a journal of no entries
pub head_alone : read_text (codes "chanhub journal 1\nprocs 64\n") ≡ Reads (procs 64) []
head_alone = refl

-- the same of the second edition, and its entries
pub second_edition :
    read_text (codes "chanhub journal 2\nprocs 3\n0 make 1\n")
    ≡ Reads (procs_two 3) (make 0 1 ∷ [])
second_edition = refl

-- a cancel with the greatest numbers
pub cancel_is_read :
    read_text (codes "chanhub journal 2\nprocs 2\n255 cancel 255\n0 cancel 1\n")
    ≡ Reads (procs_two 2) (cancel 255 255 ∷ cancel 0 1 ∷ [])
cancel_is_read = refl

-- a start and a reopen with the greatest numbers, in the third edition
pub lives_are_read :
    read_text (codes "chanhub journal 3\nprocs 2\n255 start 255\n0 reopen 65535 4294967295\n0 cancel 1\n")
    ≡ Reads (procs_three 2) (start 255 255 ∷ reopen 0 65535 4294967295 ∷ cancel 0 1 ∷ [])
lives_are_read = refl

-- ---- malformed texts
-- each of these texts is malformed first at this line, in this way
abbrev AllFaulty : ℕ → Kind → List (List ℕ) → Type 0
AllFaulty line kind texts = map read_text texts ≡ map (λ text. Faulty line kind) texts

pub cut_lines :
    AllFaulty 1 CutLine (codes "chanhub journal 1" ∷ [])
    × AllFaulty 2 CutLine (codes "chanhub journal 1\nprocs 1" ∷ [])
    × AllFaulty 3 CutLine (codes "chanhub journal 1\nprocs 1\n0 make 1" ∷ [])
cut_lines = (refl, refl, refl)

-- no text at all, a fourth edition, and one with a digit more
pub bad_headers : AllFaulty 1 BadHeader (
    [] ∷ codes "chanhub journal 4\nprocs 1\n" ∷ codes "chanhub journal 22\nprocs 1\n" ∷ [])
bad_headers = refl

-- no second line, too many processes and none, a leading zero, and a carriage return
pub bad_procs : AllFaulty 2 BadProcs (
    codes "chanhub journal 1\n"
    ∷ codes "chanhub journal 1\nprocs 65\n"
    ∷ codes "chanhub journal 1\nprocs 0\n"
    ∷ codes "chanhub journal 1\nprocs 01\n"
    ∷ codes "chanhub journal 1\nprocs 1\r\n" ∷ [])
bad_procs = refl

-- the first faulty line decides
pub first_faulty_line :
    AllFaulty 4 BadStep (codes "chanhub journal 1\nprocs 1\n0 exit\n0 send 1\n256 exit\n0 exit" ∷ [])
first_faulty_line = refl

-- a text of one process with this third line
abbrev with_line : List ℕ → List ℕ
with_line line = text_of (codes "chanhub journal 1" ∷ codes "procs 1" ∷ line ∷ [])

-- the same of the second edition
abbrev with_line_two : List ℕ → List ℕ
with_line_two line = text_of (codes "chanhub journal 2" ∷ codes "procs 1" ∷ line ∷ [])

-- by shape: two spaces, a send without a value, two colons, a receive with a value, a case behind the
-- default
pub bad_steps : AllFaulty 3 BadStep (map with_line (
    codes "0  send 1 1"
    ∷ codes "0 send 1"
    ∷ codes "0 select 0 s1:2:3"
    ∷ codes "0 select 0 r1:2 r1"
    ∷ codes "0 select 0 default r1" ∷ []))
bad_steps = refl

-- the first edition has no cancel, and in the second one names one process
pub cancels_of_the_first_edition : AllFaulty 3 BadStep (with_line (codes "0 cancel 1") ∷ [])
cancels_of_the_first_edition = refl

-- the second has neither a start nor a reopen
pub lives_of_the_second_edition :
    AllFaulty 3 BadStep (with_line_two (codes "0 start 1") ∷ with_line_two (codes "0 reopen 1 1") ∷ [])
lives_of_the_second_edition = refl

pub bad_lives :
    AllFaulty 3 BadStep (
    codes "chanhub journal 3\nprocs 2\n0 start\n"
    ∷ codes "chanhub journal 3\nprocs 2\n0 start 1 1\n"
    ∷ codes "chanhub journal 3\nprocs 2\n0 reopen 1\n"
    ∷ codes "chanhub journal 3\nprocs 2\n0 reopen 1 1 1\n" ∷ [])
    × AllFaulty 3 BadNumber (
    codes "chanhub journal 3\nprocs 2\n0 start 256\n"
    ∷ codes "chanhub journal 3\nprocs 2\n0 reopen 65536 1\n"
    ∷ codes "chanhub journal 3\nprocs 2\n0 reopen 1 4294967296\n" ∷ [])
bad_lives = (refl, refl)

pub bad_cancels :
    AllFaulty 3 BadStep (
    codes "chanhub journal 2\nprocs 2\n0 cancel\n"
    ∷ codes "chanhub journal 2\nprocs 2\n0 cancel 1 1\n" ∷ [])
    × AllFaulty 3 BadNumber (codes "chanhub journal 2\nprocs 2\n0 cancel 256\n" ∷ [])
bad_cancels = (refl, refl)

-- a select has at most sixteen cases
abbrev sixteen_cases : List ℕ
sixteen_cases = codes "0 select 0 r0 r1 r2 r3 r4 r5 r6 r7 r8 r9 r10 r11 r12 r13 r14 r15"

pub most_cases_of_a_select :
    read_text (with_line sixteen_cases)
    ≡ Reads (procs 1) (select 0 0 (map r (range_with_len 0 16)) false ∷ [])
most_cases_of_a_select = refl

pub seventeen_cases : AllFaulty 3 BadStep (with_line (sixteen_cases ++ codes " r16") ∷ [])
seventeen_cases = refl

-- by numbers, which are looked at only where the shape is right: each is one above its greatest, or has
-- a leading zero; the third field of a select is always the word; a port is a number
pub bad_numbers : AllFaulty 3 BadNumber (map with_line (
    codes "256 exit"
    ∷ codes "0 make 4294967296"
    ∷ codes "0 recv 65536"
    ∷ codes "0 send 1 18446744073709551616"
    ∷ codes "0 send 1 042"
    ∷ codes "0 select 18446744073709551616 r1 r2"
    ∷ codes "0 select default"
    ∷ codes "0 select 0 sx:1 r1" ∷ []))
bad_numbers = refl

-- by spelling: `0 select 0 r1` is `0 recv 1`; a select of one send with another word is no send
pub second_spelling : AllFaulty 5 BadStep (text_of (
    codes "chanhub journal 1"
    ∷ codes "procs 1"
    ∷ codes "0 make 1"
    ∷ codes "0 select 5 s1:3"
    ∷ codes "0 select 0 r1" ∷ []) ∷ [])
second_spelling = refl

-- bytes by a digit in upper case, an odd number of digits, more than 64 of them, or what is no digit
pub bad_bytes : AllFaulty 3 BadNumber (map with_line_two (
    codes "0 send 1 #0F"
    ∷ codes "0 send 1 #0"
    ∷ (codes "0 send 1 #" ++ replicate 66 48)
    ∷ codes "0 send 1 #0g"
    ∷ codes "0 send 1 ##"
    ∷ codes "0 send #00 1"
    ∷ codes "0 select 0 s1:#0F r1" ∷ []))
unfolding decode_pairs
bad_bytes = refl

-- in the first edition each value is a number
pub bytes_of_the_first_edition : AllFaulty 3 BadNumber (map with_line (codes "0 send 1 #" ∷ codes "0 send 1 #00ff" ∷ codes "0 select 0 s1:#00 r1" ∷ []))
bytes_of_the_first_edition = refl
