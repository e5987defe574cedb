-- The text of a report: a line for each port in order of number, then `stalled K` and `faults F`,
-- each where its number is above 0.
use Rattle.std.specs.Prelude.{ℕ, ◌+◌, ◌==◌, Bool, true, false, List, [], ◌∷◌, ◌++◌, codes, decimal, if◌then◌else◌}
use Rattle.hub_runner.specs.declared.report.PortReport.{PortReport}
use Rattle.hub_runner.specs.declared.report.Report.{Report}

-- a word and a number
abbrev pub field : List ℕ → ℕ → List ℕ
field word n = word ++ decimal n

-- how a port's line ends
abbrev pub ending : Bool → List ℕ
ending true = codes " closed\n"
ending false = codes " open\n"

-- the line of port n: `port N cap C sent S received R left L sum T closed`, or `open` as last word
abbrev pub port_line : ℕ → PortReport → List ℕ
port_line n p =
    field (codes "port ") n ++ field (codes " cap ") p.cap ++ field (codes " sent ") p.sent
    ++ field (codes " received ") p.received ++ field (codes " left ") p.left
    ++ field (codes " sum ") p.sum ++ ending p.closed

-- the lines of these ports, the first of which has number n
abbrev pub port_lines : ℕ → List PortReport → List ℕ
port_lines n [] = []
port_lines n (p ∷ ps) = port_line n p ++ port_lines (n + 1) ps

-- a line of a number above 0; nothing for 0
abbrev pub count_line : List ℕ → ℕ → List ℕ
count_line word count = if count == 0 then [] else field word count ++ codes "\n"

-- the whole text
abbrev pub report_text : Report → List ℕ
report_text r =
    port_lines 1 r.ports.items ++ count_line (codes "stalled ") r.stalled
    ++ count_line (codes "faults ") r.faults
