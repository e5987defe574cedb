-- Worked lines of reports.
use Rattle.std.specs.Prelude.{◌≡◌, true, false, [], ◌∷◌, codes, refl}
use Rattle.std.specs.Fmt.{digits}
use Rattle.hub_runner.specs.declared.report.PortReport.{PortReport}
use Rattle.hub_runner.specs.ReportText.{port_line, port_lines, count_line}

abbrev open_port : PortReport
open_port = record { cap = 3; sent = 3; received = 3; left = 0; sum = 13; closed = false }

pub open_row : port_line 1 open_port ≡ codes "port 1 cap 3 sent 3 received 3 left 0 sum 13 open\n"
unfolding digits
open_row = refl

abbrev closed_port : PortReport
closed_port = record { cap = 1024; sent = 12; received = 10; left = 2; sum = 18446744073709551616; closed = true }

-- a sum above 64 bits, and a number of two digits
pub closed_row :
    port_line 64 closed_port
    ≡ codes "port 64 cap 1024 sent 12 received 10 left 2 sum 18446744073709551616 closed\n"
unfolding digits
closed_row = refl

pub order_row :
    port_lines 1 (open_port ∷ open_port ∷ [])
    ≡ codes "port 1 cap 3 sent 3 received 3 left 0 sum 13 open\nport 2 cap 3 sent 3 received 3 left 0 sum 13 open\n"
unfolding digits
order_row = refl

pub stalled_row : count_line (codes "stalled ") 20 ≡ codes "stalled 20\n"
unfolding digits
stalled_row = refl

-- no line tells of none
pub none_row : count_line (codes "faults ") 0 ≡ []
none_row = refl
