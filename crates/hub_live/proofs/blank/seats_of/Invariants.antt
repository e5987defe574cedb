use Rattle.std.proofs.Common.{◌≡◌, vec_len}
use Rattle.hub_live.specs.Prelude.{AreSeats, name_of}
use Rattle.hub_live.proofs.blank.seats_of.Given as goal

abbrev pub invariant-loop-pid : goal.invariant-loop-pid
invariant-loop-pid l = (vec_len l.seats ≡ l.pid) × AreSeats (name_of l.table.shared.table_id l.table.shared.key) 0 l.seats.items
