-- The two queues of a ring, and the values that they are.
use Rattle.std.specs.Prelude.{◌≡◌, ◌≤◌, ◌<◌, ◌+◌, ◌^◌, ◌++◌, length, map}
use Rattle.circular_buffer.specs.Buffer.{Buffer, buffer}
use Rattle.hub_base.specs.declared.value.Value.{Value}
use Rattle.hub_base.specs.Value.{value_of}
use Rattle.hub_parts.specs.declared.ring.Ring.TheInside.{Inside}

-- the numbers stand before the others
abbrev pub ring_shown : Inside → Buffer Value
ring_shown r = buffer (map value_of r.numbers.items ++ r.others.value.items) r.numbers.capacity

-- they are counted in 32 bits, and each queue has room for all
pub record RingKeeps (r : Inside) : Type 0 where
  pub count : r.len ≡ length r.numbers.items + length r.others.value.items
  pub fits : r.len ≤ r.numbers.capacity
  pub room : r.others.value.capacity ≡ r.numbers.capacity
  pub few : r.numbers.capacity < 2 ^ 32
