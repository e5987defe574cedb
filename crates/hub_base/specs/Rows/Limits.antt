-- The limits as numbers. Everywhere else they have their names.
use Rattle.std.specs.Prelude.{◌≡◌, refl}
use Rattle.hub_base.specs.declared.limits.TheConstants.{MOST_PROCS, MOST_PORTS, MOST_CASES, CASE_PLACES, MOST_CAP, MOST_STEPS, MOST_BYTES, MOST_EVENTS}
use Rattle.hub_base.specs.declared.limits.TheConstants.{GREATEST_PID, GREATEST_CASE, GREATEST_PORT, GREATEST_CAP, GREATEST_VALUE, GREATEST_WORD}

-- of a hub and its steps
pub limits_of_a_hub :
    (MOST_PROCS ≡ 64) × (MOST_PORTS ≡ 64) × (MOST_CASES ≡ 8) × (MOST_CAP ≡ 1024) × (MOST_EVENTS ≡ 65)
limits_of_a_hub = (refl, refl, refl, refl, refl)

-- of a text
pub limits_of_a_text : (MOST_BYTES ≡ 67108864) × (MOST_STEPS ≡ 1000000) × (CASE_PLACES ≡ 16)
limits_of_a_text = (refl, refl, refl)

-- of the numbers in it
pub greatest_numbers :
    (GREATEST_PID ≡ 255) × (GREATEST_CASE ≡ 255) × (GREATEST_PORT ≡ 65535) × (GREATEST_CAP ≡ 4294967295)
    × (GREATEST_VALUE ≡ 18446744073709551615) × (GREATEST_WORD ≡ 18446744073709551615)
greatest_numbers = (refl, refl, refl, refl, refl, refl)
