-- A text has few entries.
use Rattle.std.proofs.Common.{◌<◌, ◌-◌, ◌^◌, ℕ, List, length, arith}
use Rattle.hub_base.specs.declared.head.Head.{Head}
use Rattle.hub_base.specs.Entry.{Entry}
use Rattle.hub_base.specs.Text.{IsText}
use Rattle.hub_base.proofs.OneReading.{few-entries as few}

pub few-entries : (bytes : List ℕ) (h : Head) (es : List Entry) → IsText bytes h es → length es < 2 ^ 32 - 1
few-entries bytes h es is = omega (arith, few bytes h es is)
