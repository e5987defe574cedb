-- What a text says, as far as its reading came.
use Rattle.std.proofs.Common.{◌≡◌, ◌∙◌, ◌≤◌, ℕ, List, length, Ok, Err, ap, arith}
use Rattle.std.proofs.lemmas.Bool.Decides.{nat_tests}
use Rattle.toml.specs.Data.{Members}
use Rattle.hub_scenario.specs.declared.limits.TheConstants.{MOST_FILE_BYTES}
use Rattle.hub_scenario.specs.declared.fault.ScenarioFault.{ScenarioFault}
use Rattle.hub_scenario.specs.Faults.{◌>>=◌}
use Rattle.hub_scenario.specs.Frames.{FrameData, frame_of}
use Rattle.hub_scenario.specs.Scenario.{scenario_of, tree_of, reading, values_of}

-- a text that is not too long says what its tree says
short : (bytes : List ℕ) → length bytes ≤ MOST_FILE_BYTES → reading bytes ≡ (tree_of bytes >>= scenario_of)
short bytes few = grind (arith, nat_tests)

pub no-tree : (bytes : List ℕ) (e : ScenarioFault) → length bytes ≤ MOST_FILE_BYTES → tree_of bytes ≡ Err e → reading bytes ≡ Err e
no-tree bytes e few tree = short bytes few ∙ ap (λ t. t >>= scenario_of) tree

pub by-tree : (bytes : List ℕ) (ms : Members) → length bytes ≤ MOST_FILE_BYTES → tree_of bytes ≡ Ok ms → reading bytes ≡ scenario_of ms
by-tree bytes ms few tree = short bytes few ∙ ap (λ t. t >>= scenario_of) tree

pub no-frame : (ms : Members) (e : ScenarioFault) → frame_of ms ≡ Err e → scenario_of ms ≡ Err e
no-frame ms e frame = ap (λ f. f >>= values_of) frame

pub by-both : (bytes : List ℕ) (ms : Members) (f : FrameData) → length bytes ≤ MOST_FILE_BYTES → tree_of bytes ≡ Ok ms → frame_of ms ≡ Ok f
    → reading bytes ≡ values_of f
by-both bytes ms f few tree frame = by-tree bytes ms few tree ∙ ap (λ f. f >>= values_of) frame
