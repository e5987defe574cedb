-- None of the arguments so far is an unknown option.
use Rattle.std.proofs.Common.{◌≡◌, map, drop}
use Rattle.chanhub.specs.Words.{any_unknown_option}
use Rattle.chanhub.proofs.words.options.any_unknown_option.Given as goal

abbrev pub invariant-loop-word : goal.invariant-loop-word
invariant-loop-word g l =
    any_unknown_option (map g.S.AsStr.text l.words) ≡ any_unknown_option (map g.S.AsStr.text (drop l.word-index l.words))
