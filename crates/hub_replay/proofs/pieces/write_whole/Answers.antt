use Rattle.std.proofs.Common.{◌≡◌, ℕ, ◌-◌, List, ◌++◌, rules, length, take, drop, sym, ap, ◌∙◌, append_assoc, take-append-drop}
use Rattle.std.proofs.lemmas.List.{take_rest}
use Rattle.std.proofs.KnownBytes.{Appends-trans}
use Rattle.hub_replay.proofs.pieces.write_whole.Goals as goal

-- n more bytes were taken, and the slice behind them is left
taken-more : (all taken rest : List ℕ) (n : ℕ) → all ≡ taken ++ rest → all ≡ (taken ++ take n rest) ++ take (length rest - n) (drop n rest)
taken-more all taken rest n is =
    is ∙ ap (λ l. taken ++ l) (sym (take-append-drop n rest)) ∙ sym (append_assoc taken (take n rest) (drop n rest))
    ∙ ap (λ l. (taken ++ take n rest) ++ l) (sym (take_rest rest n))

pub loop-rest-preserved : goal.loop-rest-preserved
loop-rest-preserved g c =
    let (taken, split, appended, same) = c.loop-rest.invariant in
    let rest = c.loop-rest.rest.now in
    let n = c.in-Ok.count in
    (taken ++ take n rest, taken-more _ _ _ n split, Appends-trans _ _ _ _ _ appended c.in-Ok.ensures.bytes, search rules)
