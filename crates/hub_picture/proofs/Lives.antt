-- The lanes of a process, one turn further.
use Rattle.std.proofs.Common.{◌≡◌, ◌<◌, ◌+◌, ◌∙◌, ◌++◌, ℕ, List, length, drop, get_or, ap, sym, append_assoc}
use Rattle.std.proofs.lemmas.List.{at_drop_more}
use Rattle.hub_picture.specs.declared.lanes.Lane.{Lane}
use Rattle.hub_picture.specs.declared.lanes.Turn.{Turn}
use Rattle.hub_picture.specs.Lanes.{after, lanes_from, left_by}

pub lanes-next : (turns : List Turn) (i : ℕ) (d : Turn) (lane next : Lane) (old new all : List Lane) → i < length turns →
    next ≡ after lane (get_or turns i d) → new ≡ old ++ left_by lane (get_or turns i d) → old ++ lanes_from lane (drop i turns) ≡ all →
    new ++ lanes_from next (drop (i + 1) turns) ≡ all
lanes-next turns i d lane next old new all below goes left was =
    let t : Turn = get_or turns i d in
    let rest : List Turn = drop (i + 1) turns in
    ap (λ (l : Lane). new ++ lanes_from l rest) goes
    ∙ ap (λ (l : List Lane). l ++ lanes_from (after lane t) rest) left
    ∙ append_assoc old (left_by lane t) (lanes_from (after lane t) rest)
    ∙ ap (λ (l : List Lane). old ++ l) (sym (at_drop_more (lanes_from lane) turns i d below))
    ∙ was
