-- Things that are kept by the numbers of ports.
use Rattle.std.specs.Prelude.{◌==◌, List, [], ◌∷◌, slice_index_or, if◌then◌else◌}
use Rattle.hub_base.specs.declared.value.Port.{Port}

-- those of a port
abbrev pub things_on : {T : Type 0} → List (List T) → Port → List T
things_on lists p = slice_index_or lists p.0 []

-- these, which are of the second port, but none of the first
abbrev pub without : {T : Type 0} → Port → Port → List T → List T
without p q xs = if p.0 == q.0 then [] else xs

-- this one, where it is of that port
abbrev pub one_of : {T : Type 0} → Port → Port → T → List T
one_of p q x = if p.0 == q.0 then x ∷ [] else []
