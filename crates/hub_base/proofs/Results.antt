-- What is known where a result is an error.
use Rattle.std.proofs.Common.{Result, Ok, Err, OnErr}

pub on-err : {T E P : Type 0} (r : Result T E) → P → OnErr r P
on-err (Ok x) p = tt
on-err (Err e) p = p
