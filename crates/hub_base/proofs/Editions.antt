-- The third edition has every entry.
use Rattle.std.proofs.Common.{◌≡◌, true, List, [], ◌∷◌, refl}
use Rattle.std.specs.List.{list_all}
use Rattle.hub_base.specs.declared.case.Case.{Case}
use Rattle.hub_base.specs.declared.case.Case.TheVariants.{Send, Recv}
use Rattle.hub_base.specs.Entry.{Step}
use Rattle.hub_base.specs.declared.entry.Step.TheVariants.{Make, Call, Close, Exit, Cancel, Start, Reopen}
use Rattle.hub_base.specs.declared.head.Edition.TheVariants.{Three}
use Rattle.hub_base.specs.Content.{Content}
use Rattle.hub_base.specs.Value.{content}
use Rattle.hub_base.specs.Content.Content.{Num, Bytes}
use Rattle.hub_base.specs.Head.{has_content, has_case, is_of}

three-content : (c : Content) → has_content Three c ≡ true
three-content (Num n) = refl
three-content (Bytes bs) = refl

three-cases : (cs : List Case) → list_all (has_case Three) cs ≡ true
three-cases [] = refl
three-cases (Send p v ∷ cs) = rw (three-content (content v)) (three-cases cs)
three-cases (Recv p ∷ cs) = three-cases cs

pub three-has : (s : Step) → is_of Three s ≡ true
three-has (Make cap) = refl
three-has (Call cases default word) = three-cases cases.items
three-has (Close p) = refl
three-has Exit = refl
three-has (Cancel q) = refl
three-has (Start q) = refl
three-has (Reopen p cap) = refl
