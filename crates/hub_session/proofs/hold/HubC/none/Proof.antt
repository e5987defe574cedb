-- `none` holds no session.
use Rattle.std.proofs.Common.{◌≡◌, [], ◌∷◌, refl, lit<, false, Option, None}
use mir.Val.{Val}
use base.Logic.{SProp, emp}
use base.Fml.{ftrue}
use types.Kit.{‵, raw, ◌⊛◌, ◌$◌, ◌∵◌, !, qed, by, move, keep, split, fsplit, fjoin, use0}
use types.Run.{lit, false_lit, no_more, and_then, returns, enter}
use types.ByLocal.{alloc_all, pass_all, free_all, look_at, get, sets}
use types.Part.{agg}
use contract.Monad.{fact, fact_i}
use contract.Running.{tables}
use denote.Exit.{yes}
use denote.RattleType.{owns}
use denote.Signature.{types_at, plain}
use denote.RawPtr.{null_ptr}
use denote.Param.{layout}
use denote.Steps.{nothing}
use denote.Triple.Walked.{Stays, stay_dropped, Goes-dropped, walk_of}
use Rattle.core.proofs.cell.Inside.{Good}
use Rattle.std_heap.proofs.Handle.{heap_val, heap_Tells}
use Rattle.std_heap.proofs.Global.TheLaws as heap_laws
use Rattle.std.proofs.raw_atomic.Walks.{proved, leaves}
use Rattle.hub_session.proofs.HubValues.{Z, Hub, three, hub_in}
use Rattle.hub_session.specs.declared.session.Session.{Session}
use Rattle.hub_session.specs.contracts.hold.HubC.none as f
use Rattle.hub_session.proofs.hold.HubC.none.Statement.{statement}
use Rattle.hub_session.proofs.hold.HubC.none.Code as code

pub none_spec : {M : Type 1} → statement M
none_spec 𝓤 𝓛 𝓜 𝓡 wired =
    let H = 𝓛.H in let 𝓣 = tables 𝓤 H 𝓜 𝓡 𝓡.env in let c = f.clauses 𝓛 𝓜.mem 𝓡.returns in let fn = code.function in
    let hs : Stays f.ended.signature.params f.ended.kept = (stay_dropped (plain (λ _. Z)) yes, tt) in
    let W = walk_of 𝓛 f.ended hs c in
    proved 𝓛 f.ended hs c 𝓜 𝓡 (Goes-dropped 𝓛 0 (plain (λ _. Z)) yes (λ κs x w. refl), tt) f.Key.name fn (code.unfolded 𝓤 H 𝓜 𝓡 wired)
    (λ κs. ((λ _. heap_val ∷ []), tt)) (λ κs. (heap_Tells, tt)) (λ κs qs bounds a was are.
    let z : W.Ghost = ((κs, qs, bounds, a, (heap_val ∷ [], tt)), was) in let Post : Val → SProp 𝓤 = W.post z in
    let no_session : Option Session = None in
    let stored = ((heap_laws.the_row_laws.lawful 𝓛).typed a.0 _ are.0).0 in
    let made : Good (layout Hub) (three null_ptr false heap_val) = (tt, (record { fits = lit< tt }, (tt, (stored.1, tt)))) in
    qed 𝓛 ((‵ ftrue ⊛ ‵ (owns (types_at f.signature.params κs) a z.0.4)) ∷ raw ((c κs a).requires was) ∷ []) ∵ split ! $ move ! (1 ∷ []) $ fsplit ! $
    -- [the handle; nothing; no tokens; no requires]
    enter ! 𝓣.C 𝓣.Λ fn (heap_val ∷ []) Post $ alloc_all ! (λ l. pass_all ! refl (stored, tt) $
    sets ! (agg ! (and_then ! (lit ! tt) (and_then ! (false_lit !) (and_then ! (get ! refl) (no_more !))))) refl made $
    nothing ! $ move ! (0 ∷ 1 ∷ []) $
    hub_in ! null_ptr false heap_val a.0 None refl $
    use0 𝓛 (raw (fact 𝓤 (no_session ≡ None))) (fact_i 𝓤 (no_session ≡ None) (emp 𝓤) refl) $ nothing ! $ nothing ! $ fjoin ! $
    returns ! (look_at ! 0 refl) $ free_all ! refl $ keep ! (4 ∷ 0 ∷ 2 ∷ 1 ∷ []) $
    by ! (leaves 𝓛 f.ended hs c z (three null_ptr false heap_val)
    (record { at = null_ptr; is_open = false; alloc = a.0; session = None; held = refl }) (tt, tt) (tt, tt))))
