-- The machine values of a `HubC`. Assumes `Logic`.
use Rattle.std.proofs.Common.{◌≡◌, ℕ, List, [], ◌∷◌, ◌++◌, refl, subst, Bool, true, false, Option, None, Some}
use seplogic.Ra.Ura.{Ura}
use mir.Raw.{raw as bare}
use mir.Val.{Val, vstruct, of_list}
use base.Logic.{never, fst∗}
use types.Logic.{Logic, sem}
use types.Kit.{Item, Goal, Seq, Step, step, ‵, ◌$◌, move, drop, fsplit, fjoin, fpick, fpack, feq_i, feq_l}
use denote.RattleType.{RattleType, Valss}
use denote.Builtin.{RawPtr, bool}
use denote.Plain.{bool_vals}
use denote.Memory.{lone}
use denote.RawPtr.{Ptr, block_ptr, null_ptr, ptr_val, in_a_block}
use denote.Steps.{nothing}
use denote.Param.{layout}
use denote.Struct.Struct.{within}
use denote.Struct.Owning.{shape}
use Rattle.core.proofs.alloc.Calls.{Al, handle_tells}
use Rattle.core.proofs.cell.Inside.{Good}
use Rattle.std_alloc.specs.Box.Ownership.{box_owns}
use Rattle.std_heap.specs.declared.Global.{Global}
use Rattle.std_heap.specs.contracts.Global as heap
use Rattle.std_heap.proofs.Global.TheLaws as heap_laws
use Rattle.std_heap.specs.contracts.GlobalAllocator.TheImpl.{ghosts}
use mir.Syntax.{impl, tnil, dnil}
use Rattle.hub_session.specs.declared.session.Session.{Session}
use Rattle.hub_session.specs.contracts.session.Session as session
use Rattle.hub_session.specs.declared.hold.HubC.{HubC}
use Rattle.hub_session.specs.contracts.hold.HubC as hubc
use Rattle.hub_session.specs.Held.{owned, is_held}

abbrev pub Z : RattleType
Z = heap.the_row

abbrev pub R : RattleType
R = session.the_row

abbrev pub Hub : RattleType
Hub = hubc.the_row

abbrev pub three : Ptr → Bool → Val → Val
three p y h = vstruct (of_list (ptr_val p ∷ (bool_vals y ++ (h ∷ []))))

abbrev al : Al
al = record { row = Z; laws = heap_laws.the_row_laws; g = ghosts; d = impl [] tnil dnil; drops = impl [] tnil dnil }

module _ {M : Type 1} {𝓤 : Ura M} {𝓛 : Logic 𝓤} {K : Type 0} {Γ : List (Item 𝓤)} {G : Goal 𝓤 𝓛.H} where
  pub hub_out : K → (d : HubC) (vs : List Val)
      → ((h : Val) → vs ≡ three d.at d.is_open h ∷ [] → Good (layout Z) h → Seq K 𝓛 (‵ (owned d.at d.alloc d.session) ∷ ‵ (Z.own_val d.alloc (h ∷ [])) ∷ Γ) G)
      → Seq K 𝓛 (‵ (Hub.own_val d vs) ∷ Γ) G
  hub_out t d vs k =
      fsplit t $ fpick t (λ vss. fsplit t $ feq_l t (λ ev. fsplit t $ feq_l t (λ ep. fsplit t $ feq_l t (λ eb. fsplit t $
      handle_tells al t d.alloc vss.1.1.0 (λ h ea fits. move t (1 ∷ []) $ drop t $ move t (1 ∷ []) $
      k h
      (subst (λ (bs : List Val). vs ≡ vstruct (of_list (ptr_val d.at ∷ (bs ++ (h ∷ [])))) ∷ []) eb
      (subst (λ (ws : List Val). vs ≡ vstruct (of_list (ptr_val d.at ∷ (vss.1.0 ++ (ws ++ [])))) ∷ []) ea (subst (λ (ps : List Val). vs ≡ vstruct
      (of_list (ps ++ (vss.1.0 ++ (vss.1.1.0 ++ [])))) ∷ []) ep ev))) fits)))))

  pub hub_in : K → (p : Ptr) (y : Bool) (h : Val) (a : Global) (s : Option Session) (is : y ≡ is_held s)
      → Step K 𝓛 (‵ (Hub.own_val (record { at = p; is_open = y; alloc = a; session = s; held = is }) (three p y h ∷ [])) ∷ Γ) G (‵ (owned p a s) ∷ ‵
      (Z.own_val a (h ∷ [])) ∷ Γ) G
  hub_in t p y h a s is = step (λ rest. let v : Val = three p y h in
      nothing t $ move t (2 ∷ 0 ∷ []) $ fjoin t $ feq_i t (List Val) (bool_vals y) (bool_vals y) refl $ fjoin t $
      feq_i t (List Val) (ptr_val p ∷ []) (ptr_val p ∷ []) refl $ fjoin t $ feq_i t (List Val) (v ∷ []) (v ∷ []) refl $ fjoin t $
      fpack t (Valss (RawPtr ∷ bool ∷ Z ∷ [])) (within (shape hubc.the_type) (p, (y, (((tt, tt), tt), tt))) (v ∷ [])) (
        ptr_val p ∷ [],
        (
          bool_vals y,
          (h ∷ [], tt),
        ),
      ) $ fjoin t $ rest)

  -- by whether there is a session
  cases_at : K → (p : Ptr) (y : Bool) (a : Global) (o : Option Session) (vs : List Val) (h : Val) → y ≡ is_held o → vs ≡ three p y h ∷ []
      → (o ≡ None → vs ≡ three p false h ∷ [] → Seq K 𝓛 (‵ (Z.own_val a (h ∷ [])) ∷ Γ) G)
      → ((b at : ℕ) (s : Session) → o ≡ Some s → vs ≡ three (block_ptr b at) true h ∷ [] → Seq K 𝓛 (‵ (box_owns (ghosts.dealloc_token a) R
      (block_ptr b at) s) ∷ ‵ (Z.own_val a (h ∷ [])) ∷ Γ) G)
      → Seq K 𝓛 (‵ (owned p a o) ∷ ‵ (Z.own_val a (h ∷ [])) ∷ Γ) G
  cases_at t p y a None vs h is ws none some = drop t $ none refl (subst (λ (x : Bool). vs ≡ three p x h ∷ []) is ws)
  cases_at t p y a (Some s) vs h is ws none some =
      in_a_block t p (λ q. box_owns (ghosts.dealloc_token a) R q s) (fst∗ 𝓤 (never 𝓤) (sem 𝓛 (ghosts.dealloc_token a (bare (lone R.mir)) null_ptr))) (λ b at e.
      some b at s refl (subst (λ (q : Ptr). vs ≡ three q true h ∷ []) e (subst (λ (x : Bool). vs ≡ three p x h ∷ []) is ws)))

  pub hub_cases : K → (d : HubC) (vs : List Val)
      → ((h : Val) → d.session ≡ None → vs ≡ three d.at false h ∷ [] → Good (layout Z) h → Seq K 𝓛 (‵ (Z.own_val d.alloc (h ∷ [])) ∷ Γ) G)
      → ((b o : ℕ) (h : Val) (s : Session) → d.session ≡ Some s → vs ≡ three (block_ptr b o) true h ∷ [] → Good (layout Z) h
      → Seq K 𝓛 (‵ (box_owns (ghosts.dealloc_token d.alloc) R (block_ptr b o) s) ∷ ‵ (Z.own_val d.alloc (h ∷ [])) ∷ Γ) G)
      → Seq K 𝓛 (‵ (Hub.own_val d vs) ∷ Γ) G
  hub_cases t d vs none some = hub_out t d vs (λ h ws fits. cases_at t d.at d.is_open d.alloc d.session vs h d.held ws (λ e us. none h e us fits)
      (λ b o s e us. some b o h s e us fits))
