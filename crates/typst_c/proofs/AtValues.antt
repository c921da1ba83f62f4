-- The machine value of an `At`. Assumes `Logic`.
use Rattle.std.proofs.Common.{◌≡◌, List, [], ◌∷◌, ◌++◌, refl, sym, subst}
use lib.Dec.{T}
use seplogic.Ra.Ura.{Ura}
use mir.Val.{Val, vstruct, vcons, vnil, of_list}
use types.Logic.{Logic}
use types.Kit.{Item, Goal, Seq, Step, step, ‵, ◌$◌, drop, fsplit, fjoin, fpick, fpack, feq_i, feq_l}
use denote.RattleType.{Valss}
use denote.Builtin.{RawPtr}
use denote.RawPtr.{Ptr, ptr_val}
use denote.Steps.{nothing}
use denote.Struct.Struct.{within}
use denote.Struct.Owning.{shape}
use Rattle.std.specs.Prelude.{Option, Some, None, IsSome}
use Rattle.std.specs.Box.Ownership.{box_owns}
use Rattle.typst_c.specs.contracts.at.At as at
use Rattle.typst_session.specs.contracts.session.Session as state
use Rattle.typst_c.specs.declared.at.At.{At}
use Rattle.typst_c.specs.Owned.{owned_at, freeable}

abbrev pub one : Val → Val
one v = vstruct (vcons v vnil)

abbrev pub X : Type 0
X = (state.the_row).Denot

module _ {M : Type 1} {𝓤 : Ura M} {𝓛 : Logic 𝓤} {K : Type 0} {Γ : List (Item 𝓤)} {G : Goal 𝓤 𝓛.H} where
  -- what an `At` owns, and the one word that it is
  pub at_out : K → (d : At) (vs : List Val)
      → (vs ≡ one (ptr_val d.at) ∷ [] → Seq K 𝓛 (‵ (owned_at state.the_row d.at d.value) ∷ Γ) G)
      → Seq K 𝓛 (‵ ((at.the_row).own_val d vs) ∷ Γ) G
  at_out t d vs k =
      fsplit t $ fpick t (λ vss. fsplit t $ feq_l t (λ ev. fsplit t $ feq_l t (λ ep. drop t $
      k (subst (λ (ps : List Val). vs ≡ vstruct (of_list (ps ++ [])) ∷ []) ep ev))))

  pub at_in : K → (p : Ptr) (x : Option X)
      → Step K 𝓛 (‵ ((at.the_row).own_val (record { at = p; value = x }) (one (ptr_val p) ∷ [])) ∷ Γ) G (‵ (owned_at state.the_row p x) ∷ Γ) G
  at_in t p x = step (λ s. let v : Val = one (ptr_val p) in
      nothing t $ feq_i t (List Val) (ptr_val p ∷ []) (ptr_val p ∷ []) refl $ fjoin t $ feq_i t (List Val) (v ∷ []) (v ∷ []) refl $ fjoin t $
      fpack t (Valss (RawPtr ∷ [])) (within (shape at.the_type) (p, tt) (v ∷ [])) (ptr_val p ∷ [], tt) $ fjoin t $ s)

  -- when there is something
  pub some_out : K → (p : Ptr) (x : Option X) → IsSome x
      → ((y : X) → x ≡ Some y → Seq K 𝓛 (‵ (box_owns freeable state.the_row p y) ∷ Γ) G) → Seq K 𝓛 (‵ (owned_at state.the_row p x) ∷ Γ) G
  some_out t p None is k = absurd (subst T (sym is) tt)
  some_out t p (Some y) is k = k y refl
