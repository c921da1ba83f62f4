-- `lend` follows the pointer, and what lies there goes with the reference.
use Rattle.std.proofs.Common.{◌≡◌, ℕ, List, [], ◌∷◌, refl, sym, ap, ◌∙◌}
use seplogic.Ra.Ura.{Ura}
use mir.Raw.{raw as bare}
use mir.Syntax.{named}
use mir.Val.{Val, vptr}
use base.Fraction.{full_share}
use base.Logic.{SProp, ent, sep, never, fst∗}
use base.Fml.{Lft, Share, GName, Fml, ftrue, fsep, flft}
use prog.Memory.{Memory}
use prog.Routine.{Routine}
use prog.Wp.{Env, Calls, Loops, WpFn}
use types.Logic.{Logic, sem}
use types.Kit.{‵, raw, ◌⊛◌, some, later, at_ret, ◌$◌, ◌∵◌, !, qed, by, move, drop, split, join, keep, frame, fsplit, fsplit3, fjoin, fpack, pick, suffices, use1, await, group, rewrite, done}
use types.Part.{whole, sub, look_in}
use types.Run.{stop, fld, load, of_opd, first, blocks, exec, returns, enter, addr}
use types.ByLocal.{alloc_all, pass_all, free_all, look_at, get, through, sets, sets_last, env}
use contract.Monad.{Fun, fact}
use contract.Running.{tables}
use denote.Exit.{no}
use denote.Builtin.{RefMutOf}
use denote.Follow.{follows, Part, lends_Part}
use denote.Memory.{part_at, part_of, lone, mem, cell_at}
use denote.RattleType.{RattleType, owns}
use denote.RawPtr.{Ptr, block_ptr, null_ptr, ptr_val, in_a_block}
use denote.Ref.{MutRef, mut_vals, mut_Tells}
use denote.Signature.{plain}
use denote.Steps.{nothing, heard, opens}
use denote.Triple.Clauses.{Clauses}
use denote.Triple.Walked.{says, Stays, stay_dropped, walk_of, ends_at, Goes-spent_ref}
use Rattle.std.specs.Prelude.{Some, IsSome}
use Rattle.std.specs.Box.Ownership.{box_owns}
use Rattle.std.proofs.alloc.Shapes.{after}
use Rattle.std.proofs.raw_atomic.Walks.{proved}
use Rattle.typst_c.specs.declared.at.At.{At}
use Rattle.typst_c.specs.Lending.{with_session}
use Rattle.typst_c.specs.Owned.{freeable}
use Rattle.typst_c.proofs.AtValues.{X, one, at_out, at_in, some_out}
use Rattle.typst_c.specs.contracts.at.At as at
use Rattle.typst_session.specs.contracts.session.Session as state
use Rattle.typst_c.specs.contracts.at.At.lend as f
use Rattle.typst_c.specs.contracts.at.At.lend.Key.{name as #self}
use Rattle.typst_c.proofs.at.At.lend.Statement.{statement}
use Rattle.typst_c.proofs.at.At.lend.Code as code

abbrev A : RattleType
A = at.the_row

abbrev S : RattleType
S = state.the_row

abbrev stayed : Stays f.ended.signature.params f.ended.kept
stayed = (stay_dropped (RefMutOf (0 ∷ []) tt (plain (λ _. A)) (λ _. tt)) no, tt)

module _ {M : Type 1} {𝓤 : Ura M} (𝓛 : Logic 𝓤) (m : Memory → SProp 𝓤) (run : Routine → Fun 𝓤) (κ : Lft) (q : Share) (rb ro : ℕ) (γ : GName) (h : At) where
  open 𝓛 use {H, A as atoms}

  abbrev c : Clauses 𝓤 f.ended
  c = f.clauses 𝓛 m run

  abbrev bound : (walk_of 𝓛 f.ended stayed c).Ghost
  bound = (((κ, tt), (q, tt), tt, (record { ref_ptr = (rb, ro); ghost_name = γ; now = h }, tt), (vptr rb ro ∷ [], tt)), tt)

  abbrev Post : Val → SProp 𝓤
  Post = (walk_of 𝓛 f.ended stayed c).post bound

  module _ (b o : ℕ) where
    -- all of the `At` but the session
    abbrev Rest : Fml
    Rest = fsep (freeable (bare (lone S.mir)) (block_ptr b o)) (cell_at full_share A.mir (one (vptr b o) ∷ []) rb ro)

    back : h.at ≡ block_ptr b o → (w : X) → ent 𝓤 (sep 𝓤 (sem 𝓛 ((mem S).own_at w b o)) (sem 𝓛 Rest)) (sem 𝓛 ((mem A).own_at (with_session h w) rb ro))
    unfolding part_of
    back e w =
        qed 𝓛 (‵ (part_at S full_share w b o) ∷ ‵ Rest ∷ []) ∵ move ! (1 ∷ []) $ fsplit ! $ move ! (2 ∷ 0 ∷ []) $ fjoin ! $
        at_in ! (block_ptr b o) (Some w) $ rewrite ! 0 (λ (p : Ptr). ‵ (A.own_val (record { at = p; value = Some w }) (one (vptr b o) ∷ []))) (sym e) refl $
        move ! (1 ∷ 0 ∷ []) $ fjoin ! $ fpack ! (List Val) (λ us. fsep (cell_at full_share A.mir us rb ro) (A.own_val (with_session h w) us)) (one (vptr b o) ∷ []) $ done !

    exits : (x : X) → h.value ≡ Some x → (δ : GName)
        → ent 𝓤 (sep 𝓤 (sem 𝓛 ((MutRef (named 0) κ S).own_val (record { ref_ptr = (b, o); ghost_name = δ; now = x }) (vptr b o ∷ []))) (sep 𝓤 (atoms.lft κ q) (sem 𝓛 (follows A S γ δ (with_session h))))) (Post (vptr b o))
    exits x ex δ =
        qed 𝓛 (‵ ((MutRef (named 0) κ S).own_val (record { ref_ptr = (b, o); ghost_name = δ; now = x }) (vptr b o ∷ [])) ∷ ‵ (flft κ q) ∷ ‵ (follows A S γ δ (with_session h)) ∷ []) ∵
        suffices ! _ (ends_at 𝓛 f.ended stayed c bound (vptr b o) (record { ref_ptr = (b, o); ghost_name = δ; now = x }) (tt, tt) (tt, tt)) $
        nothing ! $ nothing ! $ fjoin ! $ join ! $ nothing ! $ move ! (2 ∷ 0 ∷ []) $ join ! $ join ! $ frame ! $ says ! ex $ done !

  module _ (C : Calls 𝓤 H) (Λ : Loops 𝓤 H) where
    walk : ent 𝓤 ((walk_of 𝓛 f.ended stayed c).pre bound) (WpFn 𝓤 H C Λ code.function (vptr rb ro ∷ []) Post)
    walk =
        qed 𝓛 (((‵ (flft κ q) ⊛ ‵ ftrue) ⊛ ‵ (owns (MutRef (named 0) κ A ∷ []) (record { ref_ptr = (rb, ro); ghost_name = γ; now = h }, tt) (vptr rb ro ∷ [], tt))) ∷ raw (fact 𝓤 (IsSome h.value)) ∷ []) ∵
        move ! (1 ∷ []) $ heard ! (IsSome h.value) (λ is. split ! $
        enter ! C Λ code.function (vptr rb ro ∷ []) _ $
        alloc_all ! (λ l. pass_all ! refl ((tt, tt), tt) $
        let En : Env 𝓤 H = env code.function.locals l in
        move ! (1 ∷ []) $ fsplit ! $ fsplit3 ! $ drop ! $ move ! (3 ∷ []) $ split ! $ move ! (2 ∷ 3 ∷ 0 ∷ []) $
        opens ! tt A {h = h} rb ro (λ vs. move ! (1 ∷ []) $ at_out ! h vs (λ es. some_out ! h.at h.value is (λ x ex.
        in_a_block ! h.at (λ p. box_owns freeable S p x) (fst∗ 𝓤 (never 𝓤) (sem 𝓛 (freeable (bare (lone S.mir)) null_ptr))) (λ b o e. fsplit ! $
        move ! (2 ∷ []) $ rewrite ! 0 (λ (us : List Val). ‵ (cell_at full_share A.mir us rb ro)) (es ∙ ap (λ (p : Ptr). one (ptr_val p) ∷ []) e) refl $
        first ! $ blocks ! $
        sets ! (of_opd ! (load ! (through ! refl (fld ! refl (stop !))) (look_in ! 0 (sub ! 0 refl (whole !))))) refl (tt, tt) $
        sets ! (of_opd ! (get ! refl)) refl (tt, tt) $
        sets_last ! (addr ! (through ! refl (stop !))) refl (tt, tt) $
        exec ! C Λ En (after 1 code.function.body) (at_ret En Post) $
        sets ! (of_opd ! (get ! refl)) refl (tt, tt) $
        move ! (2 ∷ 0 ∷ []) $ fjoin ! $ move ! (2 ∷ 3 ∷ 4 ∷ 1 ∷ 0 ∷ []) $ group ! 5 $
        use1 𝓛 (later (some (λ (δ : GName). raw (Part 𝓛 A S (with_session h) (named 0) κ q rb ro b o γ (sem 𝓛 (Rest b o)) (back b o e) x δ))))
        (lends_Part 𝓛 A S (with_session h) (named 0) κ q rb ro b o γ (sem 𝓛 (Rest b o)) (back b o e) (A.coded.code h) (A.coded.code h) x) $ await ! tt $ pick ! (λ δ.
        returns ! (look_at ! 0 refl) $ free_all ! refl $
        keep ! (0 ∷ []) $ by ! (exits b o x ex δ))))))))

pub lend_spec : {M : Type 1} → statement M
lend_spec 𝓤 𝓛 𝓜 𝓡 wired =
    let 𝓣 = tables 𝓤 𝓛.H 𝓜 𝓡 𝓡.env in
    proved 𝓛 f.ended stayed (f.clauses 𝓛 𝓜.mem 𝓡.returns) 𝓜 𝓡 (Goes-spent_ref 𝓛 1 (0 ∷ []) tt (plain (λ _. A)), tt) #self code.function (code.unfolded 𝓤 𝓛.H 𝓜 𝓡 wired)
    (λ κs. (mut_vals, tt)) (λ κs. (mut_Tells (named 0) κs.0 A, tt))
    (λ κs qs bounds a g are. walk 𝓛 𝓜.mem 𝓡.returns κs.0 qs.0 a.0.ref_ptr.0 a.0.ref_ptr.1 a.0.ghost_name a.0.now 𝓣.C 𝓣.Λ)
