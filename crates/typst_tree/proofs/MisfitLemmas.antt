-- Edits that fit no inner node, one step of a path at a time.
use Rattle.std.proofs.Common.{◌≡◌, ◌∙◌, ℕ, suc, ◌+◌, ◌<◌, List, ◌∷◌, length, get_or, Some, ap, sym, subst, arith}
use Rattle.std.specs.Prelude.{slice_get}
use Rattle.std.proofs.lemmas.Option.{slice_get_within, get_or_from_slice_get}
use Rattle.typst_node.specs.Tree.{Tree, trees}
use Rattle.typst_node.specs.Paths.{no_tree}
use Rattle.typst_node.specs.PlainEdit.{FitsInner}
use Rattle.typst_node.proofs.EditStep.{fits_cons}
use Rattle.typst_tree.specs.Edits.{IsMisfitBelow}
use Rattle.typst_tree.specs.declared.edit.EditError.{EditError}
use Rattle.typst_tree.specs.declared.edit.EditError.TheVariants.{NoNode, Leaf, Range, Refused}

there : (d s t : ℕ) → d ≡ (t + 1) + s → d ≡ t + suc s
there d s t e = omega (arith, e)

misfit_cons : (above i : ℕ) (rest : List ℕ) (from to : ℕ) (t : Tree) (e : EditError) → i < length (trees t.children) → IsMisfitBelow (above + 1) rest from to (get_or (trees t.children) i no_tree) e → IsMisfitBelow above (i ∷ rest) from to t e
misfit_cons above i rest from to t (NoNode depth index children) l h =
    (suc h.0, there depth h.0 above h.1, record { leads = (l, h.2.leads); next = h.2.next; count = h.2.count; lacks = h.2.lacks })
misfit_cons above i rest from to t Leaf l h = ((l, h.0), h.1)
misfit_cons above i rest from to t (Range start end children) l h = ((l, h.0), h.1, h.2, h.3, h.4, h.5)
misfit_cons above i rest from to t (Refused e) l h = h

-- no edit fits a child that fits no node below it
pub misfit_child : (path : List ℕ) (i : ℕ) (rest : List ℕ) (from to : ℕ) (t c : Tree) (kids : List Tree) → path ≡ i ∷ rest → kids ≡ trees t.children → slice_get kids i ≡ Some c → ¬ (FitsInner path from to t) → ¬ (FitsInner rest from to c)
misfit_child path i rest from to t c kids is hk s misfits fits =
    let l = slice_get_within kids i c s in
    misfits ((fits_cons path i rest from to t kids is (sym hk) l).1 (subst (λ (u : Tree). FitsInner rest from to u) (sym (get_or_from_slice_get kids i c no_tree s)) fits))

-- why an edit fits nothing below a child is why it fits nothing below the node
pub misfit_above : (above : ℕ) (path : List ℕ) (i : ℕ) (rest : List ℕ) (from to : ℕ) (t c : Tree) (kids : List Tree) (e : EditError) → path ≡ i ∷ rest → kids ≡ trees t.children → slice_get kids i ≡ Some c
    → IsMisfitBelow (above + 1) rest from to c e → IsMisfitBelow above path from to t e
misfit_above above path i rest from to t c kids e is hk s h =
    let l : i < length (trees t.children) = subst (λ (ks : List Tree). i < length ks) hk (slice_get_within kids i c s) in
    let same : c ≡ get_or (trees t.children) i no_tree = sym (get_or_from_slice_get kids i c no_tree s) ∙ ap (λ (ks : List Tree). get_or ks i no_tree) hk in
    subst (λ (p : List ℕ). IsMisfitBelow above p from to t e) (sym is) (misfit_cons above i rest from to t e l (subst (λ (u : Tree). IsMisfitBelow (above + 1) rest from to u e) same h))
