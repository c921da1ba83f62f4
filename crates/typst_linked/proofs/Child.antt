-- A child stands one step below its parent.
use Rattle.std.proofs.Common.{◌≡◌, ℕ, ◌+◌, length, take, List, [], Some, None, Option, arith, refl, sym, ap, ◌∙◌, subst}
use Rattle.std.specs.Prelude.{slice_get}
use Rattle.std.specs.declared.rc.Rc.{Rc}
use Rattle.std.specs.declared.alloc.Global.{Global}
use Rattle.typst_node.specs.Tree.{Content, AsLeaf, AsError, AsInner, Tree, trees, IsInner}
use Rattle.typst_node.specs.Text.{content_text, own_text, text, text_of_all}
use Rattle.typst_linked.specs.Place.{Place, child_place}
use Rattle.typst_linked.specs.Linked.{IsAt, place_below}
use Rattle.typst_linked.specs.Part.{HasNoOwnText}
use Rattle.typst_linked.proofs.Nearest.{parent_tree-child}
use Rattle.typst_node.proofs.PathSteps.{at-push, pushed}
use Rattle.typst_node.proofs.Offsets.{offset-push, length-text, text_of_all-more, text_of_all-take}

-- a node that has children has no text of its own
pub no_own_text : (t c : Tree) (i : ℕ) (kids : List Tree) → kids ≡ trees t.children → (¬ (IsInner t.label.content) → kids ≡ []) → slice_get (trees t.children) i ≡ Some c → length (own_text t.label) ≡ 0
no_own_text t c i kids e none s = no_text t.label.content (λ out. let k : None ≡ Some c = ap (λ (ks : List Tree). slice_get ks i) (sym (none out) ∙ e) ∙ s in cc)
  where
    no_text : (content : Content) → ¬ (¬ (IsInner content)) → length (content_text content) ≡ 0
    no_text (AsLeaf kind text) h = absurd (h (λ x. x))
    no_text (AsError text message hints) h = absurd (h (λ x. x))
    no_text (AsInner kind bound) h = refl

pub child_is_at : (p : Place) (n c : Tree) (o at i : ℕ) (kids : List Tree) → IsAt p n o → slice_get (trees n.children) i ≡ Some c → kids ≡ trees n.children → (¬ (IsInner n.label.content) → kids ≡ []) →
    at ≡ o + length (text_of_all (take i (trees n.children))) → IsAt (child_place p i) c at
child_is_at p n c o at i kids own s same inner e =
    let no_text = no_own_text n c i kids same inner s in
    record {
      node_is = at-push p.path i p.root n c own.node_is s;
      offset_is = omega (arith, e, own.offset_is, offset-push p.path i p.root n c own.node_is s);
      bare = λ t h. let is : Some n ≡ Some t = sym own.node_is ∙ sym (parent_tree-child p i) ∙ h in let same_tree : n ≡ t = cc in
          subst (λ (u : Tree). HasNoOwnText u) same_tree (λ j u there. no_own_text n u j kids same inner there);
      within = omega (arith, e, own.within, length-text n, text_of_all-more (trees n.children) i c s, text_of_all-take (trees n.children) (i + 1));
      fits = own.fits;
      counted = own.counted;
    }

pub at_place : (p q : Place) (n : Tree) (o : ℕ) → p ≡ q → IsAt p n o → IsAt q n o
at_place p q n o e at = subst (λ (r : Place). IsAt r n o) e at

-- a node with a parent
pub place_with : (node : Tree) (i : ℕ) (o : Option (Rc Place Global)) (parent : Rc Place Global) → o ≡ Some parent → place_below node i o ≡ child_place parent.value i
place_with node i o parent e = ap (place_below node i) e

-- where the text of a child begins, from where both stand
pub begin_in : (p : Place) (n c : Tree) (o at i : ℕ) → IsAt p n o → IsAt (child_place p i) c at → at ≡ o + length (text_of_all (take i (trees n.children)))
begin_in p n c o at i own child =
    let s = pushed p.path i p.root n c own.node_is child.node_is in
    omega (arith, child.bare n (parent_tree-child p i ∙ own.node_is) i c s, own.offset_is, child.offset_is, offset-push p.path i p.root n c own.node_is s)

-- and where it ends
pub end_in : (p : Place) (n c : Tree) (o at i : ℕ) → IsAt p n o → IsAt (child_place p i) c at → at + length (text c) ≡ o + length (text_of_all (take (i + 1) (trees n.children)))
end_in p n c o at i own child =
    let s = pushed p.path i p.root n c own.node_is child.node_is in
    omega (arith, begin_in p n c o at i own child, text_of_all-more (trees n.children) i c s)
