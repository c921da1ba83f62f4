-- What is measured does not turn on labels, apart from texts, errors and whether there are warnings.
use Rattle.std.proofs.Common.{◌≡◌, ◌%◌, ◌^◌, ℕ, suc, ◌+◌, ◌||◌, List, [], ◌∷◌, ◌++◌, length, map, refl, sym, ap, subst, ◌∙◌}
use Rattle.std.specs.List.{list_any}
use Rattle.std.proofs.lemmas.List.{map-append}
use Rattle.typst_node.specs.Tree.{Label, Forest, none, tree, Tree, forest}
use Rattle.typst_node.specs.Preorder.{preorder}
use Rattle.typst_node.specs.Text.{own_text, joined, text, text_of_all}
use Rattle.typst_node.specs.Count.{count_of_all}
use Rattle.typst_node.specs.Diagnosis.{is_error, is_warned, any_has_error, any_has_warning}
use Rattle.typst_node.specs.View.{IsMeasured}
use Rattle.typst_node.specs.ChildEnds.{ends_from, AreEnds}
use Rattle.typst_node.proofs.Trees.{ends_alike}
use Rattle.typst_node.specs.declared.node.InnerNode.{InnerNode}

abbrev pub relabelled_forest : (Label → Label) → Forest → Forest
relabelled_forest change none = none
relabelled_forest change (tree l c r) = tree (change l) (relabelled_forest change c) (relabelled_forest change r)

-- the tree with each node's label changed
abbrev pub relabelled : (Label → Label) → Tree → Tree
relabelled change t = record { label = change t.label; children = relabelled_forest change t.children }

-- a change that keeps what is measured of a label
pub record KeepsMeasures (change : Label → Label) : Type 0 where
  pub texts : (l : Label) → own_text (change l) ≡ own_text l
  pub errors : (l : Label) → is_error (change l) ≡ is_error l
  pub warned : (l : Label) → is_warned (change l) ≡ is_warned l

module _ (change : Label → Label) where
  pub preorder_relabelled : (f : Forest) → preorder (relabelled_forest change f) ≡ map change (preorder f)
  preorder_relabelled none = refl
  preorder_relabelled (tree l c r) = ap (λ ls. change l ∷ ls) ((λ i. preorder_relabelled c i ++ preorder_relabelled r i) ∙ sym (map-append change (preorder c) (preorder r)))

  pub forest_relabelled : (ts : List Tree) → forest (map (relabelled change) ts) ≡ relabelled_forest change (forest ts)
  forest_relabelled [] = refl
  forest_relabelled (t ∷ ts) = ap (λ f. tree (change t.label) (relabelled_forest change t.children) f) (forest_relabelled ts)

  nodes_relabelled : (ts : List Tree) → preorder (forest (map (relabelled change) ts)) ≡ map change (preorder (forest ts))
  nodes_relabelled ts = ap preorder (forest_relabelled ts) ∙ preorder_relabelled (forest ts)

  length_changed : (ls : List Label) → length (map change ls) ≡ length ls
  length_changed [] = refl
  length_changed (l ∷ ls) = ap suc (length_changed ls)

module _ (change : Label → Label) (keeps : KeepsMeasures change) where
  joined_changed : (ls : List Label) → joined (map change ls) ≡ joined ls
  joined_changed [] = refl
  joined_changed (l ∷ ls) = λ i. keeps.texts l i ++ joined_changed ls i

  any_error_changed : (ls : List Label) → list_any is_error (map change ls) ≡ list_any is_error ls
  any_error_changed [] = refl
  any_error_changed (l ∷ ls) = λ i. keeps.errors l i || any_error_changed ls i

  any_warned_changed : (ls : List Label) → list_any is_warned (map change ls) ≡ list_any is_warned ls
  any_warned_changed [] = refl
  any_warned_changed (l ∷ ls) = λ i. keeps.warned l i || any_warned_changed ls i

  pub text_relabelled : (t : Tree) → text (relabelled change t) ≡ text t
  text_relabelled t = (λ i. keeps.texts t.label i ++ joined (preorder_relabelled change t.children i)) ∙ ap (λ s. own_text t.label ++ s) (joined_changed (preorder t.children))

  ends_relabelled : (at : ℕ) (ts : List Tree) → ends_from at (map (relabelled change) ts) ≡ ends_from at ts
  ends_relabelled at [] = refl
  ends_relabelled at (t ∷ ts) = ap (λ s. ((at + length s) % 2 ^ 32) ∷ ends_from (at + length s) (map (relabelled change) ts)) (text_relabelled t) ∙ ap (λ es. ((at + length (text t)) % 2 ^ 32) ∷ es) (ends_relabelled (at + length (text t)) ts)

  -- what is measured is the same of lists whose trees are the same once relabelled
  module _ (ts us : List Tree) (same : map (relabelled change) ts ≡ map (relabelled change) us) where
    same_nodes : map change (preorder (forest ts)) ≡ map change (preorder (forest us))
    same_nodes = sym (nodes_relabelled change ts) ∙ ap (λ vs. preorder (forest vs)) same ∙ nodes_relabelled change us

    pub same_text : text_of_all ts ≡ text_of_all us
    same_text = sym (joined_changed (preorder (forest ts))) ∙ ap joined same_nodes ∙ joined_changed (preorder (forest us))

    pub same_count : count_of_all ts ≡ count_of_all us
    same_count = sym (length_changed change (preorder (forest ts))) ∙ ap length same_nodes ∙ length_changed change (preorder (forest us))

    same_errors : any_has_error ts ≡ any_has_error us
    same_errors = sym (any_error_changed (preorder (forest ts))) ∙ ap (list_any is_error) same_nodes ∙ any_error_changed (preorder (forest us))

    same_warnings : any_has_warning ts ≡ any_has_warning us
    same_warnings = sym (any_warned_changed (preorder (forest ts))) ∙ ap (list_any is_warned) same_nodes ∙ any_warned_changed (preorder (forest us))

    same_ends : (at : ℕ) → ends_from at ts ≡ ends_from at us
    same_ends at = sym (ends_relabelled at ts) ∙ ap (ends_from at) same ∙ ends_relabelled at us

    -- an inner node whose children change in their labels
    pub measured_by_relabelled : (old new : InnerNode) → old.children.items ≡ us → new.children.items ≡ ts → new.descendants ≡ old.descendants → new.extras.diagnosis ≡ old.extras.diagnosis → new.extras.ends ≡ old.extras.ends
        → IsMeasured old → IsMeasured new
    measured_by_relabelled old new were are descendants diagnosis ends m = record {
      descendants = descendants ∙ m.descendants ∙ ap (λ vs. suc (count_of_all vs)) were ∙ ap suc (sym same_count) ∙ ap (λ vs. suc (count_of_all vs)) (sym are);
      errors = ap (λ d. d.errors) diagnosis ∙ m.errors ∙ ap any_has_error were ∙ sym same_errors ∙ ap any_has_error (sym are);
      warnings = ap (λ d. d.warnings) diagnosis ∙ m.warnings ∙ ap any_has_warning were ∙ sym same_warnings ∙ ap any_has_warning (sym are);
      ends = subst (AreEnds new.extras.ends) (sym are) (ends_alike new.extras.ends us ts (sym (same_ends 0)) (subst (λ es. AreEnds es us) (sym ends) (subst (AreEnds old.extras.ends) were m.ends)));
    }
