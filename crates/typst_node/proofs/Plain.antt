-- What is measured does not turn on spans and bounds.
use Rattle.std.proofs.Common.{◌≡◌, ◌%◌, ◌^◌, ℕ, suc, ◌+◌, ◌||◌, List, [], ◌∷◌, ◌++◌, length, map, refl, sym, ap, subst, ◌∙◌}
use Rattle.std.specs.List.{list_any}
use Rattle.std.proofs.lemmas.List.{map-append}
use Rattle.typst_base.specs.declared.kind.SyntaxKind.{SyntaxKind}
use Rattle.typst_node.specs.Tree.{Content, AsLeaf, AsError, AsInner, Label, Forest, none, tree, Tree, forest}
use Rattle.typst_node.specs.Preorder.{preorder}
use Rattle.typst_node.specs.Text.{content_text, own_text, joined, text, text_of_all}
use Rattle.typst_node.specs.Count.{count, count_of_all}
use Rattle.typst_node.specs.Diagnosis.{is_error_content, is_error, is_warned, has_error, has_warning, any_has_error, any_has_warning}
use Rattle.typst_node.specs.Plain.{unbounded, plain_label, plain_forest, plain}
use Rattle.typst_node.specs.View.{IsMeasured, IsConsistent, tree_of, below, shown_warnings}
use Rattle.typst_node.specs.ChildEnds.{ends_from, AreEnds}
use Rattle.typst_node.proofs.Trees.{ends_alike}
use Rattle.typst_node.specs.declared.node.Node.TheVariants.{Inner}
use Rattle.typst_node.specs.declared.node.SyntaxNode.TheInside.{Inside}
use Rattle.typst_base.specs.Span.{SpanParts, detached}
use Rattle.std.proofs.Common.{Box, Global}
use Rattle.std.specs.Box.{with_value}
use Rattle.typst_node.specs.declared.node.InnerNode.{InnerNode}

pub text_unbounded : (c : Content) → content_text (unbounded c) ≡ content_text c
text_unbounded (AsLeaf kind text) = refl
text_unbounded (AsError text message hints) = refl
text_unbounded (AsInner kind bound) = refl

pub error_unbounded : (c : Content) → is_error_content (unbounded c) ≡ is_error_content c
error_unbounded (AsLeaf kind text) = refl
error_unbounded (AsError text message hints) = refl
error_unbounded (AsInner kind bound) = refl

length_plain : (ls : List Label) → length (map plain_label ls) ≡ length ls
length_plain [] = refl
length_plain (l ∷ ls) = ap suc (length_plain ls)

pub preorder_plain : (f : Forest) → preorder (plain_forest f) ≡ map plain_label (preorder f)
preorder_plain none = refl
preorder_plain (tree l c r) = ap (λ ls. plain_label l ∷ ls) ((λ i. preorder_plain c i ++ preorder_plain r i) ∙ sym (map-append plain_label (preorder c) (preorder r)))

pub forest_plain : (ts : List Tree) → forest (map plain ts) ≡ plain_forest (forest ts)
forest_plain [] = refl
forest_plain (t ∷ ts) = ap (λ f. tree (plain_label t.label) (plain_forest t.children) f) (forest_plain ts)

joined_plain : (ls : List Label) → joined (map plain_label ls) ≡ joined ls
joined_plain [] = refl
joined_plain (l ∷ ls) = λ i. text_unbounded l.content i ++ joined_plain ls i

any_error_plain : (ls : List Label) → list_any is_error (map plain_label ls) ≡ list_any is_error ls
any_error_plain [] = refl
any_error_plain (l ∷ ls) = λ i. error_unbounded l.content i || any_error_plain ls i

any_warned_plain : (ls : List Label) → list_any is_warned (map plain_label ls) ≡ list_any is_warned ls
any_warned_plain [] = refl
any_warned_plain (l ∷ ls) = ap (λ b. is_warned l || b) (any_warned_plain ls)

-- the nodes of the plain trees are the plain nodes of the trees
nodes_plain : (ts : List Tree) → preorder (forest (map plain ts)) ≡ map plain_label (preorder (forest ts))
nodes_plain ts = ap preorder (forest_plain ts) ∙ preorder_plain (forest ts)

pub text_plain : (t : Tree) → text (plain t) ≡ text t
text_plain t = (λ i. text_unbounded t.label.content i ++ joined (preorder_plain t.children i)) ∙ ap (λ s. own_text t.label ++ s) (joined_plain (preorder t.children))

pub count_plain : (t : Tree) → count (plain t) ≡ count t
count_plain t = ap suc (ap length (preorder_plain t.children) ∙ length_plain (preorder t.children))

pub has_error_plain : (t : Tree) → has_error (plain t) ≡ has_error t
has_error_plain t = (λ i. error_unbounded t.label.content i || list_any is_error (preorder_plain t.children i)) ∙ ap (λ b. is_error t.label || b) (any_error_plain (preorder t.children))

pub has_warning_plain : (t : Tree) → has_warning (plain t) ≡ has_warning t
has_warning_plain t = ap (λ b. is_warned t.label || b) (ap (list_any is_warned) (preorder_plain t.children) ∙ any_warned_plain (preorder t.children))

ends_plain : (at : ℕ) (ts : List Tree) → ends_from at (map plain ts) ≡ ends_from at ts
ends_plain at [] = refl
ends_plain at (t ∷ ts) = ap (λ s. ((at + length s) % 2 ^ 32) ∷ ends_from (at + length s) (map plain ts)) (text_plain t) ∙ ap (λ es. ((at + length (text t)) % 2 ^ 32) ∷ es) (ends_plain (at + length (text t)) ts)

-- what is measured is the same of lists that are the same without spans and bounds
module _ (ts us : List Tree) (same : map plain ts ≡ map plain us) where
  pub same_text_of_all : text_of_all ts ≡ text_of_all us
  same_text_of_all = sym (joined_plain (preorder (forest ts))) ∙ ap joined (sym (nodes_plain ts) ∙ ap (λ vs. preorder (forest vs)) same ∙ nodes_plain us) ∙ joined_plain (preorder (forest us))

  pub same_count_of_all : count_of_all ts ≡ count_of_all us
  same_count_of_all = sym (length_plain (preorder (forest ts))) ∙ ap length (sym (nodes_plain ts) ∙ ap (λ vs. preorder (forest vs)) same ∙ nodes_plain us) ∙ length_plain (preorder (forest us))

  same_errors : any_has_error ts ≡ any_has_error us
  same_errors = sym (any_error_plain (preorder (forest ts))) ∙ ap (list_any is_error) (sym (nodes_plain ts) ∙ ap (λ vs. preorder (forest vs)) same ∙ nodes_plain us) ∙ any_error_plain (preorder (forest us))

  same_warnings : any_has_warning ts ≡ any_has_warning us
  same_warnings = sym (any_warned_plain (preorder (forest ts))) ∙ ap (list_any is_warned) (sym (nodes_plain ts) ∙ ap (λ vs. preorder (forest vs)) same ∙ nodes_plain us) ∙ any_warned_plain (preorder (forest us))

  same_ends : (at : ℕ) → ends_from at ts ≡ ends_from at us
  same_ends at = sym (ends_plain at ts) ∙ ap (ends_from at) same ∙ ends_plain at us

  -- an inner node whose children change in spans and bounds alone
  pub measured_by_plain : (old new : InnerNode) → old.children.items ≡ us → new.children.items ≡ ts → new.descendants ≡ old.descendants → new.extras.diagnosis ≡ old.extras.diagnosis → new.extras.ends ≡ old.extras.ends
      → IsMeasured old → IsMeasured new
  measured_by_plain old new were are descendants diagnosis ends m = record {
    descendants = descendants ∙ m.descendants ∙ ap (λ vs. suc (count_of_all vs)) were ∙ ap suc (sym same_count_of_all) ∙ ap (λ vs. suc (count_of_all vs)) (sym are);
    errors = ap (λ d. d.errors) diagnosis ∙ m.errors ∙ ap any_has_error were ∙ sym same_errors ∙ ap any_has_error (sym are);
    warnings = ap (λ d. d.warnings) diagnosis ∙ m.warnings ∙ ap any_has_warning were ∙ sym same_warnings ∙ ap any_has_warning (sym are);
    ends = subst (AreEnds new.extras.ends) (sym are) (ends_alike new.extras.ends us ts (sym (same_ends 0)) (subst (λ es. AreEnds es us) (sym ends) (subst (AreEnds old.extras.ends) were m.ends)));
  }

-- an inner node, after a change of spans and bounds alone
pub same_plain_inner : (a : Inside) (k : SyntaxKind) (n : ℕ) (b : Box InnerNode Global) (t : Tree) (new : InnerNode) (s : SpanParts) → a.node ≡ Inner k n b → tree_of a ≡ t → new.extras.warnings ≡ b.value.extras.warnings → map plain new.children.items ≡ map plain b.value.children.items
    → plain (tree_of record { node = Inner k n (with_value b new); span = s }) ≡ plain t
same_plain_inner a k n b t new s is view warned same =
    (λ i. record { label = record { span = detached; warnings = shown_warnings (warned i); content = AsInner k 0 }; children = (sym (forest_plain new.children.items) ∙ ap forest same ∙ forest_plain b.value.children.items) i })
    ∙ sym (ap (λ n. plain (tree_of record { node = n; span = a.span })) is) ∙ ap plain view

-- how many nodes an inner node says that it has
pub inner_count : (a : Inside) (k : SyntaxKind) (n : ℕ) (b : Box InnerNode Global) (t : Tree) → a.node ≡ Inner k n b → IsConsistent a.node → tree_of a ≡ t → b.value.descendants ≡ count t
inner_count a k n b t is kept view =
    let measured : IsMeasured b.value = (subst IsConsistent is kept).1.1 in
    measured.descendants ∙ sym (ap (λ n. suc (count_of_all (below n))) is) ∙ ap count view
