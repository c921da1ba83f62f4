-- Inner nodes seen as trees.
use Rattle.std.proofs.Common.{◌≡◌, ℕ, ◌+◌, ◌<◌, ◌≤◌, ◌^◌, ◌⊎◌, inl, inr, List, [], map, refl, sym, ap, subst, ◌∙◌, arith, Box, Global, Option, Some, None}
use Rattle.std.specs.Prelude.{SomeIff, IfSome, MatchOption, Result, Ok, Err, IfOk}
use Rattle.typst_base.specs.declared.kind.SyntaxKind.{SyntaxKind}
use Rattle.typst_node.specs.Tree.{AsInner, Forest, Tree, trees, forest, IsInner}
use Rattle.typst_node.specs.Labels.{number, bound, bound_of}
use Rattle.typst_node.specs.Plain.{plain, plain_label, plain_forest}
use Rattle.typst_node.specs.Interval.{IsWithin}
use Rattle.typst_node.specs.Numbered.{IsNumberedFor}
use Rattle.typst_node.specs.View.{tree_of, below, content, shown_warnings}
use Rattle.typst_node.specs.declared.node.InnerNode.{InnerNode}
use Rattle.typst_node.specs.declared.node.Node.TheVariants.{Inner}
use Rattle.typst_node.specs.declared.node.SyntaxNode.TheInside.{Inside}
use Rattle.std.specs.Box.{with_value}
use Rattle.std.specs.List.{splice}
use Rattle.typst_node.specs.PlainEdit.{edited}
use Rattle.typst_node.specs.Edit.{IsNumberedOrUnfiled}
use Rattle.typst_node.proofs.Plain.{forest_plain}
use Rattle.typst_node.proofs.Trees.{trees_of_forest, forest-trees}
use Rattle.typst_node.proofs.Ordered.{within_from_numbered, numbered_from_within}

module _ (a : Inside) (k : SyntaxKind) (n : ℕ) (b : Box InnerNode Global) (t : Tree) (is : a.node ≡ Inner k n b) (view : tree_of a ≡ t) where
  pub inner_forest : t.children ≡ forest b.value.children.items
  inner_forest = ap (λ (u : Tree). u.children) (sym view) ∙ ap (λ n. forest (below n)) is

  pub inner_kids : trees t.children ≡ b.value.children.items
  inner_kids = ap trees inner_forest ∙ trees_of_forest b.value.children.items

  pub inner_content : t.label.content ≡ AsInner k b.value.upper
  inner_content = ap (λ (u : Tree). u.label.content) (sym view) ∙ ap content is

  pub inner_bound : bound t.label ≡ b.value.upper
  inner_bound = ap (λ c. bound_of c (number t.label)) inner_content

  pub is_inner : IsInner t.label.content
  is_inner = subst IsInner (sym inner_content) tt

  pub inner_number : number t.label ≡ a.span.low
  inner_number = ap (λ (u : Tree). number u.label) (sym view)

  -- with other contents of the inner node, the label is the same
  pub inner_label : (new : InnerNode) → new.upper ≡ b.value.upper → new.extras.warnings ≡ b.value.extras.warnings → (tree_of record { node = Inner k n (with_value b new); span = a.span }).label ≡ t.label
  inner_label new upper warned =
      (λ i. record { span = a.span; warnings = shown_warnings (warned i); content = AsInner k (upper i) })
      ∙ (ap (λ n. (tree_of record { node = n; span = a.span }).label) (sym is) ∙ ap (λ (u : Tree). u.label) view)

  -- and the whole is the plain edit where the children are
  pub inner_edited : (new : InnerNode) (from to : ℕ) (others : List Tree) → new.upper ≡ b.value.upper → new.extras.warnings ≡ b.value.extras.warnings → map plain new.children.items ≡ map plain (splice b.value.children.items from to others)
      → plain (tree_of record { node = Inner k n (with_value b new); span = a.span }) ≡ plain (edited from to others t)
  inner_edited new from to others upper warned same =
      let kids : plain_forest (forest new.children.items) ≡ plain_forest (forest (splice (trees t.children) from to others)) =
      sym (forest_plain new.children.items) ∙ (ap forest same ∙ (forest_plain (splice b.value.children.items from to others) ∙ ap (λ (ts : List Tree). plain_forest (forest (splice ts from to others))) (sym inner_kids))) in
      λ i. record { label = plain_label (inner_label new upper warned i); children = kids i }

  pub inner_file : t.label.span.file ≡ a.span.file
  inner_file = ap (λ (u : Tree). u.label.span.file) (sym view)

-- the children of a numbered tree
pub below_within : (file : ℕ) (t : Tree) → IsNumberedFor file t → IsWithin file (number t.label + 1) (bound t.label) t.children
below_within file t n = (within_from_numbered file t n).2

pub file_within : (file : ℕ) (t : Tree) → IsNumberedFor file t → t.label.span.file ≡ file
file_within file t n = n.in_file.0.0

-- the whole is numbered where its children are
pub numbered_again : (file : ℕ) (t u : Tree) → IsNumberedFor file t → u.label ≡ t.label → IsWithin file (number t.label + 1) (bound t.label) u.children → IsNumberedFor file u
numbered_again file t u n same within =
    let w = within_from_numbered file t n in
    numbered_from_within file 2 (2 ^ 47) u (omega arith) (omega arith)
    (coe 1 0 (i. (same i).span.file ≡ file) w.0, coe 1 0 (i. 2 ≤ number (same i)) w.1, coe 1 0 (i. IsWithin file (number (same i) + 1) (bound (same i)) u.children) within, coe 1 0 (i. bound (same i) ≤ 2 ^ 47) w.3)

-- where there is a file id, the children are numbered
pub if_numbered : (o : Option ℕ) (t : Tree) (n up : ℕ) (f : Forest) → SomeIff o (0 < t.label.span.file) t.label.span.file → IsNumberedOrUnfiled [] t → number t.label ≡ n → bound t.label ≡ up → t.children ≡ f → IfSome o (λ file. IsWithin file (n + 1) up f)
if_numbered None t n up f some h n_is up_is f_is = tt
if_numbered (Some file) t n up f some (inl none) n_is up_is f_is = absurd (omega (arith, some.0))
if_numbered (Some file) t n up f some (inr h) n_is up_is f_is =
    let at : h.0 ≡ file = sym (file_within h.0 t h.2) ∙ sym some.1 in
    coe 0 1 (i. IsWithin (at i) (n_is i + 1) (up_is i) (f_is i)) (below_within h.0 t h.2)

pub numbered_after : (o : Option ℕ) (t u : Tree) (n up : ℕ) → SomeIff o (0 < t.label.span.file) t.label.span.file → IsNumberedOrUnfiled [] t → number t.label ≡ n → bound t.label ≡ up → u.label ≡ t.label → MatchOption o ⊥ (λ file. IsWithin file (n + 1) up u.children) → IsNumberedFor t.label.span.file u
numbered_after None t u n up some h n_is up_is same within = absurd within
numbered_after (Some file) t u n up some (inl none) n_is up_is same within = absurd (omega (arith, some.0))
numbered_after (Some file) t u n up some (inr h) n_is up_is same within =
    let at : h.0 ≡ t.label.span.file = sym (file_within h.0 t h.2) in
    numbered_again t.label.span.file t u (subst (λ f. IsNumberedFor f t) at h.2) same
    (coe 1 0 (i. IsWithin t.label.span.file (n_is i + 1) (up_is i) u.children) (subst (λ f. IsWithin f (n + 1) up u.children) some.1 within))

pub none_file : (o : Option ℕ) (f : ℕ) → SomeIff o (0 < f) f → o ≡ None → f ≡ 0
none_file None f some e = omega (arith, some)
none_file (Some x) f some e = cc

pub file_none : (o : Option ℕ) (f : ℕ) → SomeIff o (0 < f) f → f ≡ 0 → o ≡ None
file_none None f some e = refl
file_none (Some x) f some e = absurd (omega (arith, some.0))

pub or_left : (P Q R : Type 0) → (P → Q) → P ⊎ R → Q ⊎ R
or_left P Q R f (inl p) = inl (f p)
or_left P Q R f (inr r) = inr r

-- what follows from a fact of an Ok
pub IfOk_map : {T E : Type 0} (r : Result T E) {P Q : T → Type 0} → IfOk r P → ((x : T) → P x → Q x) → IfOk r Q
IfOk_map (Ok x) h f = f x h
IfOk_map (Err e) h f = tt

pub whole_frame : (t u : Tree) → u.label ≡ t.label → u ≡ record { label = t.label; children = forest (trees u.children) }
whole_frame t u e = λ i. record { label = e i; children = sym (forest-trees u.children) i }
