-- Views that are the same: both have the same kind, and the same tree, spans and bounds included, or no tree.
-- The lemmas stand here since the laws of a trait cite them.
use Rattle.std.specs.Prelude.{◌≡◌, ◌↔◌, ◌++◌, ◌&&◌, Bool, true, false, Option, Some, None, refl}
use Rattle.std.specs.Bool.{Decides}
use Rattle.std.specs.Cmp.{IsEquivalence, IsPartialEquivalence, both_ways, decided, on_equiv, partial_equiv_from_equiv}
use Rattle.std.specs.Hash as fed
use Rattle.std.specs.Hash.{HashWrites}
use Rattle.std.specs.Option.{option_eq}
use Rattle.std.proofs.Common.{ap, sym}
use Rattle.typst_atoms.specs.Kinds.{is_kind}
use Rattle.typst_base.specs.KindNumber.{number_of}
use Rattle.typst_base.specs.contracts.kind.SyntaxKind.{the_type}
use Rattle.typst_base.specs.declared.kind.SyntaxKind.{SyntaxKind}
use Rattle.typst_node.specs.Equal.{tree_eq, tree_eq_same, tree_same}
use Rattle.typst_node.specs.Hashed.{tree_input}
use Rattle.typst_node.specs.Tree.{Tree}
use denote.Enum.Bare.{same_true, true_same}

-- whether two nodes that may be missing are the same
abbrev pub same_trees : Option Tree → Option Tree → Bool
same_trees = option_eq tree_eq

-- whether two kinds, and two nodes that may be missing, are the same
abbrev pub same_parts : SyntaxKind → Option Tree → SyntaxKind → Option Tree → Bool
same_parts j a k b = is_kind k j && same_trees a b

-- the input to the hash of a node that may be missing
abbrev pub node_input : Option Tree → HashWrites
node_input None = fed.u8 0
node_input (Some t) = fed.u8 1 ++ tree_input t

-- the input to the hash of a kind, and of a node that may be missing
abbrev pub parts_input : SyntaxKind → Option Tree → HashWrites
parts_input k a = fed.u8 (number_of k) ++ node_input a

same_node : (a b : Option Tree) → option_eq tree_eq a b ≡ true → a ≡ b
same_node None None e = refl
same_node None (Some u) e = cc
same_node (Some t) None e = cc
same_node (Some t) (Some u) e = ap Some (tree_same t u e)

node_same : (a b : Option Tree) → a ≡ b → option_eq tree_eq a b ≡ true
node_same None None e = refl
node_same None (Some u) e = cc
node_same (Some t) None e = cc
node_same (Some t) (Some u) e = tree_eq_same t u (cc)

-- the test is true exactly if the nodes are equal, or both are missing
pub same_trees_are : (a b : Option Tree) → Decides (same_trees a b) (a ≡ b)
same_trees_are a b = (same_node a b, node_same a b)

both : (v w : Bool) → (v && w) ≡ true → (v ≡ true) × (w ≡ true)
both true w e = (refl, e)
both false w e = cc

-- the test is true exactly if the kinds and the nodes are equal
pub same_parts_are : (j k : SyntaxKind) (a b : Option Tree) → (same_parts j a k b ≡ true) ↔ ((j ≡ k) × (a ≡ b))
same_parts_are j k a b = (
  (λ e. let h = both (is_kind k j) (option_eq tree_eq a b) e in (same_true the_type tt j k h.0, same_node a b h.1)),
  (λ e. λ i. true_same the_type j k e.0 i && node_same a b e.1 i),
)

module _ {V : Type 0} (kind : V → SyntaxKind) (node : V → Option Tree) where
  -- whether two views are the same
  abbrev pub same_views : V → V → Bool
  same_views v w = same_parts (kind v) (node v) (kind w) (node w)

  -- the test is true exactly if the views have the same kind, and the same node or none
  pub same_views_are : (v w : V) → (same_views v w ≡ true) ↔ ((kind v ≡ kind w) × (node v ≡ node w))
  same_views_are v w = same_parts_are (kind v) (kind w) (node v) (node w)

  -- sameness of views is an equivalence, as `Eq` requires
  pub same_views_equivalence : IsEquivalence same_views
  same_views_equivalence = record {
    refl = λ v. (same_views_are v v).1 (refl, refl);
    symm = λ v w. both_ways (same_views v w) (same_views w v) (λ e. let h = (same_views_are v w).0 e in (same_views_are w v).1 (sym h.0, sym h.1)) (λ e. let h = (same_views_are w v).0 e in (same_views_are v w).1 (sym h.0, sym h.1));
    congr = λ v w x e. let h = (same_views_are v w).0 e in λ i. same_parts (h.0 i) (h.1 i) (kind x) (node x);
  }

  -- sameness of views is symmetric and transitive, as `PartialEq` requires
  pub same_views_laws : IsPartialEquivalence same_views
  same_views_laws = partial_equiv_from_equiv same_views_equivalence

  -- the input to the hash of a view; it is the same for views that are the same
  abbrev pub view_input : V → HashWrites
  view_input v = parts_input (kind v) (node v)

  -- views that are the same give a hasher the same input
  pub same_views_alike : (v w : V) → same_views v w ≡ true → view_input v ≡ view_input w
  same_views_alike v w e = let h = (same_views_are v w).0 e in λ i. parts_input (h.0 i) (h.1 i)

module _ {V : Type 0} (node : V → Option Tree) where
  -- whether two views of one kind are the same
  abbrev pub same_by_node : V → V → Bool
  same_by_node v w = same_trees (node v) (node w)

  -- sameness of views of one kind is an equivalence, as `Eq` requires
  pub same_by_node_equivalence : IsEquivalence same_by_node
  same_by_node_equivalence = on_equiv node (decided same_trees same_trees_are)

  -- sameness of views of one kind is symmetric and transitive, as `PartialEq` requires
  pub same_by_node_laws : IsPartialEquivalence same_by_node
  same_by_node_laws = partial_equiv_from_equiv same_by_node_equivalence

  -- the input to the hash of a view of one kind; it is the same for views that are the same
  abbrev pub by_node_input : V → HashWrites
  by_node_input v = node_input (node v)

  -- views of one kind that are the same give a hasher the same input
  pub same_by_node_alike : (v w : V) → same_by_node v w ≡ true → by_node_input v ≡ by_node_input w
  same_by_node_alike v w e = ap node_input ((same_trees_are (node v) (node w)).0 e)
