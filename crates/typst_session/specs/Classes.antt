-- The children of a node that are of a class.
use Rattle.std.specs.Prelude.{ℕ, ◌≡◌, ◌+◌, ◌≤◌, Bool, true, false, not, List, take, drop, IsSomeAnd, IsTrue, Result, Ok, Err}
use Rattle.std.specs.List.{count_by, slice_get}
use Rattle.typst_atoms.specs.Classes.{is_arg_kind, is_pattern_kind}
use Rattle.typst_atoms.specs.ExprKinds.{is_expr_kind}
use Rattle.typst_atoms.specs.Kinds.{is_kind}
use Rattle.typst_base.specs.KindClasses.{is_trivia_kind}
use Rattle.typst_base.specs.KindNumber.{number_of}
use Rattle.typst_base.specs.declared.kind.SyntaxKind.{SyntaxKind}
use Rattle.typst_node.specs.Tree.{Tree, trees, kind_of}
use Rattle.typst_session.specs.Reading.{IsNoNode, OfNode}
use Rattle.typst_session.specs.declared.classes.NodeClass.{NodeClass}
use Rattle.typst_session.specs.declared.classes.NodeClass.TheVariants.{Of, Expr, Pattern, Arg, Solid}
use Rattle.typst_session.specs.declared.session.Session.{Session}
use Rattle.typst_session.specs.declared.refusal.Refusal.{Refusal}
use Rattle.typst_session.specs.declared.refusal.Refusal.TheVariants.{Kind, NotFound}

-- a class's number is the number of its kind, or a number above those of all kinds
abbrev pub class_number : NodeClass → ℕ
class_number (Of kind) = number_of kind
class_number Expr = 256
class_number Pattern = 257
class_number Arg = 258
class_number Solid = 259

-- whether nodes of a kind are of a class
abbrev pub is_in_class : NodeClass → SyntaxKind → Bool
is_in_class (Of own) kind = is_kind own kind
is_in_class Expr kind = is_expr_kind kind
is_in_class Pattern kind = is_pattern_kind kind
is_in_class Arg kind = is_arg_kind kind
is_in_class Solid kind = not (is_trivia_kind kind)

-- whether a node is of a class
abbrev pub is_of : NodeClass → Tree → Bool
is_of class t = is_in_class class (kind_of t.label.content)

-- no class has the number
abbrev pub IsNoClass : ℕ → Refusal → Type 0
IsNoClass number refusal = (refusal ≡ Kind) × ((class : NodeClass) → ¬ (class_number class ≡ number))

-- a node of the class is at an index
abbrev pub IsOfClass : NodeClass → List Tree → ℕ → Type 0
IsOfClass class nodes at = IsSomeAnd (slice_get nodes at) (λ t. IsTrue (is_of class t))

-- the nodes on one side of an index: those before it, or those after it
abbrev pub beside : Bool → ℕ → List Tree → List Tree
beside false at nodes = take at nodes
beside true at nodes = drop (at + 1) nodes

-- a node of the class is at an index, with this many others of the class on one side of it
pub record IsPicked (class : NodeClass) (index : ℕ) (from_end : Bool) (nodes : List Tree) (at : ℕ) : Type 0 where
  pub there : IsOfClass class nodes at
  pub others : count_by (is_of class) (beside from_end at nodes) ≡ index

-- the child of a class that a call asks for is at an index, or why there is none
abbrev pub PicksChild : List ℕ → ℕ → ℕ → Bool → Session → Result ℕ Refusal → Type 0
PicksChild path number index from_end s (Ok at) =
    (class : NodeClass) × (class_number class ≡ number) × OfNode (λ t. IsPicked class index from_end (trees t.children) at) path s
PicksChild path number index from_end s (Err Kind) = IsNoClass number Kind
PicksChild path number index from_end s (Err NotFound) =
    (class : NodeClass) × (class_number class ≡ number) × OfNode (λ t. count_by (is_of class) (trees t.children) ≤ index) path s
PicksChild path number index from_end s (Err refusal) = IsNoNode path s refusal
