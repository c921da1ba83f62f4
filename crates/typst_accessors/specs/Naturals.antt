-- The natural numbers that accessors answer.
use Rattle.std.specs.Prelude.{ℕ, ◌≡◌, length, Option, Some}
use Rattle.typst_accessors.specs.declared.accessor.NaturalAccessor.{NaturalAccessor}
use Rattle.typst_accessors.specs.declared.accessor.NaturalAccessor.TheVariants.{MathPrimesCount, HeadingDepth, EnumItemNumber, MathRootIndex, UnaryPrecedence, BinaryPrecedence}
use Rattle.typst_ast.specs.EnumNumbers.{IsFirstNumber}
use Rattle.typst_ast.specs.Headings.{heading_depth}
use Rattle.typst_ast.specs.Operators.{binary_operator_in, unary_operator_in}
use Rattle.typst_ast.specs.Roots.{IsRootIndex}
use Rattle.typst_atoms.specs.BinaryOperators.{binary_precedence}
use Rattle.typst_atoms.specs.Kinds.{is_kind}
use Rattle.typst_atoms.specs.Texts.{text_in}
use Rattle.typst_atoms.specs.UnaryOperators.{unary_precedence}
use Rattle.typst_base.specs.declared.kind.SyntaxKind.TheVariants as kinds
use Rattle.typst_node.specs.Children.{all_children, children_in, first_child, first_of}
use Rattle.typst_node.specs.Tree.{Tree}

-- the number that an accessor answers of a node of its view, if it answers one
abbrev pub IsNatural : NaturalAccessor → Option Tree → Option ℕ → Type 0
IsNatural MathPrimesCount node number = number ≡ Some (length (text_in node))
IsNatural HeadingDepth node number = number ≡ Some (heading_depth (first_child (is_kind kinds.HeadingMarker) node))
IsNatural EnumItemNumber node number = IsFirstNumber (all_children (is_kind kinds.EnumMarker) node) number
IsNatural MathRootIndex node number = IsRootIndex (text_in (first_of (children_in node))) number
IsNatural UnaryPrecedence node number = number ≡ Some (unary_precedence (unary_operator_in (children_in node)))
IsNatural BinaryPrecedence node number = number ≡ Some (binary_precedence (binary_operator_in (children_in node)))
