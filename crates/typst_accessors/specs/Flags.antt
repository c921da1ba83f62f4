-- The booleans that accessors answer.
use Rattle.std.specs.Prelude.{Bool, ◌≡◌, ◌↔◌, codes, Option, IsTrue}
use Rattle.typst_accessors.specs.declared.accessor.FlagAccessor.{FlagAccessor}
use Rattle.typst_accessors.specs.declared.accessor.FlagAccessor.TheVariants.{SmartQuoteDouble, MathTextIsNumber, BoolGet, MathWasDeparenthesized, EquationBlock, BinaryIsRight, ArgsTrailingComma}
use Rattle.typst_ast.specs.Equations.{is_block_equation, is_deparenthesized}
use Rattle.typst_ast.specs.Lists.{all_but_last, last_significant}
use Rattle.typst_ast.specs.Operators.{binary_operator_in}
use Rattle.typst_atoms.specs.BinaryOperators.{binary_precedence}
use Rattle.typst_atoms.specs.MathTexts.{begins_numeric}
use Rattle.typst_atoms.specs.Missing.{is_of_kind}
use Rattle.typst_atoms.specs.Texts.{text_in}
use Rattle.typst_base.specs.declared.kind.SyntaxKind.TheVariants as kinds
use Rattle.typst_node.specs.Children.{children_in}
use Rattle.typst_node.specs.Tree.{Tree}

-- the boolean that an accessor answers of a node of its view
abbrev pub IsFlag : FlagAccessor → Option Tree → Bool → Type 0
IsFlag SmartQuoteDouble node flag = IsTrue flag ↔ (text_in node ≡ codes "\"")
IsFlag MathTextIsNumber node flag = flag ≡ begins_numeric (text_in node)
IsFlag BoolGet node flag = IsTrue flag ↔ (text_in node ≡ codes "true")
IsFlag MathWasDeparenthesized node flag = flag ≡ is_deparenthesized (children_in node)
IsFlag EquationBlock node flag = flag ≡ is_block_equation (children_in node)
IsFlag BinaryIsRight node flag = IsTrue flag ↔ (binary_precedence (binary_operator_in (children_in node)) ≡ 1)
IsFlag ArgsTrailingComma node flag = flag ≡ is_of_kind kinds.Comma (last_significant (all_but_last (children_in node)))
