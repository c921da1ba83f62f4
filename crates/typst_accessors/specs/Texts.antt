-- The texts that accessors answer.
use Rattle.std.specs.Prelude.{ℕ, ◌≡◌, List, codes, Option}
use Rattle.typst_accessors.specs.declared.accessor.TextAccessor.{TextAccessor}
use Rattle.typst_accessors.specs.declared.accessor.TextAccessor.TheVariants.{LineCommentText, BlockCommentText, TextGet, RawLangGet, LinkGet, IdentGet, MathIdentGet, LabelGet, MathTextGet, FloatGet, NumericNumber, NumericUnit, RefTarget, UnaryOp, BinaryOp}
use Rattle.typst_ast.specs.Operators.{binary_operator_in, unary_operator_in}
use Rattle.typst_ast.specs.Refs.{ref_target}
use Rattle.typst_atoms.specs.BinaryOperators.{binary_text}
use Rattle.typst_atoms.specs.BlockComments.{IsBlockCommentText}
use Rattle.typst_atoms.specs.Kinds.{is_kind}
use Rattle.typst_atoms.specs.Labels.{label_name}
use Rattle.typst_atoms.specs.LineComments.{IsLineCommentText}
use Rattle.typst_atoms.specs.Numerics.{number_text, unit_text, IsUnitOf}
use Rattle.typst_atoms.specs.Texts.{text_in}
use Rattle.typst_atoms.specs.UnaryOperators.{unary_text}
use Rattle.typst_atoms.specs.declared.numeric.Unit.{Unit}
use Rattle.typst_atoms.specs.declared.numeric.Unit.TheVariants.{Pt, Mm, Cm, In, Rad, Deg, Em, Fr, Percent}
use Rattle.typst_base.specs.declared.kind.SyntaxKind.TheVariants as kinds
use Rattle.typst_node.specs.Children.{children_in, first_child}
use Rattle.typst_node.specs.Tree.{Tree}

-- the text of a unit
abbrev pub unit_name : Unit → List ℕ
unit_name Pt = codes "pt"
unit_name Mm = codes "mm"
unit_name Cm = codes "cm"
unit_name In = codes "in"
unit_name Rad = codes "rad"
unit_name Deg = codes "deg"
unit_name Em = codes "em"
unit_name Fr = codes "fr"
unit_name Percent = codes "%"

-- the text of the unit that a text has
abbrev pub IsUnitName : List ℕ → List ℕ → Type 0
IsUnitName written said = (unit : Unit) × IsUnitOf (unit_text written) unit × (said ≡ unit_name unit)

-- the text that an accessor answers of a node of its view
abbrev pub IsText : TextAccessor → Option Tree → List ℕ → Type 0
IsText LineCommentText node said = IsLineCommentText (text_in node) said
IsText BlockCommentText node said = IsBlockCommentText (text_in node) said
IsText TextGet node said = said ≡ text_in node
IsText RawLangGet node said = said ≡ text_in node
IsText LinkGet node said = said ≡ text_in node
IsText IdentGet node said = said ≡ text_in node
IsText MathIdentGet node said = said ≡ text_in node
IsText LabelGet node said = said ≡ label_name (text_in node)
IsText MathTextGet node said = said ≡ text_in node
IsText FloatGet node said = said ≡ text_in node
IsText NumericNumber node said = said ≡ number_text (text_in node)
IsText NumericUnit node said = IsUnitName (text_in node) said
IsText RefTarget node said = said ≡ ref_target (first_child (is_kind kinds.RefMarker) node)
IsText UnaryOp node said = said ≡ unary_text (unary_operator_in (children_in node))
IsText BinaryOp node said = said ≡ binary_text (binary_operator_in (children_in node))
