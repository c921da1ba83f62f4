-- Written by bench/accessors.py from crates/accessors.txt: change that and run it.
-- The numbers of accessors, and the kinds of the nodes that have them.
use Rattle.std.specs.Prelude.{ℕ}
use Rattle.typst_accessors.specs.declared.accessor.Accessor.{Accessor}
use Rattle.typst_accessors.specs.declared.accessor.Accessor.TheVariants.{Flag, Natural, Integer, Character, Text, String, Node, Nodes}
use Rattle.typst_accessors.specs.declared.accessor.FlagAccessor.{FlagAccessor}
use Rattle.typst_accessors.specs.declared.accessor.FlagAccessor.TheVariants.{SmartQuoteDouble, MathTextIsNumber, BoolGet, MathWasDeparenthesized, EquationBlock, BinaryIsRight, ArgsTrailingComma}
use Rattle.typst_accessors.specs.declared.accessor.NaturalAccessor.{NaturalAccessor}
use Rattle.typst_accessors.specs.declared.accessor.NaturalAccessor.TheVariants.{MathPrimesCount, HeadingDepth, EnumItemNumber, MathRootIndex, UnaryPrecedence, BinaryPrecedence}
use Rattle.typst_accessors.specs.declared.accessor.IntegerAccessor.{IntegerAccessor}
use Rattle.typst_accessors.specs.declared.accessor.IntegerAccessor.TheVariants.{IntGet}
use Rattle.typst_accessors.specs.declared.accessor.CharacterAccessor.{CharacterAccessor}
use Rattle.typst_accessors.specs.declared.accessor.CharacterAccessor.TheVariants.{EscapeGet, ShorthandGet, MathShorthandGet}
use Rattle.typst_accessors.specs.declared.accessor.TextAccessor.{TextAccessor}
use Rattle.typst_accessors.specs.declared.accessor.TextAccessor.TheVariants.{LineCommentText, BlockCommentText, TextGet, RawLangGet, LinkGet, IdentGet, MathIdentGet, LabelGet, MathTextGet, FloatGet, NumericNumber, NumericUnit, RefTarget, UnaryOp, BinaryOp}
use Rattle.typst_accessors.specs.declared.accessor.StringAccessor.{StringAccessor}
use Rattle.typst_accessors.specs.declared.accessor.StringAccessor.TheVariants.{StrGet}
use Rattle.typst_accessors.specs.NodeAccessors.{node_number, node_view, nodes_number, nodes_view}
use Rattle.typst_base.specs.declared.kind.SyntaxKind.{SyntaxKind}
use Rattle.typst_base.specs.declared.kind.SyntaxKind.TheVariants as kinds

-- those of each form
abbrev pub flag_number : FlagAccessor → ℕ
flag_number SmartQuoteDouble = 10
flag_number MathTextIsNumber = 13
flag_number BoolGet = 15
flag_number MathWasDeparenthesized = 21
flag_number EquationBlock = 25
flag_number BinaryIsRight = 31
flag_number ArgsTrailingComma = 32

abbrev pub flag_view : FlagAccessor → SyntaxKind
flag_view SmartQuoteDouble = kinds.SmartQuote
flag_view MathTextIsNumber = kinds.MathText
flag_view BoolGet = kinds.Bool
flag_view MathWasDeparenthesized = kinds.Math
flag_view EquationBlock = kinds.Equation
flag_view BinaryIsRight = kinds.Binary
flag_view ArgsTrailingComma = kinds.Args

abbrev pub natural_number : NaturalAccessor → ℕ
natural_number MathPrimesCount = 14
natural_number HeadingDepth = 22
natural_number EnumItemNumber = 23
natural_number MathRootIndex = 26
natural_number UnaryPrecedence = 28
natural_number BinaryPrecedence = 30

abbrev pub natural_view : NaturalAccessor → SyntaxKind
natural_view MathPrimesCount = kinds.MathPrimes
natural_view HeadingDepth = kinds.Heading
natural_view EnumItemNumber = kinds.EnumItem
natural_view MathRootIndex = kinds.MathRoot
natural_view UnaryPrecedence = kinds.Unary
natural_view BinaryPrecedence = kinds.Binary

abbrev pub integer_number : IntegerAccessor → ℕ
integer_number IntGet = 16

abbrev pub integer_view : IntegerAccessor → SyntaxKind
integer_view IntGet = kinds.Int

abbrev pub character_number : CharacterAccessor → ℕ
character_number EscapeGet = 7
character_number ShorthandGet = 8
character_number MathShorthandGet = 9

abbrev pub character_view : CharacterAccessor → SyntaxKind
character_view EscapeGet = kinds.Escape
character_view ShorthandGet = kinds.Shorthand
character_view MathShorthandGet = kinds.MathShorthand

abbrev pub text_number : TextAccessor → ℕ
text_number LineCommentText = 0
text_number BlockCommentText = 1
text_number TextGet = 2
text_number RawLangGet = 3
text_number LinkGet = 4
text_number IdentGet = 5
text_number MathIdentGet = 6
text_number LabelGet = 11
text_number MathTextGet = 12
text_number FloatGet = 17
text_number NumericNumber = 18
text_number NumericUnit = 19
text_number RefTarget = 24
text_number UnaryOp = 27
text_number BinaryOp = 29

abbrev pub text_view : TextAccessor → SyntaxKind
text_view LineCommentText = kinds.LineComment
text_view BlockCommentText = kinds.BlockComment
text_view TextGet = kinds.Text
text_view RawLangGet = kinds.RawLang
text_view LinkGet = kinds.Link
text_view IdentGet = kinds.Ident
text_view MathIdentGet = kinds.MathIdent
text_view LabelGet = kinds.Label
text_view MathTextGet = kinds.MathText
text_view FloatGet = kinds.Float
text_view NumericNumber = kinds.Numeric
text_view NumericUnit = kinds.Numeric
text_view RefTarget = kinds.Ref
text_view UnaryOp = kinds.Unary
text_view BinaryOp = kinds.Binary

abbrev pub string_number : StringAccessor → ℕ
string_number StrGet = 20

abbrev pub string_view : StringAccessor → SyntaxKind
string_view StrGet = kinds.Str

-- the number of an accessor
abbrev pub accessor_number : Accessor → ℕ
accessor_number (Flag accessor) = flag_number accessor
accessor_number (Natural accessor) = natural_number accessor
accessor_number (Integer accessor) = integer_number accessor
accessor_number (Character accessor) = character_number accessor
accessor_number (Text accessor) = text_number accessor
accessor_number (String accessor) = string_number accessor
accessor_number (Node accessor) = node_number accessor
accessor_number (Nodes accessor) = nodes_number accessor

-- the kind of the nodes that have an accessor
abbrev pub accessor_view : Accessor → SyntaxKind
accessor_view (Flag accessor) = flag_view accessor
accessor_view (Natural accessor) = natural_view accessor
accessor_view (Integer accessor) = integer_view accessor
accessor_view (Character accessor) = character_view accessor
accessor_view (Text accessor) = text_view accessor
accessor_view (String accessor) = string_view accessor
accessor_view (Node accessor) = node_view accessor
accessor_view (Nodes accessor) = nodes_view accessor
