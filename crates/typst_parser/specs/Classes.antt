-- The classes of tokens, and why some are errors.
use Rattle.std.specs.Prelude.{Option, Some, None}
use Rattle.typst_parser.specs.declared.fault.Fault.{Fault}
use Rattle.typst_parser.specs.declared.fault.Fault.TheVariants as faults
use Rattle.typst_grammar.specs.declared.rows.Class.{Class}
use Rattle.typst_grammar.specs.declared.rows.Class.TheVariants as classes
use Rattle.typst_lexer.specs.declared.token.TokenKind.{TokenKind}
use Rattle.typst_lexer.specs.declared.token.TokenKind.TheVariants as tokens

-- the class of a token by its kind
abbrev pub class_of : TokenKind → Class
class_of tokens.Space = classes.Text
class_of tokens.Parbreak = classes.Text
class_of tokens.LineComment = classes.Text
class_of tokens.BlockComment = classes.Text
class_of tokens.Shebang = classes.Text
class_of tokens.Raw = classes.Raw
class_of tokens.Escape = classes.Escape
class_of tokens.Linebreak = classes.Linebreak
class_of tokens.Label = classes.Label
class_of tokens.Link = classes.Text
class_of tokens.Ref = classes.RefMarker
class_of tokens.RefMarker = classes.RefMarker
class_of tokens.Shorthand = classes.Text
class_of tokens.SmartQuote = classes.Text
class_of tokens.HeadingMarker = classes.HeadingMarker
class_of tokens.ListMarker = classes.ListMarker
class_of tokens.EnumMarker = classes.EnumMarker
class_of tokens.TermMarker = classes.TermMarker
class_of tokens.Text = classes.Text
class_of tokens.Star = classes.Star
class_of tokens.Underscore = classes.Underscore
class_of tokens.Hash = classes.Hash
class_of tokens.Dollar = classes.Dollar
class_of tokens.LeftBrace = classes.LeftBrace
class_of tokens.RightBrace = classes.RightBrace
class_of tokens.LeftBracket = classes.LeftBracket
class_of tokens.RightBracket = classes.RightBracket
class_of tokens.LeftParen = classes.LeftParen
class_of tokens.RightParen = classes.RightParen
class_of tokens.Comma = classes.Comma
class_of tokens.Semicolon = classes.Semicolon
class_of tokens.Colon = classes.Colon
class_of tokens.Dot = classes.Dot
class_of tokens.Field = classes.Field
class_of tokens.Dots = classes.Dots
class_of tokens.Plus = classes.Sign
class_of tokens.Minus = classes.Sign
class_of tokens.Slash = classes.Slash
class_of tokens.Eq = classes.Eq
class_of tokens.EqEq = classes.Comparison
class_of tokens.ExclEq = classes.Comparison
class_of tokens.Lt = classes.Comparison
class_of tokens.LtEq = classes.Comparison
class_of tokens.Gt = classes.Comparison
class_of tokens.GtEq = classes.Comparison
class_of tokens.PlusEq = classes.Assignment
class_of tokens.HyphEq = classes.Assignment
class_of tokens.StarEq = classes.Assignment
class_of tokens.SlashEq = classes.Assignment
class_of tokens.Arrow = classes.Arrow
class_of tokens.Not = classes.Not
class_of tokens.And = classes.And
class_of tokens.Or = classes.Or
class_of tokens.None = classes.Constant
class_of tokens.Auto = classes.Constant
class_of tokens.Let = classes.Let
class_of tokens.Set = classes.Set
class_of tokens.Show = classes.Show
class_of tokens.Context = classes.Context
class_of tokens.If = classes.If
class_of tokens.Else = classes.Else
class_of tokens.For = classes.For
class_of tokens.In = classes.In
class_of tokens.While = classes.While
class_of tokens.Break = classes.Break
class_of tokens.Continue = classes.Continue
class_of tokens.Return = classes.Return
class_of tokens.Import = classes.Import
class_of tokens.Include = classes.Include
class_of tokens.As = classes.As
class_of tokens.Ident = classes.Ident
class_of tokens.Bool = classes.Literal
class_of tokens.Int = classes.Literal
class_of tokens.Float = classes.Literal
class_of tokens.Numeric = classes.Literal
class_of tokens.Str = classes.Str
class_of tokens.Other = classes.Other
class_of tokens.MathText = classes.MathText
class_of tokens.MathLetter = classes.MathLetter
class_of tokens.MathIdent = classes.MathIdent
class_of tokens.MathShorthand = classes.MathText
class_of tokens.OpeningShorthand = classes.Opening
class_of tokens.ClosingShorthand = classes.Closing
class_of tokens.Opening = classes.Opening
class_of tokens.Closing = classes.Closing
class_of tokens.MathPrimes = classes.MathPrimes
class_of tokens.MathAlignPoint = classes.MathText
class_of tokens.Hat = classes.Hat
class_of tokens.Bang = classes.Bang
class_of tokens.Root = classes.Root
class_of tokens.ArgumentName = classes.ArgumentName
class_of tokens.ArgumentBlank = classes.ArgumentBlank
class_of tokens.UnexpectedCommentEnd = classes.Error
class_of tokens.UnclosedRaw = classes.Error
class_of tokens.UnclosedEscape = classes.Error
class_of tokens.InvalidEscape = classes.Error
class_of tokens.UnbalancedLink = classes.Error
class_of tokens.UnclosedLabel = classes.Error
class_of tokens.UnclosedStr = classes.Error
class_of tokens.InvalidBinary = classes.Error
class_of tokens.InvalidOctal = classes.Error
class_of tokens.InvalidHexadecimal = classes.Error
class_of tokens.SuffixedBinary = classes.Error
class_of tokens.SuffixedOctal = classes.Error
class_of tokens.SuffixedHexadecimal = classes.Error
class_of tokens.InvalidFloat = classes.Error
class_of tokens.InvalidSuffix = classes.Error
class_of tokens.InvalidCharacter = classes.Error

-- why a token is an error, if it is one
abbrev pub fault_of : TokenKind → Option Fault
fault_of tokens.UnexpectedCommentEnd = Some faults.CommentEnd
fault_of tokens.UnclosedRaw = Some faults.UnclosedRaw
fault_of tokens.UnclosedEscape = Some faults.UnclosedEscape
fault_of tokens.InvalidEscape = Some faults.InvalidEscape
fault_of tokens.UnbalancedLink = Some faults.UnbalancedLink
fault_of tokens.UnclosedLabel = Some faults.UnclosedLabel
fault_of tokens.UnclosedStr = Some faults.UnclosedStr
fault_of tokens.InvalidBinary = Some faults.InvalidBinary
fault_of tokens.InvalidOctal = Some faults.InvalidOctal
fault_of tokens.InvalidHexadecimal = Some faults.InvalidHexadecimal
fault_of tokens.SuffixedBinary = Some faults.SuffixedBinary
fault_of tokens.SuffixedOctal = Some faults.SuffixedOctal
fault_of tokens.SuffixedHexadecimal = Some faults.SuffixedHexadecimal
fault_of tokens.InvalidFloat = Some faults.InvalidFloat
fault_of tokens.InvalidSuffix = Some faults.InvalidSuffix
fault_of tokens.InvalidCharacter = Some faults.InvalidCharacter
fault_of _ = None
