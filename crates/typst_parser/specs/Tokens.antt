-- What tokens become.
use Rattle.std.specs.Prelude.{ℕ, List, [], ◌∷◌, length, Option, Some, None}
use Rattle.typst_base.specs.declared.kind.SyntaxKind.{SyntaxKind}
use Rattle.typst_base.specs.declared.kind.SyntaxKind.TheVariants as kinds
use Rattle.typst_parser.specs.Classes.{fault_of}
use Rattle.typst_parser.specs.Raw.{raw_events}
use Rattle.typst_parser.specs.declared.event.Event.{Event}
use Rattle.typst_parser.specs.declared.event.Event.TheVariants.{Error, Leaf}
use Rattle.typst_parser.specs.declared.fault.Fault.{Fault}
use Rattle.typst_parser.specs.declared.fault.Fault.TheVariants as faults
use Rattle.typst_grammar.specs.declared.expectation.Expectation.{Expectation}
use Rattle.typst_grammar.specs.declared.row.Take.{Take}
use Rattle.typst_grammar.specs.declared.row.Take.TheVariants as takes
use Rattle.typst_lexer.specs.declared.token.TokenKind.{TokenKind}
use Rattle.typst_lexer.specs.declared.token.TokenKind.TheVariants as tokens

-- the kind of a token's leaf, if the token is a leaf
abbrev pub leaf_kind : TokenKind → SyntaxKind
leaf_kind tokens.Space = kinds.Space
leaf_kind tokens.Parbreak = kinds.Parbreak
leaf_kind tokens.LineComment = kinds.LineComment
leaf_kind tokens.BlockComment = kinds.BlockComment
leaf_kind tokens.Shebang = kinds.Shebang
leaf_kind tokens.Raw = kinds.Raw
leaf_kind tokens.Escape = kinds.Escape
leaf_kind tokens.Linebreak = kinds.Linebreak
leaf_kind tokens.Label = kinds.Label
leaf_kind tokens.Link = kinds.Link
leaf_kind tokens.RefMarker = kinds.RefMarker
leaf_kind tokens.Shorthand = kinds.Shorthand
leaf_kind tokens.SmartQuote = kinds.SmartQuote
leaf_kind tokens.HeadingMarker = kinds.HeadingMarker
leaf_kind tokens.ListMarker = kinds.ListMarker
leaf_kind tokens.EnumMarker = kinds.EnumMarker
leaf_kind tokens.TermMarker = kinds.TermMarker
leaf_kind tokens.Star = kinds.Star
leaf_kind tokens.Underscore = kinds.Underscore
leaf_kind tokens.ArgumentBlank = kinds.Underscore
leaf_kind tokens.Hash = kinds.Hash
leaf_kind tokens.Dollar = kinds.Dollar
leaf_kind tokens.LeftBrace = kinds.LeftBrace
leaf_kind tokens.RightBrace = kinds.RightBrace
leaf_kind tokens.LeftBracket = kinds.LeftBracket
leaf_kind tokens.RightBracket = kinds.RightBracket
leaf_kind tokens.LeftParen = kinds.LeftParen
leaf_kind tokens.RightParen = kinds.RightParen
leaf_kind tokens.Comma = kinds.Comma
leaf_kind tokens.Semicolon = kinds.Semicolon
leaf_kind tokens.Colon = kinds.Colon
leaf_kind tokens.Dot = kinds.Dot
leaf_kind tokens.Field = kinds.Dot
leaf_kind tokens.Dots = kinds.Dots
leaf_kind tokens.Plus = kinds.Plus
leaf_kind tokens.Minus = kinds.Minus
leaf_kind tokens.Slash = kinds.Slash
leaf_kind tokens.Eq = kinds.Eq
leaf_kind tokens.EqEq = kinds.EqEq
leaf_kind tokens.ExclEq = kinds.ExclEq
leaf_kind tokens.Lt = kinds.Lt
leaf_kind tokens.LtEq = kinds.LtEq
leaf_kind tokens.Gt = kinds.Gt
leaf_kind tokens.GtEq = kinds.GtEq
leaf_kind tokens.PlusEq = kinds.PlusEq
leaf_kind tokens.HyphEq = kinds.HyphEq
leaf_kind tokens.StarEq = kinds.StarEq
leaf_kind tokens.SlashEq = kinds.SlashEq
leaf_kind tokens.Arrow = kinds.Arrow
leaf_kind tokens.Not = kinds.Not
leaf_kind tokens.And = kinds.And
leaf_kind tokens.Or = kinds.Or
leaf_kind tokens.None = kinds.None
leaf_kind tokens.Auto = kinds.Auto
leaf_kind tokens.Let = kinds.Let
leaf_kind tokens.Set = kinds.Set
leaf_kind tokens.Show = kinds.Show
leaf_kind tokens.Context = kinds.Context
leaf_kind tokens.If = kinds.If
leaf_kind tokens.Else = kinds.Else
leaf_kind tokens.For = kinds.For
leaf_kind tokens.In = kinds.In
leaf_kind tokens.While = kinds.While
leaf_kind tokens.Break = kinds.Break
leaf_kind tokens.Continue = kinds.Continue
leaf_kind tokens.Return = kinds.Return
leaf_kind tokens.Import = kinds.Import
leaf_kind tokens.Include = kinds.Include
leaf_kind tokens.As = kinds.As
leaf_kind tokens.Ident = kinds.Ident
leaf_kind tokens.ArgumentName = kinds.Ident
leaf_kind tokens.Bool = kinds.Bool
leaf_kind tokens.Int = kinds.Int
leaf_kind tokens.Float = kinds.Float
leaf_kind tokens.Numeric = kinds.Numeric
leaf_kind tokens.Str = kinds.Str
leaf_kind tokens.MathText = kinds.MathText
leaf_kind tokens.MathLetter = kinds.MathText
leaf_kind tokens.Opening = kinds.MathText
leaf_kind tokens.Closing = kinds.MathText
leaf_kind tokens.MathIdent = kinds.MathIdent
leaf_kind tokens.MathShorthand = kinds.MathShorthand
leaf_kind tokens.OpeningShorthand = kinds.MathShorthand
leaf_kind tokens.ClosingShorthand = kinds.MathShorthand
leaf_kind tokens.MathPrimes = kinds.MathPrimes
leaf_kind tokens.MathAlignPoint = kinds.MathAlignPoint
leaf_kind tokens.Hat = kinds.Hat
leaf_kind tokens.Bang = kinds.Bang
leaf_kind tokens.Root = kinds.Root
leaf_kind _ = kinds.Text

-- A token that is rejected by the lexer is an error of its own. Any other one is unexpected.
abbrev pub unexpected_by : Option Fault → SyntaxKind → Fault
unexpected_by None kind = faults.Unexpected kind
unexpected_by (Some fault) kind = fault

-- why a token of this kind is an error where it isn't expected
abbrev pub unexpected_of : TokenKind → Fault
unexpected_of kind = unexpected_by (fault_of kind) (leaf_kind kind)

-- the same where something else is expected
abbrev pub mistake_by : Option Fault → Expectation → SyntaxKind → Fault
mistake_by None what kind = faults.Mistake what kind
mistake_by (Some fault) what kind = fault

-- why a token of this kind is an error where something else is expected
abbrev pub mistake_of : Expectation → TokenKind → Fault
mistake_of what kind = mistake_by (fault_of kind) what (leaf_kind kind)

-- an error, or a leaf
abbrev pub plain_event : Option Fault → SyntaxKind → ℕ → Event
plain_event None leaf len = Leaf leaf len
plain_event (Some fault) leaf len = Error fault len

-- The events of a token: raw text has parts, an error is one, and any other token is a leaf of this kind.
abbrev pub events_as : SyntaxKind → TokenKind → List ℕ → List Event
events_as leaf tokens.Raw bs = raw_events bs
events_as leaf kind bs = plain_event (fault_of kind) leaf (length bs) ∷ []

-- the events of a token, as a row says that takes it
abbrev pub events_for : Take → TokenKind → List ℕ → List Event
events_for (takes.EatAs leaf) kind bs = events_as leaf kind bs
events_for takes.Unexpected kind bs = Error (unexpected_of kind) (length bs) ∷ []
events_for (takes.Mistake what) kind bs = Error (mistake_of what kind) (length bs) ∷ []
events_for _ kind bs = events_as (leaf_kind kind) kind bs
