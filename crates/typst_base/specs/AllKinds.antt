-- Written by bench/kinds.py from crates/kinds.txt: change that and run it.
-- The list of all kinds.
use Rattle.std.specs.Prelude.{List, [], ◌∷◌}
use Rattle.typst_base.specs.declared.kind.SyntaxKind.{SyntaxKind}
use Rattle.typst_base.specs.declared.kind.SyntaxKind.TheVariants.{End, Error, Shebang, LineComment, BlockComment, Markup, Text, Space, Linebreak, Parbreak, Escape, Shorthand, SmartQuote, Strong, Emph, Raw, RawLang, RawDelim, RawTrimmed, Link, Label, Ref, RefMarker, Heading, HeadingMarker, ListItem, ListMarker, EnumItem, EnumMarker, TermItem, TermMarker, Equation, Math, MathText, MathIdent, MathFieldAccess, MathShorthand, MathAlignPoint, MathCall, MathArgs, MathDelimited, MathAttach, MathPrimes, MathFrac, MathRoot, Hash, LeftBrace, RightBrace, LeftBracket, RightBracket, LeftParen, RightParen, Comma, Semicolon, Colon, Star, Underscore, Dollar, Plus, Minus, Slash, Hat, Dot, Eq, EqEq, ExclEq, Lt, LtEq, Gt, GtEq, PlusEq, HyphEq, StarEq, SlashEq, Dots, Arrow, Root, Bang, Not, And, Or, None as NoneKind, Auto, Let, Set, Show, Context, If, Else, For, In, While, Break, Continue, Return, Import, Include, As, Code, Ident, Bool as BoolKind, Int, Float, Numeric, Str, CodeBlock, ContentBlock, Parenthesized, Array, Dict, Named, Keyed, Unary, Binary, FieldAccess, FuncCall, Args, Spread, Closure, Params, LetBinding, SetRule, ShowRule, Contextual, Conditional, WhileLoop, ForLoop, ModuleImport, ImportItems, ImportItemPath, RenamedImportItem, ModuleInclude, LoopBreak, LoopContinue, FuncReturn, Destructuring, DestructAssignment}

-- all kinds, in the order of their numbers
unfoldable pub all_kinds : List SyntaxKind
all_kinds =
    End ∷ Error ∷ Shebang ∷ LineComment ∷ BlockComment ∷ Markup ∷ Text ∷ Space ∷ Linebreak ∷ Parbreak ∷ Escape ∷
    Shorthand ∷ SmartQuote ∷ Strong ∷ Emph ∷ Raw ∷ RawLang ∷ RawDelim ∷ RawTrimmed ∷ Link ∷ Label ∷ Ref ∷
    RefMarker ∷ Heading ∷ HeadingMarker ∷ ListItem ∷ ListMarker ∷ EnumItem ∷ EnumMarker ∷ TermItem ∷ TermMarker ∷
    Equation ∷ Math ∷ MathText ∷ MathIdent ∷ MathFieldAccess ∷ MathShorthand ∷ MathAlignPoint ∷ MathCall ∷
    MathArgs ∷ MathDelimited ∷ MathAttach ∷ MathPrimes ∷ MathFrac ∷ MathRoot ∷ Hash ∷ LeftBrace ∷ RightBrace ∷
    LeftBracket ∷ RightBracket ∷ LeftParen ∷ RightParen ∷ Comma ∷ Semicolon ∷ Colon ∷ Star ∷ Underscore ∷ Dollar ∷
    Plus ∷ Minus ∷ Slash ∷ Hat ∷ Dot ∷ Eq ∷ EqEq ∷ ExclEq ∷ Lt ∷ LtEq ∷ Gt ∷ GtEq ∷ PlusEq ∷ HyphEq ∷ StarEq ∷
    SlashEq ∷ Dots ∷ Arrow ∷ Root ∷ Bang ∷ Not ∷ And ∷ Or ∷ NoneKind ∷ Auto ∷ Let ∷ Set ∷ Show ∷ Context ∷ If ∷
    Else ∷ For ∷ In ∷ While ∷ Break ∷ Continue ∷ Return ∷ Import ∷ Include ∷ As ∷ Code ∷ Ident ∷ BoolKind ∷ Int ∷
    Float ∷ Numeric ∷ Str ∷ CodeBlock ∷ ContentBlock ∷ Parenthesized ∷ Array ∷ Dict ∷ Named ∷ Keyed ∷ Unary ∷
    Binary ∷ FieldAccess ∷ FuncCall ∷ Args ∷ Spread ∷ Closure ∷ Params ∷ LetBinding ∷ SetRule ∷ ShowRule ∷
    Contextual ∷ Conditional ∷ WhileLoop ∷ ForLoop ∷ ModuleImport ∷ ImportItems ∷ ImportItemPath ∷
    RenamedImportItem ∷ ModuleInclude ∷ LoopBreak ∷ LoopContinue ∷ FuncReturn ∷ Destructuring ∷ DestructAssignment ∷
    []
