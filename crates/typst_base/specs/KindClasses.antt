-- Written by bench/kinds.py from crates/kinds.txt: change that and run it.
-- The classes of kinds. Each definition lists its kinds, in the order of the kinds' numbers.
use Rattle.std.specs.Prelude.{Bool, true, false}
use Rattle.typst_base.specs.declared.kind.SyntaxKind.{SyntaxKind}
use Rattle.typst_base.specs.declared.kind.SyntaxKind.TheVariants.{End, Shebang, LineComment, BlockComment, Space, Parbreak, LeftBrace, RightBrace, LeftBracket, RightBracket, LeftParen, RightParen, Semicolon, Not, And, Or, None as NoneKind, Auto, Let, Set, Show, Context, If, Else, For, In, While, Break, Continue, Return, Import, Include, As, CodeBlock, ContentBlock, LetBinding, SetRule, ShowRule, ModuleImport, ModuleInclude}

-- a bracket of any shape, opening or closing
abbrev pub is_grouping_kind : SyntaxKind → Bool
is_grouping_kind LeftBrace = true
is_grouping_kind RightBrace = true
is_grouping_kind LeftBracket = true
is_grouping_kind RightBracket = true
is_grouping_kind LeftParen = true
is_grouping_kind RightParen = true
is_grouping_kind _ = false

-- what ends an expression: the end of the tokens, a semicolon or a closing bracket
abbrev pub is_terminator_kind : SyntaxKind → Bool
is_terminator_kind End = true
is_terminator_kind RightBrace = true
is_terminator_kind RightBracket = true
is_terminator_kind RightParen = true
is_terminator_kind Semicolon = true
is_terminator_kind _ = false

-- a block of code or of content
abbrev pub is_block_kind : SyntaxKind → Bool
is_block_kind CodeBlock = true
is_block_kind ContentBlock = true
is_block_kind _ = false

-- a statement
abbrev pub is_stmt_kind : SyntaxKind → Bool
is_stmt_kind LetBinding = true
is_stmt_kind SetRule = true
is_stmt_kind ShowRule = true
is_stmt_kind ModuleImport = true
is_stmt_kind ModuleInclude = true
is_stmt_kind _ = false

-- a keyword
abbrev pub is_keyword_kind : SyntaxKind → Bool
is_keyword_kind Not = true
is_keyword_kind And = true
is_keyword_kind Or = true
is_keyword_kind NoneKind = true
is_keyword_kind Auto = true
is_keyword_kind Let = true
is_keyword_kind Set = true
is_keyword_kind Show = true
is_keyword_kind Context = true
is_keyword_kind If = true
is_keyword_kind Else = true
is_keyword_kind For = true
is_keyword_kind In = true
is_keyword_kind While = true
is_keyword_kind Break = true
is_keyword_kind Continue = true
is_keyword_kind Return = true
is_keyword_kind Import = true
is_keyword_kind Include = true
is_keyword_kind As = true
is_keyword_kind _ = false

-- what a parser passes over: white space, comments and paragraph breaks
abbrev pub is_trivia_kind : SyntaxKind → Bool
is_trivia_kind Shebang = true
is_trivia_kind LineComment = true
is_trivia_kind BlockComment = true
is_trivia_kind Space = true
is_trivia_kind Parbreak = true
is_trivia_kind _ = false
