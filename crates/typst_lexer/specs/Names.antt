-- What names of code are, by their texts.
use Rattle.std.specs.Prelude.{ℕ, ◌||◌, List, codes, if◌then◌else◌}
use Rattle.std.specs.Str.{bytes_eq}
use Rattle.typst_lexer.specs.declared.token.TokenKind.{TokenKind}
use Rattle.typst_lexer.specs.declared.token.TokenKind.TheVariants as kinds

-- a name that is no keyword
abbrev pub plain_name : List ℕ → TokenKind
plain_name name = if bytes_eq name (codes "_") then kinds.Underscore else kinds.Ident

-- the keywords that begin a statement or a loop
abbrev pub statement_kind : List ℕ → TokenKind
statement_kind name =
    if bytes_eq name (codes "let") then kinds.Let
    else (if bytes_eq name (codes "set") then kinds.Set
    else (if bytes_eq name (codes "show") then kinds.Show
    else (if bytes_eq name (codes "context") then kinds.Context
    else (if bytes_eq name (codes "for") then kinds.For
    else (if bytes_eq name (codes "while") then kinds.While
    else (if bytes_eq name (codes "break") then kinds.Break
    else (if bytes_eq name (codes "continue") then kinds.Continue
    else (if bytes_eq name (codes "return") then kinds.Return
    else (if bytes_eq name (codes "import") then kinds.Import
    else (if bytes_eq name (codes "include") then kinds.Include
    else plain_name name))))))))))

-- the kind of a name that may be a keyword
abbrev pub name_kind : List ℕ → TokenKind
name_kind name =
    if bytes_eq name (codes "not") then kinds.Not
    else (if bytes_eq name (codes "and") then kinds.And
    else (if bytes_eq name (codes "or") then kinds.Or
    else (if bytes_eq name (codes "none") then kinds.None
    else (if bytes_eq name (codes "auto") then kinds.Auto
    else (if bytes_eq name (codes "true") || bytes_eq name (codes "false") then kinds.Bool
    else (if bytes_eq name (codes "if") then kinds.If
    else (if bytes_eq name (codes "else") then kinds.Else
    else (if bytes_eq name (codes "in") then kinds.In
    else (if bytes_eq name (codes "as") then kinds.As
    else statement_kind name)))))))))
