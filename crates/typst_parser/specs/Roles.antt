-- What is looked at in the children of a tree, in search of names that come again.
use Rattle.std.specs.Prelude.{ℕ}
use Rattle.typst_base.specs.declared.kind.SyntaxKind.{SyntaxKind}
use Rattle.typst_base.specs.declared.kind.SyntaxKind.TheVariants as kinds
use Rattle.typst_parser.specs.declared.role.Role.{Role}
use Rattle.typst_parser.specs.declared.role.Role.TheVariants as roles
use Rattle.typst_grammar.specs.declared.row.Unique.{Unique}
use Rattle.typst_grammar.specs.declared.row.Unique.TheVariants as uniques

-- the role of the tree in which names are looked for
abbrev pub root_role : Unique → Role
root_role uniques.Argument = roles.Arguments
root_role uniques.Key = roles.Keys
root_role uniques.Parameter = roles.Pattern
root_role uniques.Binding = roles.Pattern
root_role uniques.Sink = roles.Pattern

-- the role of the items of a list, which has this number
abbrev pub list_role : SyntaxKind → ℕ → Role
list_role kinds.Array number = roles.Item number
list_role kinds.Dict number = roles.Item number
list_role kinds.Parenthesized number = roles.Item number
list_role _ number = roles.Nothing

-- the role of the elements of a pattern, which has this number
abbrev pub pattern_role : SyntaxKind → ℕ → Role
pattern_role kinds.Params number = roles.Parameter number
pattern_role kinds.Destructuring number = roles.Element number
pattern_role kinds.Parenthesized number = roles.Element number
pattern_role _ number = roles.Nothing

-- the role of the first child of a tree, which has this number
abbrev pub first_role : Role → SyntaxKind → ℕ → Role
first_role roles.Nothing kind number = roles.Nothing
first_role roles.Arguments kind number = roles.Argument
first_role roles.Argument kinds.Named number = roles.Name
first_role roles.Argument _ number = roles.Nothing
first_role roles.Name kind number = roles.Nothing
first_role roles.Keys kind number = list_role kind number
first_role (roles.Item list) kinds.Named number = roles.Key list
first_role (roles.Item list) kinds.Keyed number = roles.Key list
first_role (roles.Item list) kind number = list_role kind number
first_role (roles.Key list) kind number = list_role kind number
first_role roles.Pattern kind number = pattern_role kind number
first_role (roles.Element list) kinds.Named number = roles.Nothing
first_role (roles.Element list) kinds.Spread number = roles.Pattern
first_role (roles.Element list) kind number = pattern_role kind number
first_role (roles.Parameter list) kinds.Named number = roles.Pattern
first_role (roles.Parameter list) kinds.Spread number = roles.Pattern
first_role (roles.Parameter list) kind number = pattern_role kind number

-- the role of the other children: of a pair its value, of a parameter nothing, of an element with a key its pattern
abbrev pub others_role : Role → SyntaxKind → ℕ → Role
others_role (roles.Item list) kinds.Named number = roles.Keys
others_role (roles.Item list) kinds.Keyed number = roles.Keys
others_role roles.Argument kinds.Named number = roles.Nothing
others_role (roles.Element list) kinds.Named number = roles.Pattern
others_role (roles.Parameter list) kinds.Named number = roles.Nothing
others_role role kind number = first_role role kind number
