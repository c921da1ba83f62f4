-- A `MathArgItem` and a `MathArg` in contracts.
use Rattle.std.specs.Prelude.{Bool, true, ◌==◌, Option, Some}
use Rattle.typst_ast.specs.Arg.{arg_node, arg_kind}
use Rattle.typst_ast.specs.declared.math_args.MathArg.{MathArg}
use Rattle.typst_ast.specs.declared.math_args.MathArgItem.{MathArgItem}
use Rattle.typst_ast.specs.declared.math_args.MathArgItem.TheVariants.{Arg, Space, Comma, Semicolon, LeftParen, RightParen}
use Rattle.typst_atoms.specs.Classes.{is_arg_kind}
use Rattle.typst_atoms.specs.View.{atom_node}
use Rattle.typst_base.specs.declared.kind.SyntaxKind.{SyntaxKind}
use Rattle.typst_base.specs.declared.kind.SyntaxKind.TheVariants as kinds
use Rattle.typst_node.specs.Tree.{Tree}

-- the item's node
abbrev pub item_node : MathArgItem → Option Tree
item_node (Arg arg) = arg_node arg
item_node (Space space) = atom_node space
item_node (Comma c node) = Some node.now
item_node (Semicolon c node) = Some node.now
item_node (LeftParen c node) = Some node.now
item_node (RightParen c node) = Some node.now

-- the item's kind
abbrev pub item_kind : MathArgItem → SyntaxKind
item_kind (Arg arg) = arg_kind arg
item_kind (Space space) = kinds.Space
item_kind (Comma c node) = kinds.Comma
item_kind (Semicolon c node) = kinds.Semicolon
item_kind (LeftParen c node) = kinds.LeftParen
item_kind (RightParen c node) = kinds.RightParen

-- The item has its proper form. An argument has a kind of arguments, so its kind and node determine the variant. The
-- other items have their character: `,` is 44, `;` is 59, `(` is 40 and `)` is 41.
abbrev pub is_proper_item : MathArgItem → Bool
is_proper_item (Arg arg) = is_arg_kind (arg_kind arg)
is_proper_item (Space space) = true
is_proper_item (Comma c node) = c == 44
is_proper_item (Semicolon c node) = c == 59
is_proper_item (LeftParen c node) = c == 40
is_proper_item (RightParen c node) = c == 41

-- what is said about an argument: its node, its kind, and whether it ends in a semicolon
abbrev pub told_arg : MathArg → Option Tree × SyntaxKind × Bool
told_arg a = (arg_node a.arg, arg_kind a.arg, a.ends_in_semicolon)
