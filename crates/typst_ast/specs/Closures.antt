-- The name of a closure.
use Rattle.std.specs.Prelude.{Option}
use Rattle.typst_ast.specs.Lists.{of_class}
use Rattle.typst_node.specs.Children.{children_in, first_of}
use Rattle.typst_atoms.specs.Kinds.{is_kind}
use Rattle.typst_base.specs.declared.kind.SyntaxKind.TheVariants as kinds
use Rattle.typst_node.specs.Tree.{Tree}

-- the first child, if it is an identifier
abbrev pub closure_name : Option Tree → Option Tree
closure_name closure = of_class (is_kind kinds.Ident) (first_of (children_in closure))
