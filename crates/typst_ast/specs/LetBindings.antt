-- The target and the value of a let binding.
use Rattle.std.specs.Prelude.{Bool, true, false, cond, ◌||◌, Option, ◌≡◌}
use Rattle.typst_ast.specs.Closures.{closure_name}
use Rattle.typst_ast.specs.Pattern.{IsPatternOf}
use Rattle.typst_ast.specs.declared.lets.LetBindingKind.{LetBindingKind}
use Rattle.typst_ast.specs.declared.lets.LetBindingKind.TheVariants.{Normal, Closure}
use Rattle.typst_node.specs.Children.{first_child, second_child}
use Rattle.typst_atoms.specs.Classes.{is_pattern_kind}
use Rattle.typst_atoms.specs.ExprKinds.{is_expr_kind}
use Rattle.typst_atoms.specs.Kinds.{is_kind}
use Rattle.typst_atoms.specs.View.{atom_node}
use Rattle.typst_base.specs.declared.kind.SyntaxKind.{SyntaxKind}
use Rattle.typst_base.specs.declared.kind.SyntaxKind.TheVariants as kinds
use Rattle.typst_node.specs.Tree.{Tree}
use Rattle.typst_node.specs.Views.{kind_or}

-- the pattern's node
abbrev pub let_pattern : Option Tree → Option Tree
let_pattern binding = first_child is_pattern_kind binding

-- the kind of the pattern's node; without a node it is that of `none`
abbrev pub let_pattern_kind : Option Tree → SyntaxKind
let_pattern_kind binding = kind_or kinds.None (let_pattern binding)

-- the target: if the pattern is a closure, its name or the placeholder of a name, else the pattern
abbrev pub IsLetBindingKindOf : Option Tree → LetBindingKind → Type 0
IsLetBindingKindOf binding (Normal pattern) =
    (is_kind kinds.Closure (let_pattern_kind binding) ≡ false) × IsPatternOf (let_pattern binding) pattern
IsLetBindingKindOf binding (Closure name) =
    (is_kind kinds.Closure (let_pattern_kind binding) ≡ true) × (atom_node name ≡ closure_name (let_pattern binding))

-- the pattern is not an expression apart from the value: a closure is the value itself, and a `_` or a destructuring is
-- no expression
abbrev pub is_no_expr_besides : SyntaxKind → Bool
is_no_expr_besides k = is_kind kinds.Closure k || (is_kind kinds.Underscore k || is_kind kinds.Destructuring k)

-- the value: the first expression if the pattern is not an expression apart from it, else the second, after the pattern
abbrev pub let_value : Option Tree → Option Tree
let_value binding =
    cond (is_no_expr_besides (let_pattern_kind binding)) (first_child is_expr_kind binding) (second_child is_expr_kind binding)
