-- The warnings of nodes.
use Rattle.std.specs.Prelude.{ℕ, ◌||◌, Bool, true, false, List, [], ◌∷◌, codes, Option, None, Some, if◌then◌else◌}
use Rattle.std.specs.List.{list_any}
use Rattle.typst_atoms.specs.ExprKinds.{is_expr_kind}
use Rattle.typst_base.specs.declared.kind.SyntaxKind.{SyntaxKind}
use Rattle.typst_base.specs.declared.kind.SyntaxKind.TheVariants as kinds
use Rattle.typst_node.specs.Hints.{hint_for, hinted}
use Rattle.typst_node.specs.Tree.{Tree, kind_of, trees}
use Rattle.typst_node.specs.Warnings.{warned, warning}
use Rattle.typst_parser.specs.declared.warning.Warning.{Warning}
use Rattle.typst_parser.specs.declared.warning.Warning.TheVariants as warnings

-- what a warning says
abbrev pub warning_message : Warning → List ℕ
warning_message warnings.EmptyStrong = codes "no text within stars"
warning_message warnings.EmptyEmph = codes "no text within underscores"

-- the hint of a warning
abbrev pub warning_hint : Warning → List ℕ
warning_hint warnings.EmptyStrong = codes "using multiple consecutive stars (e.g. **) has no additional effect"
warning_hint warnings.EmptyEmph = codes "using multiple consecutive underscores (e.g. __) has no additional effect"

-- whether a kind is that of white space
abbrev pub is_space : SyntaxKind → Bool
is_space kinds.Space = true
is_space kind = false

-- whether a node is an expression or white space
abbrev pub is_visible : Tree → Bool
is_visible t = is_expr_kind (kind_of t.label.content) || is_space (kind_of t.label.content)

-- whether a child of this kind holds text, or is an error
abbrev pub text_in : SyntaxKind → List Tree → Bool
text_in kinds.Error ts = true
text_in kinds.Markup ts = list_any is_visible ts
text_in kind ts = false

-- whether a child of strong or emphasized content holds text, or is an error
abbrev pub holds_text : Tree → Bool
holds_text t = text_in (kind_of t.label.content) (trees t.children)

-- the warning of strong or emphasized content without text, whose delimiters aren't errors
abbrev pub empty_warning : Warning → List Tree → Option Warning
empty_warning w ts = if list_any holds_text ts then None else Some w

-- why a node of a kind over these children gets a warning, if it gets one
abbrev pub warning_for : SyntaxKind → List Tree → Option Warning
warning_for kinds.Strong ts = empty_warning warnings.EmptyStrong ts
warning_for kinds.Emph ts = empty_warning warnings.EmptyEmph ts
warning_for kind ts = None

-- the tree with a warning and its hint, if there is one
abbrev pub warned_by : Option Warning → Tree → Tree
warned_by None t = t
warned_by (Some w) t = hinted (hint_for None (warning_hint w) ∷ []) (warned (warning None (warning_message w)) t)
