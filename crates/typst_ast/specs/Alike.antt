-- The answers of typed views for nodes that are alike: nodes whose plain trees are equal.
use Rattle.std.specs.Prelude.{ℕ, ◌≡◌, ◌↔◌, Bool, length, List, Option, Some, map, option_map}
use Rattle.typst_ast.specs.BareNames.{import_kind, import_source}
use Rattle.typst_ast.specs.Closures.{closure_name}
use Rattle.typst_ast.specs.EnumNumbers.{IsFirstNumber}
use Rattle.typst_ast.specs.Equations.{is_block_equation, is_deparenthesized}
use Rattle.typst_ast.specs.Exprs.{markup_exprs}
use Rattle.typst_ast.specs.Headings.{heading_depth}
use Rattle.typst_ast.specs.LetBindings.{let_pattern, let_pattern_kind, let_value}
use Rattle.typst_ast.specs.Lists.{all_but_last, before_last, last_significant, of_class, third_of}
use Rattle.typst_ast.specs.Operators.{binary_operator_in, unary_operator_in}
use Rattle.typst_ast.specs.Refs.{ref_target}
use Rattle.typst_atoms.specs.Bindings.{names_bound, names_of_items}
use Rattle.typst_node.specs.Children.{all_children, all_in, behind_first, children_in, first_child, first_of, last_child, last_of, second_child}
use Rattle.typst_atoms.specs.MathItems.{args_in, content_items}
use Rattle.typst_atoms.specs.Missing.{is_of_kind}
use Rattle.typst_atoms.specs.Raws.{is_fenced, lang_node, trimmed_chars}
use Rattle.typst_atoms.specs.Texts.{text_in}
use Rattle.typst_base.specs.declared.kind.SyntaxKind.{SyntaxKind}
use Rattle.typst_node.specs.Plain.{plain}
use Rattle.typst_node.specs.Text.{text as text_of}
use Rattle.typst_node.specs.Tree.{Tree}
use Rattle.typst_node.specs.Views.{Class, kind_or, node_kind}

-- the plain trees are equal, or both nodes are missing
abbrev pub IsAlike : Option Tree → Option Tree → Type 0
IsAlike a b = option_map plain a ≡ option_map plain b

-- the plain trees of both lists are equal one by one
abbrev pub AreAlike : List Tree → List Tree → Type 0
AreAlike ts us = map plain ts ≡ map plain us

-- the nodes are of one kind; if a node is missing, the same kind is taken for both
abbrev pub AreOfOneKind : Option Tree → Option Tree → Type 0
AreOfOneKind a b = (blank : SyntaxKind) → kind_or blank a ≡ kind_or blank b

-- the first child of the second class after the first child of the first class
abbrev pub first_behind : Class → Class → Option Tree → Option Tree
first_behind c d node = first_of (all_in d (behind_first c (children_in node)))

-- the last child of the second class before the last child of the first class
abbrev pub last_before : Class → Class → Option Tree → Option Tree
last_before c d node = last_of (all_in d (before_last c (children_in node)))

-- the child directly after the first child of the first class, if its kind lies in the second class
abbrev pub next_behind : Class → Class → Option Tree → Option Tree
next_behind c d node = of_class d (first_of (behind_first c (children_in node)))

-- the last child that isn't trivia, among the children before the last child
abbrev pub last_before_end : Option Tree → Option Tree
last_before_end node = last_significant (all_but_last (children_in node))

-- an argument in math: its plain tree, its kind, and whether it ends in a semicolon
abbrev pub plain_arg : Tree × Bool → Tree × SyntaxKind × Bool
plain_arg p = (plain p.0, node_kind p.0, p.1)

-- All sources of accessors are alike for two nodes: their texts and kinds, the children that accessors pick, and the
-- children before and after these. The comment above each field lists its accessors, and `bench/alike.py` compares it
-- with their clauses.
pub record ReadsAlike (a b : Option Tree) : Type 0 where
  -- LineComment::text, BlockComment::text, Escape::get, Ident::get, Ident::as_str, Int::get, Label::get, Link::get,
  -- MathIdent::get, MathIdent::as_str, MathText::get, typst_atoms::leaf_text, Numeric::get, Float::get,
  -- SmartQuote::double, MathPrimes::count, Bool::get, RawLang::get, Shorthand::get, MathShorthand::get, Str::get,
  -- Text::get
  pub text : text_in a ≡ text_in b
  -- no accessor by itself
  pub kind : AreOfOneKind a b
  -- typst_atoms::cast_all, ImportItems::iter, ImportItemPath::iter, KeptNodes::of_all, KeptNodes::of_markup,
  -- typst_atoms::children, Raw::lines, Code::exprs, Args::items, Params::children, Array::items, Dict::items,
  -- Destructuring::items, Math::exprs
  pub children : AreAlike (children_in a) (children_in b)
  -- typst_atoms::first_pattern, typst_atoms::try_cast_first, typst_atoms::cast_first, ImportItem::path,
  -- MathFieldAccess::target, typst_atoms::first_of_kind, RenamedImportItem::path, CodeBlock::body,
  -- Parenthesized::expr, Parenthesized::pattern, Contextual::body, FuncCall::callee, Closure::params, Named::name,
  -- Keyed::key, Spread::expr, Spread::sink_ident, Spread::sink_expr, Conditional::condition, WhileLoop::condition,
  -- ForLoop::pattern, EnumItem::body, DestructAssignment::pattern, Strong::body, Emph::body, ContentBlock::body,
  -- ListItem::body, TermItem::term, Heading::body, Equation::body, MathCall::callee, MathDelimited::open,
  -- MathDelimited::body, MathAttach::base, MathFrac::num, MathRoot::radicand, ModuleImport::source,
  -- ModuleImport::imports, Binary::lhs, FieldAccess::target, SetRule::target, typst_atoms::push_items
  pub first : (c : Class) → IsAlike (first_child c a) (first_child c b)
  -- typst_atoms::push_items, typst_atoms::try_cast_last, typst_atoms::cast_last, ImportItem::bound_name,
  -- ImportItemPath::name, MathFieldAccess::field, RenamedImportItem::new_name, FuncCall::args, Closure::body,
  -- Named::expr, Named::pattern, Keyed::expr, WhileLoop::body, ForLoop::body, FuncReturn::body,
  -- DestructAssignment::value, TermItem::description, Ref::supplement, MathCall::args, MathDelimited::close,
  -- MathFrac::denom, ModuleInclude::source, Unary::expr, Binary::rhs, FieldAccess::field, SetRule::args,
  -- ShowRule::transform
  pub last : (c : Class) → IsAlike (last_child c a) (last_child c b)
  -- typst_atoms::cast_all, ImportItems::iter, ImportItemPath::iter, Raw::lines, Code::exprs, Args::items,
  -- Params::children, Array::items, Dict::items, Destructuring::items, Math::exprs
  pub all : (c : Class) → AreAlike (all_children c a) (all_children c b)
  -- typst_atoms::behind
  pub behind : (c : Class) → AreAlike (behind_first c (children_in a)) (behind_first c (children_in b))
  -- no accessor by itself
  pub before : (c : Class) → AreAlike (before_last c (children_in a)) (before_last c (children_in b))
  -- Markup::exprs
  pub exprs : AreAlike (markup_exprs (children_in a)) (markup_exprs (children_in b))
  -- MathItems::new, MathArgs::content_items
  pub items : AreAlike (content_items (children_in a)) (content_items (children_in b))
  -- Unary::op
  pub unary : unary_operator_in (children_in a) ≡ unary_operator_in (children_in b)
  -- Binary::op
  pub binary : binary_operator_in (children_in a) ≡ binary_operator_in (children_in b)
  -- typst_atoms::push_pattern, typst_atoms::push_items, Pattern::bindings, Destructuring::bindings,
  -- LetBindingKind::bindings
  pub names : AreAlike (names_bound a) (names_bound b)
  -- Conditional::if_body
  pub second : (c : Class) → IsAlike (second_child c a) (second_child c b)
  -- Conditional::else_body
  pub third : (c : Class) → IsAlike (third_of (all_children c a)) (third_of (all_children c b))
  -- MathAttach::primes
  pub next : (c d : Class) → IsAlike (next_behind c d a) (next_behind c d b)
  -- typst_atoms::push_items, ForLoop::iterable, MathAttach::bottom, MathAttach::top, ModuleImport::new_name,
  -- SetRule::condition
  pub nearest_behind : (c d : Class) → IsAlike (first_behind c d a) (first_behind c d b)
  -- ShowRule::selector
  pub nearest_before : (c d : Class) → IsAlike (last_before c d a) (last_before c d b)
  -- no accessor by itself
  pub kinds : map node_kind (children_in a) ≡ map node_kind (children_in b)
  -- no accessor by itself
  pub texts : map (λ t. text_in (Some t)) (children_in a) ≡ map (λ t. text_in (Some t)) (children_in b)
  -- no accessor by itself
  pub lengths : map (λ t. length (text_of t)) (children_in a) ≡ map (λ t. length (text_of t)) (children_in b)
  -- MathArgs::arg_items
  pub args : map plain_arg (args_in (content_items (children_in a))) ≡ map plain_arg (args_in (content_items (children_in b)))
  -- Equation::block
  pub block : is_block_equation (children_in a) ≡ is_block_equation (children_in b)
  -- Math::was_deparenthesized
  pub deparenthesized : is_deparenthesized (children_in a) ≡ is_deparenthesized (children_in b)
  -- MathRoot::index
  pub sign : text_in (first_of (children_in a)) ≡ text_in (first_of (children_in b))
  -- no accessor by itself
  pub significant : IsAlike (last_before_end a) (last_before_end b)
  -- Args::trailing_comma
  pub comma : (k : SyntaxKind) → is_of_kind k (last_before_end a) ≡ is_of_kind k (last_before_end b)
  -- Closure::name
  pub closure : IsAlike (closure_name a) (closure_name b)
  -- LetBinding::init
  pub value : IsAlike (let_value a) (let_value b)
  -- LetBinding::kind
  pub bound_kind : let_pattern_kind a ≡ let_pattern_kind b
  -- LetBinding::kind
  pub bound_closure : IsAlike (closure_name (let_pattern a)) (closure_name (let_pattern b))
  -- Pattern::bindings, Destructuring::bindings, LetBindingKind::bindings
  pub bound_in_group : (c : Class) → AreAlike (names_bound (first_child c a)) (names_bound (first_child c b))
  -- typst_atoms::push_items, Pattern::bindings, Destructuring::bindings, LetBindingKind::bindings
  pub bound_by_items : AreAlike (names_of_items names_bound a) (names_of_items names_bound b)
  -- Heading::depth
  pub depth : (c : Class) → heading_depth (first_child c a) ≡ heading_depth (first_child c b)
  -- EnumItem::number
  pub number : (c : Class) (n : Option ℕ) → IsFirstNumber (all_children c a) n ↔ IsFirstNumber (all_children c b) n
  -- Ref::target
  pub target : (c : Class) → ref_target (first_child c a) ≡ ref_target (first_child c b)
  -- ModuleImport::bare_name
  pub imported_kind : import_kind a ≡ import_kind b
  -- ModuleImport::bare_name
  pub imported_text : text_in (import_source a) ≡ text_in (import_source b)
  -- ModuleImport::bare_name
  pub imported_field : (c : Class) → text_in (last_child c (import_source a)) ≡ text_in (last_child c (import_source b))
  -- ImportItem::original_name, RenamedImportItem::original_name
  pub in_first : (c d : Class) → IsAlike (last_child d (first_child c a)) (last_child d (first_child c b))
  -- Raw::block
  pub fenced : is_fenced a ≡ is_fenced b
  -- Raw::lang
  pub lang : IsAlike (lang_node a) (lang_node b)
  -- Raw::block
  pub trimmed : trimmed_chars a ≡ trimmed_chars b
