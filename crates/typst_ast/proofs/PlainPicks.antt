-- What nodes that are alike pick among their children is alike, and so is what is read of it.
use Rattle.std.proofs.Common.{◌≡◌, ℕ, Bool, false, not, ◌&&◌, cond, chars, length, nat_le, List, [], ◌∷◌, ◌++◌, map, Option, Some, None, option_map, refl, ap, sym, ◌∙◌}
use Rattle.std.specs.Option.{option_map_or}
use Rattle.typst_ast.proofs.PlainParts.{all_but_last_alike, all_in_alike, before_last_alike, behind_first_alike, children_alike, cond_options, first_of_alike, is_of_kind_alike, is_of_kind_plain, kind_alike, kind_plain, last_of_alike, last_of_plain, of_class_alike, second_of_alike, third_of_alike}
use Rattle.typst_ast.specs.Alike.{AreAlike, IsAlike, first_behind, last_before, last_before_end, next_behind}
use Rattle.typst_ast.specs.Closures.{closure_name}
use Rattle.typst_ast.specs.Equations.{is_block_equation, is_deparenthesized}
use Rattle.typst_ast.specs.LetBindings.{is_no_expr_besides, let_pattern_kind, let_value}
use Rattle.typst_ast.specs.Lists.{all_but_last, third_of}
use Rattle.typst_node.specs.Children.{all_children, first_child, last_child, last_of, second_child, second_of}
use Rattle.typst_atoms.specs.Classes.{is_pattern_kind}
use Rattle.typst_atoms.specs.ExprKinds.{is_expr_kind}
use Rattle.typst_atoms.specs.Kinds.{is_kind}
use Rattle.typst_atoms.specs.Missing.{is_of_kind}
use Rattle.typst_atoms.specs.Raws.{is_fenced, lang_node, trimmed_in}
use Rattle.typst_base.specs.KindClasses.{is_trivia_kind}
use Rattle.typst_base.specs.declared.kind.SyntaxKind.TheVariants as kinds
use Rattle.typst_node.proofs.Plain.{text_plain, text_unbounded}
use Rattle.typst_node.specs.Plain.{plain}
use Rattle.typst_node.specs.Text.{text}
use Rattle.typst_node.specs.Tree.{Tree}
use Rattle.typst_node.specs.Views.{Class}

-- the forms of equations and of delimited contents
pub block_alike : (ts us : List Tree) → AreAlike ts us → is_block_equation ts ≡ is_block_equation us
block_alike ts us same =
    let second : is_of_kind kinds.Space (second_of ts) ≡ is_of_kind kinds.Space (second_of us) =
    is_of_kind_alike _ _ (second_of_alike ts us same) kinds.Space in
    let before : is_of_kind kinds.Space (last_of (all_but_last ts)) ≡ is_of_kind kinds.Space (last_of (all_but_last us)) =
    is_of_kind_alike _ _ (last_of_alike _ _ (all_but_last_alike ts us same)) kinds.Space in
    λ i. second i && before i

deparenthesized_plain : (ts : List Tree) → is_deparenthesized (map plain ts) ≡ is_deparenthesized ts
deparenthesized_plain [] = refl
deparenthesized_plain (t ∷ ts) =
    let end : is_of_kind kinds.RightParen (last_of (map plain ts)) ≡ is_of_kind kinds.RightParen (last_of ts) =
    ap (is_of_kind kinds.RightParen) (last_of_plain ts) ∙ is_of_kind_plain kinds.RightParen (last_of ts) in
    λ i. is_kind kinds.LeftParen (kind_plain t i) && end i

pub deparenthesized_alike : (ts us : List Tree) → AreAlike ts us → is_deparenthesized ts ≡ is_deparenthesized us
deparenthesized_alike ts us same = sym (deparenthesized_plain ts) ∙ ap is_deparenthesized same ∙ deparenthesized_plain us

-- the delimiters and the trimmed characters of raw texts
abbrev is_fence : Option Tree → Bool
is_fence delimiter = option_map_or (λ t. nat_le 3 (length (text t))) delimiter false

is_fence_plain : (o : Option Tree) → is_fence (option_map plain o) ≡ is_fence o
is_fence_plain None = refl
is_fence_plain (Some t) = ap (λ (bytes : List ℕ). nat_le 3 (length bytes)) (text_plain t)

trimmed_plain : (ts : List Tree) → trimmed_in (map plain ts) ≡ trimmed_in ts
trimmed_plain [] = refl
trimmed_plain (t ∷ ts) = λ i.
    cond (is_kind kinds.RawTrimmed (kind_plain t i))
    (chars (text_unbounded t.label.content i) ++ trimmed_plain ts i)
    (trimmed_plain ts i)

pub trimmed_alike : (ts us : List Tree) → AreAlike ts us → trimmed_in ts ≡ trimmed_in us
trimmed_alike ts us same = sym (trimmed_plain ts) ∙ ap trimmed_in same ∙ trimmed_plain us

-- the children that are picked
module _ (a b : Option Tree) (same : IsAlike a b) where
  pub all_picked : (c : Class) → AreAlike (all_children c a) (all_children c b)
  all_picked c = all_in_alike _ _ (children_alike a b same) c

  pub first_picked : (c : Class) → IsAlike (first_child c a) (first_child c b)
  first_picked c = first_of_alike _ _ (all_picked c)

  pub second_picked : (c : Class) → IsAlike (second_child c a) (second_child c b)
  second_picked c = second_of_alike _ _ (all_picked c)

  pub third_picked : (c : Class) → IsAlike (third_of (all_children c a)) (third_of (all_children c b))
  third_picked c = third_of_alike _ _ (all_picked c)

  pub last_picked : (c : Class) → IsAlike (last_child c a) (last_child c b)
  last_picked c = last_of_alike _ _ (all_picked c)

  pub picked_behind : (c d : Class) → IsAlike (first_behind c d a) (first_behind c d b)
  picked_behind c d = first_of_alike _ _ (all_in_alike _ _ (behind_first_alike _ _ (children_alike a b same) c) d)

  pub picked_before : (c d : Class) → IsAlike (last_before c d a) (last_before c d b)
  picked_before c d = last_of_alike _ _ (all_in_alike _ _ (before_last_alike _ _ (children_alike a b same) c) d)

  pub next_picked : (c d : Class) → IsAlike (next_behind c d a) (next_behind c d b)
  next_picked c d = of_class_alike _ _ (first_of_alike _ _ (behind_first_alike _ _ (children_alike a b same) c)) d

  pub last_before_end_picked : IsAlike (last_before_end a) (last_before_end b)
  last_before_end_picked =
      last_of_alike _ _ (all_in_alike _ _ (all_but_last_alike _ _ (children_alike a b same)) (λ k. not (is_trivia_kind k)))

  pub name_picked : IsAlike (closure_name a) (closure_name b)
  name_picked = of_class_alike _ _ (first_of_alike _ _ (children_alike a b same)) (is_kind kinds.Ident)

  pub pattern_kind_picked : let_pattern_kind a ≡ let_pattern_kind b
  pattern_kind_picked = kind_alike _ _ (first_picked is_pattern_kind) kinds.None

  pub value_picked : IsAlike (let_value a) (let_value b)
  value_picked =
      sym (cond_options (is_no_expr_besides (let_pattern_kind a)) (first_child is_expr_kind a) (second_child is_expr_kind a))
      ∙ (λ i. cond (is_no_expr_besides (pattern_kind_picked i)) (first_picked is_expr_kind i) (second_picked is_expr_kind i))
      ∙ cond_options (is_no_expr_besides (let_pattern_kind b)) (first_child is_expr_kind b) (second_child is_expr_kind b)

  pub fenced_picked : is_fenced a ≡ is_fenced b
  fenced_picked =
      sym (is_fence_plain (first_child (is_kind kinds.RawDelim) a))
      ∙ ap is_fence (first_picked (is_kind kinds.RawDelim))
      ∙ is_fence_plain (first_child (is_kind kinds.RawDelim) b)

  pub lang_picked : IsAlike (lang_node a) (lang_node b)
  lang_picked =
      sym (cond_options (is_fenced a) (first_child (is_kind kinds.RawLang) a) None)
      ∙ (λ i. cond (fenced_picked i) (first_picked (is_kind kinds.RawLang) i) None)
      ∙ cond_options (is_fenced b) (first_child (is_kind kinds.RawLang) b) None
