-- What typed views read of a node, they read of its plain tree: each definition commutes with taking spans and bounds away.
use Rattle.std.proofs.Common.{◌≡◌, ◌==◌, ℕ, zero, suc, Bool, true, false, ◌&&◌, ◌||◌, cond, unwrap_or, List, [], ◌∷◌, ◌++◌, map, Option, Some, None, option_map, refl, sym, ap, ◌∙◌}
use Rattle.std.proofs.lemmas.List.{map-append}
use Rattle.std.specs.List.{flat_map}
use Rattle.std.specs.Option.{option_to_list}
use Rattle.typst_ast.proofs.OperatorBehind.{behind_nothing_is_in, binary_operator_behind}
use Rattle.typst_ast.proofs.PlainParts.{all_in_plain, all_plain, args_alike, before_last_plain, behind_first_plain, children_plain, cond_lists, depth_alike, first_number_alike, first_of_alike, first_plain, is_of_kind_alike, kind_alike, kind_or_plain, kind_plain, kinds_alike, last_plain, lengths_alike, option_list_plain, text_alike, text_in_plain, texts_alike}
use Rattle.typst_ast.proofs.PlainPicks.{all_picked, block_alike, deparenthesized_alike, fenced_picked, first_picked, lang_picked, last_before_end_picked, last_picked, name_picked, next_picked, pattern_kind_picked, picked_before, picked_behind, second_picked, third_picked, trimmed_alike, value_picked}
use Rattle.typst_ast.specs.Alike.{AreAlike, IsAlike, ReadsAlike}
use Rattle.typst_ast.specs.Exprs.{is_expr_or_space_kind, markup_exprs}
use Rattle.typst_ast.specs.Lists.{before_last}
use Rattle.typst_ast.specs.Operators.{binary_operator_at, binary_operator_in, unary_operator_in}
use Rattle.typst_atoms.proofs.ItemLists.{items_in_content}
use Rattle.typst_atoms.proofs.KeptLists.{kept_in_markup}
use Rattle.typst_atoms.specs.Bindings.{count_in, names_bound, names_of_item, names_of_pattern, names_within}
use Rattle.typst_node.specs.Children.{all_children, all_in, behind_first, children_in, first_child, last_child}
use Rattle.typst_atoms.specs.Classes.{is_arg_kind, is_destructuring_item_kind, is_pattern_kind}
use Rattle.typst_atoms.specs.ExprKinds.{is_expr_kind}
use Rattle.typst_atoms.specs.KeptNodes.{kept, kept_in, markup_nodes}
use Rattle.typst_atoms.specs.Kinds.{is_kind}
use Rattle.typst_atoms.specs.MathItems.{content_items, is_behind_hash, is_item, item_alone, items_in}
use Rattle.typst_atoms.specs.Texts.{text_in}
use Rattle.typst_atoms.specs.Trims.{without_leading}
use Rattle.typst_atoms.specs.UnaryOperators.{unary_operator_of}
use Rattle.typst_base.specs.KindClasses.{is_stmt_kind}
use Rattle.typst_base.specs.declared.kind.SyntaxKind.{SyntaxKind}
use Rattle.typst_base.specs.declared.kind.SyntaxKind.TheVariants as kinds
use Rattle.typst_node.proofs.Plain.{count_plain}
use Rattle.typst_node.specs.Plain.{plain}
use Rattle.typst_node.specs.Tree.{Tree}
use Rattle.typst_node.specs.Views.{kind_or, node_kind}

-- the expressions of markup, and the items of arguments in math
kept_plain : (b : Bool) (t : Tree) → kept b (plain t) ≡ map plain (kept b t)
kept_plain b t =
    ap (λ (k : SyntaxKind). cond (b && is_kind kinds.Space k) [] (plain t ∷ [])) (kind_plain t)
    ∙ cond_lists (b && is_kind kinds.Space (node_kind t)) [] (t ∷ [])

kept_in_plain : (d b : Bool) (ts : List Tree) → kept_in d b (map plain ts) ≡ map plain (kept_in d b ts)
kept_in_plain d b [] = refl
kept_in_plain d b (t ∷ ts) =
    (λ i. kept_plain b t i ++ kept_in d (d && is_stmt_kind (kind_plain t i)) (map plain ts))
    ∙ ap (λ (us : List Tree). map plain (kept b t) ++ us) (kept_in_plain d (d && is_stmt_kind (node_kind t)) ts)
    ∙ sym (map-append plain (kept b t) (kept_in d (d && is_stmt_kind (node_kind t)) ts))

markup_nodes_plain : (ts : List Tree) → markup_nodes (map plain ts) ≡ map plain (markup_nodes ts)
markup_nodes_plain ts = sym (kept_in_markup (map plain ts)) ∙ kept_in_plain true false ts ∙ ap (map plain) (kept_in_markup ts)

markup_plain : (ts : List Tree) → markup_exprs (map plain ts) ≡ map plain (markup_exprs ts)
markup_plain ts = ap (all_in is_expr_or_space_kind) (markup_nodes_plain ts) ∙ all_in_plain is_expr_or_space_kind (markup_nodes ts)

item_alone_plain : (b : Bool) (t : Tree) → item_alone b (plain t) ≡ map plain (item_alone b t)
item_alone_plain b t =
    ap (λ (k : SyntaxKind). cond (is_item b k) (plain t ∷ []) []) (kind_plain t) ∙ cond_lists (is_item b (node_kind t)) (t ∷ []) []

items_plain : (b : Bool) (ts : List Tree) → items_in b (map plain ts) ≡ map plain (items_in b ts)
items_plain b [] = refl
items_plain b (t ∷ ts) =
    (λ i. item_alone_plain b t i ++ items_in (cond (is_arg_kind (kind_plain t i)) b (is_kind kinds.Hash (kind_plain t i))) (map plain ts))
    ∙ ap (λ (us : List Tree). map plain (item_alone b t) ++ us) (items_plain (is_behind_hash b t) ts)
    ∙ sym (map-append plain (item_alone b t) (items_in (is_behind_hash b t) ts))

content_plain : (ts : List Tree) → content_items (map plain ts) ≡ map plain (content_items ts)
content_plain ts = sym (items_in_content (map plain ts)) ∙ items_plain false ts ∙ ap (map plain) (items_in_content ts)

-- the operators
unary_plain : (ts : List Tree) → unary_operator_in (map plain ts) ≡ unary_operator_in ts
unary_plain [] = refl
unary_plain (t ∷ ts) = λ i. unwrap_or (unary_operator_of (kind_plain t i)) (unary_plain ts i)

behind_plain : (b : Bool) (ts : List Tree) → binary_operator_behind b (map plain ts) ≡ binary_operator_behind b ts
behind_plain b [] = refl
behind_plain b (t ∷ ts) =
    (λ i. unwrap_or (binary_operator_at b (kind_plain t i))
    (binary_operator_behind (b || is_kind kinds.Not (kind_plain t i)) (map plain ts)))
    ∙ ap (unwrap_or (binary_operator_at b (node_kind t))) (behind_plain (b || is_kind kinds.Not (node_kind t)) ts)

binary_plain : (ts : List Tree) → binary_operator_in (map plain ts) ≡ binary_operator_in ts
binary_plain ts = sym (behind_nothing_is_in (map plain ts)) ∙ behind_plain false ts ∙ behind_nothing_is_in ts

-- the names that patterns bind
module _ (f : Option Tree → List Tree) (same : (o : Option Tree) → f (option_map plain o) ≡ map plain (f o)) where
  item_plain : (t : Tree) → names_of_item f (plain t) ≡ map plain (names_of_item f t)
  item_plain t =
      (λ i. cond (is_kind kinds.Named (kind_plain t i)) (f (last_plain is_pattern_kind (Some t) i))
      (cond (is_kind kinds.Spread (kind_plain t i)) (option_to_list (first_plain (is_kind kinds.Ident) (Some t) i)) (same (Some t) i)))
      ∙ (λ i. cond (is_kind kinds.Named (node_kind t)) (same (last_child is_pattern_kind (Some t)) i)
      (cond (is_kind kinds.Spread (node_kind t)) (option_list_plain (first_child (is_kind kinds.Ident) (Some t)) i) (map plain (f (Some t)))))
      ∙ ap (λ (us : List Tree). cond (is_kind kinds.Named (node_kind t)) (map plain (f (last_child is_pattern_kind (Some t)))) us)
      (cond_lists (is_kind kinds.Spread (node_kind t)) (option_to_list (first_child (is_kind kinds.Ident) (Some t))) (f (Some t)))
      ∙ cond_lists (is_kind kinds.Named (node_kind t)) (f (last_child is_pattern_kind (Some t)))
      (cond (is_kind kinds.Spread (node_kind t)) (option_to_list (first_child (is_kind kinds.Ident) (Some t))) (f (Some t)))

  parts_plain : (ts : List Tree) → flat_map (names_of_item f) (map plain ts) ≡ map plain (flat_map (names_of_item f) ts)
  parts_plain [] = refl
  parts_plain (t ∷ ts) = (λ i. item_plain t i ++ parts_plain ts i) ∙ sym (map-append plain (names_of_item f t) (flat_map (names_of_item f) ts))

  pattern_plain : (o : Option Tree) → names_of_pattern f (option_map plain o) ≡ map plain (names_of_pattern f o)
  pattern_plain None = refl
  pattern_plain (Some t) =
      let parts = flat_map (names_of_item f) (all_children is_destructuring_item_kind (Some t)) in
      let group = f (first_child is_pattern_kind (Some t)) in
      (λ i. cond (is_kind kinds.Ident (kind_plain t i)) (plain t ∷ [])
      (cond (is_kind kinds.Parenthesized (kind_plain t i)) (f (first_plain is_pattern_kind (Some t) i))
      (cond (is_kind kinds.Destructuring (kind_plain t i)) (flat_map (names_of_item f) (all_plain is_destructuring_item_kind (Some t) i)) [])))
      ∙ (λ i. cond (is_kind kinds.Ident (node_kind t)) (plain t ∷ [])
      (cond (is_kind kinds.Parenthesized (node_kind t)) (same (first_child is_pattern_kind (Some t)) i)
      (cond (is_kind kinds.Destructuring (node_kind t)) (parts_plain (all_children is_destructuring_item_kind (Some t)) i) [])))
      ∙ ap (λ (us : List Tree). cond (is_kind kinds.Ident (node_kind t)) (plain t ∷ []) (cond (is_kind kinds.Parenthesized (node_kind t)) (map plain group) us))
      (cond_lists (is_kind kinds.Destructuring (node_kind t)) parts [])
      ∙ ap (λ (us : List Tree). cond (is_kind kinds.Ident (node_kind t)) (plain t ∷ []) us)
      (cond_lists (is_kind kinds.Parenthesized (node_kind t)) group (cond (is_kind kinds.Destructuring (node_kind t)) parts []))
      ∙ cond_lists (is_kind kinds.Ident (node_kind t)) (t ∷ [])
      (cond (is_kind kinds.Parenthesized (node_kind t)) group (cond (is_kind kinds.Destructuring (node_kind t)) parts []))

within_plain : (d : ℕ) (o : Option Tree) → names_within d (option_map plain o) ≡ map plain (names_within d o)
within_plain zero o = refl
within_plain (suc d) o = pattern_plain (names_within d) (within_plain d) o

count_in_plain : (o : Option Tree) → count_in (option_map plain o) ≡ count_in o
count_in_plain None = refl
count_in_plain (Some t) = count_plain t

names_plain : (o : Option Tree) → names_bound (option_map plain o) ≡ map plain (names_bound o)
unfolding names_bound
names_plain o = ap (λ (d : ℕ). names_within d (option_map plain o)) (count_in_plain o) ∙ within_plain (count_in o) o

-- of lists and nodes that are alike
exprs_alike : (ts us : List Tree) → AreAlike ts us → AreAlike (markup_exprs ts) (markup_exprs us)
exprs_alike ts us same = sym (markup_plain ts) ∙ ap markup_exprs same ∙ markup_plain us

items_alike : (ts us : List Tree) → AreAlike ts us → AreAlike (content_items ts) (content_items us)
items_alike ts us same = sym (content_plain ts) ∙ ap content_items same ∙ content_plain us

names_alike : (a b : Option Tree) → IsAlike a b → AreAlike (names_bound a) (names_bound b)
names_alike a b same = sym (names_plain a) ∙ ap names_bound same ∙ names_plain b

bound_by_items_alike : (ts us : List Tree) → AreAlike ts us
    → AreAlike (flat_map (names_of_item names_bound) ts) (flat_map (names_of_item names_bound) us)
bound_by_items_alike ts us same =
    sym (parts_plain names_bound names_plain ts)
    ∙ ap (flat_map (names_of_item names_bound)) same
    ∙ parts_plain names_bound names_plain us

-- so of nodes that are alike they read what is alike
pub reads_alike : (a b : Option Tree) → IsAlike a b → ReadsAlike a b
reads_alike a b e =
    let children : map plain (children_in a) ≡ map plain (children_in b) = sym (children_plain a) ∙ ap children_in e ∙ children_plain b in
    record {
      text = sym (text_in_plain a) ∙ ap text_in e ∙ text_in_plain b;
      kind = λ blank. sym (kind_or_plain blank a) ∙ ap (kind_or blank) e ∙ kind_or_plain blank b;
      children = children;
      first = λ c. sym (first_plain c a) ∙ ap (first_child c) e ∙ first_plain c b;
      last = λ c. sym (last_plain c a) ∙ ap (last_child c) e ∙ last_plain c b;
      all = λ c. sym (all_plain c a) ∙ ap (all_children c) e ∙ all_plain c b;
      behind = λ c. sym (behind_first_plain c (children_in a)) ∙ ap (behind_first c) children ∙ behind_first_plain c (children_in b);
      before = λ c. sym (before_last_plain c (children_in a)) ∙ ap (before_last c) children ∙ before_last_plain c (children_in b);
      exprs = exprs_alike _ _ children;
      items = items_alike _ _ children;
      unary = sym (unary_plain (children_in a)) ∙ ap unary_operator_in children ∙ unary_plain (children_in b);
      binary = sym (binary_plain (children_in a)) ∙ ap binary_operator_in children ∙ binary_plain (children_in b);
      names = names_alike a b e;
      second = second_picked a b e;
      third = third_picked a b e;
      next = next_picked a b e;
      nearest_behind = picked_behind a b e;
      nearest_before = picked_before a b e;
      kinds = kinds_alike _ _ children;
      texts = texts_alike _ _ children;
      lengths = lengths_alike _ _ children;
      args = args_alike _ _ (items_alike _ _ children);
      block = block_alike _ _ children;
      deparenthesized = deparenthesized_alike _ _ children;
      sign = text_alike _ _ (first_of_alike _ _ children);
      significant = last_before_end_picked a b e;
      comma = λ k. is_of_kind_alike _ _ (last_before_end_picked a b e) k;
      closure = name_picked a b e;
      value = value_picked a b e;
      bound_kind = pattern_kind_picked a b e;
      bound_closure = name_picked _ _ (first_picked a b e is_pattern_kind);
      bound_in_group = λ c. names_alike _ _ (first_picked a b e c);
      bound_by_items = bound_by_items_alike _ _ (all_picked a b e is_destructuring_item_kind);
      depth = λ c. depth_alike _ _ (first_picked a b e c);
      number = λ c n. first_number_alike _ _ (all_picked a b e c) n;
      target = λ c. ap (without_leading (λ b. b == 64)) (text_alike _ _ (first_picked a b e c));
      imported_kind = kind_alike _ _ (first_picked a b e is_expr_kind) kinds.None;
      imported_text = text_alike _ _ (first_picked a b e is_expr_kind);
      imported_field = λ c. text_alike _ _ (last_picked _ _ (first_picked a b e is_expr_kind) c);
      in_first = λ c d. last_picked _ _ (first_picked a b e c) d;
      fenced = fenced_picked a b e;
      lang = lang_picked a b e;
      trimmed = trimmed_alike _ _ children;
    }
