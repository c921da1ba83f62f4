use Rattle.std.proofs.Common.{◌≡◌, ◌++◌, ◌+◌, ◌∷◌, [], arith, ap, append-nil, Bor, drop, IfOk, List, map, Option, Some, subst, sym, ◌∙◌}
use Rattle.std.specs.List.{flat_map}
use Rattle.std.specs.Option.{option_copied}
use Rattle.typst_atoms.proofs.BoundNames.{count_children, count_first_child, count_last_child, items_step_behind, names_of_group, names_of_ident, names_of_none, names_of_parts, names_otherwise}
use Rattle.typst_atoms.specs.Bindings.{count_in, names_bound, names_of_item}
use Rattle.typst_atoms.specs.Classes.{is_destructuring_item_kind, is_pattern_kind}
use Rattle.typst_node.specs.Children.{all_in}
use Rattle.typst_atoms.specs.View.{atom_node}
use Rattle.typst_node.proofs.Trees.{count_at, drop_next}
use Rattle.typst_node.specs.Count.{count, count_of_all}
use Rattle.typst_node.specs.Tree.{Tree}
use Rattle.typst_atoms.proofs.bindings.+bindings.Goals as goal

-- each call goes to fewer nodes
pub push_item-push_pattern-requires : goal.push_item-push_pattern-requires
push_item-push_pattern-requires t c =
    (omega (arith, ap count_in c.last_pattern.ensures, count_last_child is_pattern_kind c.args.item.now, c.decreases), tt)

pub push_pattern-push_pattern-requires : goal.push_pattern-push_pattern-requires
push_pattern-push_pattern-requires t c =
    let here = ap (λ (o : Option (Bor Tree)). count_in (option_copied o)) c.in-Some.is in
    (omega (arith, here, ap count_in c.first_pattern.ensures, count_first_child is_pattern_kind c.in-Some.node.now, c.decreases), tt)

pub push_pattern-push_items-requires : goal.push_pattern-push_items-requires
push_pattern-push_items-requires t c =
    let here = ap (λ (o : Option (Bor Tree)). count_in (option_copied o)) c.in-Some.is in
    (omega (arith, here, ap count_of_all c.child_slice.ensures.children, count_children c.in-Some.node.now, c.decreases), tt)

pub push_items-push_item-requires : goal.push_items-push_item-requires
push_items-push_item-requires t c =
    (omega (arith, c.decreases, count_at c.args.nodes.now c.loop-node.node-index c.node-item.result (omega arith), ap count c.node-item.is), tt)

-- the names that are added are those of the rule
pub push_pattern-returns-in-Ident : goal.push_pattern-returns-in-Ident
push_pattern-returns-in-Ident t c =
    let P : List (Option Tree) → Type 0 = λ ns. IfOk c.push_name.result (λ _. map atom_node c.push_name.new.names.items ≡ map atom_node c.args.names.now.items ++ ns) in
    let own = names_of_ident c.in-Some.node.now (sym c.kind.ensures.kind ∙ c.in-Ident.is) in
    subst P (ap (λ (o : Option Tree). o ∷ []) c.of_kind.ensures ∙ sym (ap (map Some) (ap names_bound (ap option_copied c.in-Some.is) ∙ own))) c.push_name.ensures

pub push_pattern-returns-in-Parenthesized : goal.push_pattern-returns-in-Parenthesized
push_pattern-returns-in-Parenthesized t c =
    let P : List (Option Tree) → Type 0 = λ ns. IfOk c.push_pattern.result (λ _. map atom_node c.push_pattern.new.names.items ≡ map atom_node c.args.names.now.items ++ ns) in
    let group = names_of_group c.in-Some.node.now (sym c.kind.ensures.kind ∙ c.in-Parenthesized.is) in
    subst P (ap (λ (o : Option Tree). map Some (names_bound o)) c.first_pattern.ensures ∙ sym (ap (map Some) (ap names_bound (ap option_copied c.in-Some.is) ∙ group))) c.push_pattern.ensures

pub push_pattern-returns-in-Destructuring : goal.push_pattern-returns-in-Destructuring
push_pattern-returns-in-Destructuring t c =
    let P : List (Option Tree) → Type 0 = λ ns. IfOk c.push_items.result (λ _. map atom_node c.push_items.new.names.items ≡ map atom_node c.args.names.now.items ++ ns) in
    let parts = names_of_parts c.in-Some.node.now (sym c.kind.ensures.kind ∙ c.in-Destructuring.is) in
    subst P
    (ap (λ (ts : List Tree). map Some (flat_map (names_of_item names_bound) (all_in is_destructuring_item_kind ts))) c.child_slice.ensures.children
    ∙ sym (ap (map Some) (ap names_bound (ap option_copied c.in-Some.is) ∙ parts)))
    c.push_items.ensures

pub push_pattern-returns-in_default : goal.push_pattern-returns-in_default
push_pattern-returns-in_default t c =
    let nothing = names_otherwise c.in-Some.node.now c.kind.result c.kind.ensures.kind c.in_default.not-Ident c.in_default.not-Parenthesized c.in_default.not-Destructuring in
    sym (append-nil (map atom_node c.args.names.now.items))
    ∙ ap (λ (ns : List (Option Tree)). map atom_node c.args.names.now.items ++ ns) (sym (ap (map Some) (ap names_bound (ap option_copied c.in-Some.is) ∙ nothing)))

pub push_pattern-returns-in-None : goal.push_pattern-returns-in-None
push_pattern-returns-in-None t c =
    sym (append-nil (map atom_node c.args.names.now.items))
    ∙ ap (λ (ns : List (Option Tree)). map atom_node c.args.names.now.items ++ ns) (sym (ap (map Some) (ap names_bound (ap option_copied c.in-None.is) ∙ names_of_none)))

pub push_items-loop-node-preserved : goal.push_items-loop-node-preserved
push_items-loop-node-preserved t c =
    items_step_behind (map atom_node c.loop-node.names.items) (drop c.loop-node.node-index c.args.nodes.now) (drop (c.loop-node.node-index + 1) c.args.nodes.now) c.node-item.result _ _
    (drop_next c.args.nodes.now c.loop-node.node-index c.node-item.result (omega arith) ∙ ap (λ (u : Tree). u ∷ drop (c.loop-node.node-index + 1) c.args.nodes.now) (sym c.node-item.is))
    c.in_ok-push_item.ensures
    c.loop-node.invariant
