use Rattle.std.proofs.Common.{◌+◌, ◌∷◌, ◌∙◌, ap, arith, drop, sym}
use Rattle.typst_atoms.proofs.ItemLists.{step_to_arg, step_to_semicolon, step_past}
use Rattle.typst_node.proofs.Trees.{drop_next}
use Rattle.typst_node.specs.Tree.{Tree}
use Rattle.typst_atoms.proofs.math_items.ends_in_semicolon.Goals as goal

pub returns-then-is_arg_node : goal.returns-then-is_arg_node
returns-then-is_arg_node c =
    step_to_arg c.loop-node.behind_hash _ _ _ _ c.node-item.result
    (drop_next c.args.nodes.now c.loop-node.node-index c.node-item.result (omega arith) ∙ ap (λ (u : Tree). u ∷ drop (c.loop-node.node-index + 1) c.args.nodes.now) (sym c.node-item.is))
    c.is_arg_node.ensures c.if-is_arg_node.true c.loop-node.invariant

pub returns-then-is_item_semicolon : goal.returns-then-is_item_semicolon
returns-then-is_item_semicolon c =
    step_to_semicolon c.loop-node.behind_hash _ _ _ _ _ c.node-item.result
    (drop_next c.args.nodes.now c.loop-node.node-index c.node-item.result (omega arith) ∙ ap (λ (u : Tree). u ∷ drop (c.loop-node.node-index + 1) c.args.nodes.now) (sym c.node-item.is))
    c.is_arg_node.ensures c.if-is_arg_node.false c.is_item_semicolon.ensures c.if-is_item_semicolon.true c.loop-node.invariant

pub loop-node-preserved : goal.loop-node-preserved
loop-node-preserved c =
    step_past c.loop-node.behind_hash _ _ _ _ _ _ c.node-item.result
    (drop_next c.args.nodes.now c.loop-node.node-index c.node-item.result (omega arith) ∙ ap (λ (u : Tree). u ∷ drop (c.loop-node.node-index + 1) c.args.nodes.now) (sym c.node-item.is))
    c.is_arg_node.ensures c.if-is_arg_node.false c.is_item_semicolon.ensures c.if-is_item_semicolon.false
    c.is_hash-behind_hash.ensures c.loop-node.invariant
