-- The nodes that accessors of bindings, rules and control flow answer.
use Rattle.std.specs.Prelude.{cond, Option}
use Rattle.typst_accessors.specs.declared.node_accessor.ControlAccessor.{ControlAccessor}
use Rattle.typst_accessors.specs.declared.node_accessor.ControlAccessor.TheVariants.{LetBindingKind, LetBindingInit, DestructAssignmentPattern, DestructAssignmentValue, SetRuleTarget, SetRuleArgs, SetRuleCondition, ShowRuleSelector, ShowRuleTransform, ContextualBody, ConditionalCondition, ConditionalIfBody, ConditionalElseBody, WhileLoopCondition, WhileLoopBody, ForLoopPattern, ForLoopIterable, ForLoopBody, FuncReturnBody}
use Rattle.typst_ast.specs.Closures.{closure_name}
use Rattle.typst_ast.specs.LetBindings.{let_pattern, let_pattern_kind, let_value}
use Rattle.typst_ast.specs.Lists.{before_last, third_of}
use Rattle.typst_atoms.specs.Classes.{is_pattern_kind}
use Rattle.typst_atoms.specs.ExprKinds.{is_expr_kind}
use Rattle.typst_atoms.specs.Kinds.{is_kind}
use Rattle.typst_base.specs.declared.kind.SyntaxKind.TheVariants as kinds
use Rattle.typst_node.specs.Children.{all_children, all_in, behind_first, children_in, first_child, first_of, last_child, last_of, second_child}
use Rattle.typst_node.specs.Tree.{Tree}

-- the target of a binding: if the pattern is a closure, its name, else the pattern
abbrev pub let_target : Option Tree → Option Tree
let_target binding =
    cond (is_kind kinds.Closure (let_pattern_kind binding)) (closure_name (let_pattern binding)) (let_pattern binding)

-- the node that an accessor answers of a node of its view, if the tree has it
abbrev pub control_node : ControlAccessor → Option Tree → Option Tree
control_node LetBindingKind node = let_target node
control_node LetBindingInit node = let_value node
control_node DestructAssignmentPattern node = first_child is_pattern_kind node
control_node DestructAssignmentValue node = last_child is_expr_kind node
control_node SetRuleTarget node = first_child is_expr_kind node
control_node SetRuleArgs node = last_child (is_kind kinds.Args) node
control_node SetRuleCondition node = first_of (all_in is_expr_kind (behind_first (is_kind kinds.If) (children_in node)))
control_node ShowRuleSelector node = last_of (all_in is_expr_kind (before_last (is_kind kinds.Colon) (children_in node)))
control_node ShowRuleTransform node = last_child is_expr_kind node
control_node ContextualBody node = first_child is_expr_kind node
control_node ConditionalCondition node = first_child is_expr_kind node
control_node ConditionalIfBody node = second_child is_expr_kind node
control_node ConditionalElseBody node = third_of (all_children is_expr_kind node)
control_node WhileLoopCondition node = first_child is_expr_kind node
control_node WhileLoopBody node = last_child is_expr_kind node
control_node ForLoopPattern node = first_child is_pattern_kind node
control_node ForLoopIterable node = first_of (all_in is_expr_kind (behind_first (is_kind kinds.In) (children_in node)))
control_node ForLoopBody node = last_child is_expr_kind node
control_node FuncReturnBody node = last_child is_expr_kind node
