use Rattle.std.proofs.Common.{◌≡◌, ◌∙◌, List, ◌∷◌, Option, Some, None, unwrap_or, refl, ap, rules, tests}
use Rattle.typst_ast.proofs.Mapped.{mapped_in_slice}
use Rattle.typst_ast.specs.Operators.{unary_operator_in}
use Rattle.typst_atoms.specs.UnaryOperators.{unary_operator_of}
use Rattle.typst_atoms.specs.declared.operators.UnOp.{UnOp}
use Rattle.typst_atoms.specs.declared.operators.UnOp.TheVariants.{Pos}
use Rattle.typst_node.specs.Children.{children_in}
use Rattle.typst_node.specs.Tree.{Tree}
use Rattle.typst_node.specs.Views.{node_kind}
use Rattle.typst_ast.proofs.operations.Unary.op.Goals as goal

abbrev IsOperatorIn : List Tree → Option UnOp → Type 0
IsOperatorIn ts r = unwrap_or r Pos ≡ unary_operator_in ts

miss : (t : Tree) (ts : List Tree) (r : Option UnOp) → None ≡ unary_operator_of (node_kind t) → IsOperatorIn ts r → IsOperatorIn (t ∷ ts) r
miss t ts r h e = e ∙ ap (λ o. unwrap_or o (unary_operator_in ts)) h

hit : (t : Tree) (op : UnOp) (ts : List Tree) → Some op ≡ unary_operator_of (node_kind t) → IsOperatorIn (t ∷ ts) (Some op)
hit t op ts h = ap (λ o. unwrap_or o (unary_operator_in ts)) h

pub returns : goal.returns
returns c =
    c.unwrap_or.ensures
    ∙ mapped_in_slice _ _ (λ t r. r ≡ unary_operator_of (node_kind t)) (λ x r q k. search (rules, tests)) IsOperatorIn refl miss hit
    _ _ _ _ c.iter.ensures.rest c.find_map.ensures.ran c.find_map.ensures.runs
    ∙ ap unary_operator_in c.children.ensures
    ∙ ap (λ node. unary_operator_in (children_in node)) c.node.ensures
