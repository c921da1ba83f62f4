use Rattle.std.proofs.Common.{ap, option_map, Some, sym, ◌∙◌}
use Rattle.typst_ast.proofs.PlainReads.{reads_alike}
use Rattle.typst_node.specs.Plain.{plain}
use Rattle.typst_node.specs.Tree.{Tree}
use Rattle.typst_ast.proofs.alike.is_alike.Goals as goal

pub returns-in-Some-to_untyped-clause-reads : goal.returns-in-Some-to_untyped-clause-reads
returns-in-Some-to_untyped-clause-reads g c =
    λ h.
    reads_alike _ _
    (sym (ap (option_map plain) c.in-Some.ensures)
    ∙ ap (λ (t : Tree). Some t) (c.spanless_eq.ensures.0 h)
    ∙ ap (option_map plain) c.in-Some-to_untyped.ensures)
