use Rattle.std.proofs.Common.{◌≡◌, ◌+◌, length, sym, ap, subst, ◌∙◌}
use Rattle.typst_parser.specs.Events.{CanBeCut}
use Rattle.typst_parser.specs.FirstBlock.{at_end}
use Rattle.typst_parser.specs.Stack.{Stack}
use Rattle.typst_parser.specs.Steps.{steps}
use Rattle.typst_parser.specs.View.{stack_of, table_of}
use Rattle.typst_parser.proofs.FirstBlocks.{block_cut}
use Rattle.typst_parser.proofs.block.first_block.Goals as goal

pub grow-requires : goal.grow-requires
grow-requires c =
    let t = table_of c.args.table.now in
    let text = c.args.text.now in
    let begun : Stack = stack_of c.in_ok-stack.stack in
    let end : stack_of c.steps.new.self ≡ at_end t text =
    c.in_ok-steps.ensures ∙ ap (λ bs. steps (length bs + 1) t bs begun) c.as_bytes.ensures.value ∙ ap (λ (s : Stack). steps (length text + 1) t text s) c.in_ok-stack.ensures in
    subst (CanBeCut text) (sym c.deref.ensures.value) (subst (λ (s : Stack). CanBeCut text s.events) (sym end) (block_cut t text c.utf8.text))
