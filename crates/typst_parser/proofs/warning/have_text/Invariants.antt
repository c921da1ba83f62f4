use Rattle.std.proofs.Common.{◌≡◌, drop}
use Rattle.std.specs.List.{list_any}
use Rattle.typst_parser.specs.Warnings.{holds_text}
use Rattle.typst_parser.proofs.warning.have_text.Given as goal

abbrev pub invariant-loop-child : goal.invariant-loop-child
invariant-loop-child l = list_any holds_text (drop l.child-index l.children) ≡ list_any holds_text l.children
