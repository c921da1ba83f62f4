use Rattle.std.proofs.Common.{ℕ, ◌≤◌, List, length, sym, ◌∙◌, subst}
use Rattle.typst_lines.specs.LineStarts.{line_starts}
use Rattle.typst_lines.specs.LineTable.{AreLines}
use Rattle.typst_lines.proofs.Pieces.{in_parts}
use Rattle.typst_lines.proofs.lines.Lines.edit.Goals as goal

pub exchange-requires-clause-lines : goal.exchange-requires-clause-lines
exchange-requires-clause-lines c =
    subst (AreLines c.args.self.now) (sym c.as_bytes-bytes.ensures.value ∙ sym (in_parts c.as_bytes-bytes.result.now c.args.range.start c.args.range.end c.requires.order)) c.requires.lines

pub returns-clause-back : goal.returns-clause-back
returns-clause-back c =
    subst (λ (t : List ℕ). length (line_starts c.args.self.now.ends t) ≤ c.exchange.new.self.room) (in_parts c.as_bytes-bytes.result.now c.args.range.start c.args.range.end c.requires.order ∙ c.as_bytes-bytes.ensures.value) c.exchange.ensures.back
