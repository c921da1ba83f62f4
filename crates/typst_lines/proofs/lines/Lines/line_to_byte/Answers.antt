use Rattle.std.proofs.Common.{ℕ, ◌<◌, ◌≤◌, ◌≡◌, length, Option, Some, ap, subst, sym, ◌∙◌, slice_get, arith}
use Rattle.std.specs.Option.{SomeIff}
use Rattle.std.proofs.lemmas.Option.{slice_get_past, slice_get-get_or}
use Rattle.typst_lines.specs.LineTable.{LineTable}
use Rattle.typst_lines.specs.TextLines.{lines, bytes_before}
use Rattle.typst_lines.proofs.LinesOf.{found_start}
use Rattle.typst_lines.proofs.Seamed.{length-seamed}
use Rattle.typst_lines.proofs.lines.Lines.line_to_byte.Goals as goal

pub returns-then-line-len-clause-before : goal.returns-then-line-len-clause-before
returns-then-line-len-clause-before c = λ text are.
    let line = c.args.line in
    let starts = c.args.self.now.starts in
    let len = length-seamed c.self.inside.seam c.self.inside.end c.self.inside.kept.items c.self.invariant in
    let inside : c.args.line < length c.args.self.now.starts = omega (arith, c.if-line-len.true, c.len.ensures, len, ap (λ (v : LineTable). length v.starts) c.self.view_is) in
    let is : slice_get c.args.self.now.starts c.args.line ≡ Some c.start.result = slice_get-get_or starts line 0 inside ∙ ap Some (sym c.start.ensures) in
    subst (λ (o : Option ℕ). SomeIff o (c.args.line < length (lines c.args.self.now.ends text)) (bytes_before c.args.self.now.ends text c.args.line)) is (found_start c.args.self.now.ends starts text line are.starts)

past : (c : goal.Else-line-len) → length c.args.self.now.starts ≤ c.args.line
past c =
    let len = length-seamed c.self.inside.seam c.self.inside.end c.self.inside.kept.items c.self.invariant in
    omega (arith, c.if-line-len.false, c.len.ensures, len, ap (λ (v : LineTable). length v.starts) c.self.view_is)

pub returns-else-line-len-clause-start : goal.returns-else-line-len-clause-start
returns-else-line-len-clause-start c = sym (slice_get_past c.args.self.now.starts c.args.line (past c))

pub returns-else-line-len-clause-before : goal.returns-else-line-len-clause-before
returns-else-line-len-clause-before c = λ text are.
    subst (λ (o : Option ℕ). SomeIff o (c.args.line < length (lines c.args.self.now.ends text)) (bytes_before c.args.self.now.ends text c.args.line)) (slice_get_past c.args.self.now.starts c.args.line (past c)) (found_start c.args.self.now.ends c.args.self.now.starts text c.args.line are.starts)
