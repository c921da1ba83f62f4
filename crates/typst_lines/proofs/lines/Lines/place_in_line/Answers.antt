use Rattle.std.proofs.Common.{◌≡◌, ◌≢◌, ◌+◌, ◌≤◌, length, ap, sym, ◌∙◌, arith, inl, inr, ◌-◌}
use Rattle.std.proofs.lemmas.Bool.Decides.{nat_tests}
use Rattle.typst_lines.specs.LineStarts.{line_starts}
use Rattle.typst_lines.proofs.Places.{IsBefore, place_of, none_of, none_but_end_of}
use Rattle.typst_lines.proofs.lines.Lines.place_in_line.Goals as goal
use Rattle.typst_lines.proofs.lines.Lines.place_in_line.Goals.{then-passed-range, else-passed-range}

pub returns-in-None : goal.returns-in-None
returns-in-None c =
    none_of c.args.self.now.ends c.args.unit c.args.text.now c.as_bytes.result.now c.args.line c.args.column c.bytes_of-range.result c.as_bytes.ensures.value c.bytes_of-range.ensures.range c.requires.there c.in-None.ensures

pub returns-then-line-count : goal.returns-then-line-count
returns-then-line-count c =
    let lines = ap (λ l. length l) c.requires.lines.starts in
    let starts = ap (λ r. r.start) c.bytes_of-range.ensures.range in
    let ends = ap (λ r. r.end) c.bytes_of-range.ensures.range in
    let before : IsBefore c.args.self.now.ends c.args.text.now c.args.line c.in-Some.passed = elim c.if-passed-range.branch [
      | then-passed-range w ↦ inl (omega (arith, w.if-passed-range.true, starts, ends))
      | else-passed-range w ↦
          let last : c.args.line + 1 ≡ c.len_lines-count.result = grind (arith, nat_tests) in
          inr (omega (arith, last, c.len_lines-count.ensures.starts, lines))
    ] in
    place_of c.args.self.now.ends c.args.unit c.args.text.now c.as_bytes.result.now c.args.line c.args.column c.bytes_of-range.result c.as_bytes.ensures.value c.bytes_of-range.ensures.range c.requires.there c.in-Some.passed before c.in-Some.ensures

pub returns-else-line-count : goal.returns-else-line-count
returns-else-line-count c =
    let lines = ap (λ l. length l) c.requires.lines.starts in
    let end : c.bytes_of-range.result.end - c.bytes_of-range.result.start ≤ c.in-Some.passed = elim c.if-passed-range.branch [
      | then-passed-range w ↦ grind (arith, nat_tests)
      | else-passed-range w ↦ omega (arith, w.if-passed-range.false)
    ] in
    let more : c.args.line + 1 ≢ length (line_starts c.args.self.now.ends c.args.text.now) = elim c.if-passed-range.branch [
      | then-passed-range w ↦ λ e. grind (arith, nat_tests)
      | else-passed-range w ↦
          let other : c.args.line + 1 ≢ c.len_lines-count.result = grind (arith, nat_tests) in
          λ e. other (e ∙ sym lines ∙ sym c.len_lines-count.ensures.starts)
    ] in
    none_but_end_of c.args.self.now.ends c.args.unit c.args.text.now c.as_bytes.result.now c.args.line c.args.column c.bytes_of-range.result c.as_bytes.ensures.value c.bytes_of-range.ensures.range c.requires.there c.in-Some.passed end more c.in-Some.ensures
