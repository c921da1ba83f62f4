use Rattle.std.proofs.Common.{◌≡◌, ◌+◌, ◌<◌, ◌≤◌, ◌∷◌, [], ◌++◌, true, false, length, take, drop, set, ap, sym, ◌∙◌, arith, length-append}
use Rattle.std.proofs.lemmas.List.{append_assoc, length-take-le}
use Rattle.typst_lines.specs.LineStarts.{begins_line, starts_between}
use Rattle.typst_lines.specs.Parts.{whole}
use Rattle.typst_lines.proofs.Picked.{picked-longer, picked-more_yes, picked-more_no}
use Rattle.typst_lines.proofs.Pieces.{written_next}
use Rattle.typst_lines.proofs.parts.Parts.write_starts.Goals as goal
use Rattle.typst_lines.proofs.parts.Parts.write_starts.Goals.{then-begins_line, else-begins_line}

pub bounds-starts-count : goal.bounds-starts-count
bounds-starts-count c =
    let p = begins_line c.args.self.now.ends (whole c.args.self.now) in
    let e : begins_line c.args.self.now.ends (whole c.args.self.now) c.loop-at.at ≡ true = sym c.begins_line.ensures ∙ c.if-begins_line.true in
    let longer = picked-longer (begins_line c.args.self.now.ends (whole c.args.self.now)) c.args.from c.loop-at.at c.args.to (omega arith) (omega arith) e in
    omega arith

pub loop-at-preserved : goal.loop-at-preserved
loop-at-preserved c =
    let text = whole c.args.self.now in
    let old = c.args.starts.now in
    let front = take c.args.first c.args.starts.now in
    let low : c.args.from ≤ c.loop-at.at = omega arith in
    elim c.if-begins_line.branch [
      | then-begins_line w ↦
          let e : begins_line c.args.self.now.ends text c.loop-at.at ≡ true = sym c.begins_line.ensures ∙ w.if-begins_line.true in
          let more = picked-more_yes (begins_line c.args.self.now.ends text) c.args.from c.loop-at.at low e in
          let longer = picked-longer (begins_line c.args.self.now.ends text) c.args.from c.loop-at.at c.args.to low (omega arith) e in
          let here : c.args.first ≤ length old = omega arith in
          let long : length (front ++ starts_between c.args.self.now.ends text c.args.from c.loop-at.at) ≡ c.loop-at.count = omega (arith, length-append front (starts_between c.args.self.now.ends text c.args.from c.loop-at.at), length-take-le c.args.first old here, c.loop-at.invariant.counted) in
          let less : c.loop-at.count < length old = omega (arith, c.loop-at.invariant.counted) in
          let counts = ap (λ l. length l) more in
          record {
            counted = omega (arith, w.count-is, c.loop-at.invariant.counted, counts, length-append (starts_between c.args.self.now.ends text c.args.from c.loop-at.at) (c.loop-at.at ∷ []));
            written = rw w.count-is (w.starts-is
                ∙ ap (λ l. set l c.loop-at.count c.loop-at.at) c.loop-at.invariant.written
                ∙ written_next (front ++ starts_between c.args.self.now.ends text c.args.from c.loop-at.at) old c.loop-at.count c.loop-at.at long less
                ∙ ap (λ l. l ++ drop (c.loop-at.count + 1) old) (append_assoc front (starts_between c.args.self.now.ends text c.args.from c.loop-at.at) (c.loop-at.at ∷ []) ∙ ap (λ l. front ++ l) (sym more)));
          }
      | else-begins_line w ↦
          let e : begins_line c.args.self.now.ends text c.loop-at.at ≡ false = sym c.begins_line.ensures ∙ w.if-begins_line.false in
          let same = picked-more_no (begins_line c.args.self.now.ends text) c.args.from c.loop-at.at low e in
          record {
            counted = w.count-is ∙ c.loop-at.invariant.counted ∙ ap (λ l. c.args.first + length l) (sym same);
            written = rw w.count-is (w.starts-is ∙ c.loop-at.invariant.written ∙ ap (λ l. (front ++ l) ++ drop c.loop-at.count old) (sym same));
          }
    ]
