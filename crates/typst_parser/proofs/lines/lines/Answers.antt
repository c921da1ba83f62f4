use Rattle.std.proofs.Common.{rules, ◌≡◌, ◌+◌, ◌∙◌, ◌++◌, ◌∷◌, [], ap, length, refl, arith}
use Rattle.std.proofs.lemmas.List.{length-drop, take_rest}
use Rattle.typst_parser.specs.Lines.{newline_len}
use Rattle.typst_parser.proofs.RawLines.{lines_next}
use Rattle.typst_parser.proofs.lines.lines.Goals as goal

pub loop-all-preserved : goal.loop-all-preserved
loop-all-preserved c =
    let rest = c.loop-all.rest.now in
    let len = c.line_len-len.result in
    let next = c.newline_len-next.result in
    let next_is = c.newline_len-next.ensures.len ∙ ap newline_len (take_rest rest len) in
    let more = take_rest rest (len + next) in
    let new : c.push.new.self.items ≡ c.loop-all.all.items ++ c.line_at.result ∷ [] = search rules in
    record {
      fits = omega (arith, ap length more, length-drop (len + next) rest, c.loop-all.invariant.fits, c.newline_len-next.ensures.within, ap length (take_rest rest len), length-drop len rest, c.line_len-len.ensures.within);
      so_far = lines_next c.loop-all.from len next _ rest _ c.loop-all.all.items c.push.new.self.items c.line_at.result _ c.line_len-len.ensures.len next_is (omega arith)
          c.line_at.ensures new refl more c.loop-all.invariant.so_far;
    }
