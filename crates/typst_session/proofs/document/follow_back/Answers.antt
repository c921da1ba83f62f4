use Rattle.std.proofs.Common.{◌≡◌, ◌≤◌, ◌-◌, ◌++◌, ℕ, List, length, take, drop, sym, subst, ap, ◌∙◌, arith}
use Rattle.std.specs.List.{slice_range}
use Rattle.std.proofs.lemmas.Bool.{false≢true}
use Rattle.typst_lines.specs.LineStarts.{line_starts}
use Rattle.typst_lines.specs.LineTable.{AreLines}
use Rattle.typst_lines.proofs.Pieces.{in_pieces}
use Rattle.typst_session.proofs.document.follow_back.Goals as goal

joined : (text front gone back : List ℕ) (i j : ℕ) → i ≤ j → front ≡ slice_range text 0 i → gone ≡ slice_range text i j → back ≡ drop j text → front ++ (gone ++ back) ≡ text
joined text front gone back i j le f g b =
    let all : i - 0 ≡ i = omega arith in
    (λ k. f k ++ (g k ++ b k)) ∙ ap (λ (n : ℕ). take n text ++ (slice_range text i j ++ drop j text)) all ∙ in_pieces text i j le

pub unreachable-requires : goal.unreachable-requires
unreachable-requires c =
    let whole = joined c.args.text.now c.range-front.result.now c.range-gone.result.now c.range_from-back.result.now c.args.range.start c.args.range.end c.requires.fits.ordered c.range-front.ensures.value c.range-gone.ensures.value c.range_from-back.ensures.value in
    false≢true (c.in-Err.ensures.succeeds (subst (λ (t : List ℕ). length (line_starts c.args.lines.now.ends t) ≤ c.args.lines.now.room) (sym whole) c.requires.room))

pub returns-clause-lines : goal.returns-clause-lines
returns-clause-lines c =
    subst (AreLines c.replace.new.self) (joined c.args.text.now c.range-front.result.now c.range-gone.result.now c.range_from-back.result.now c.args.range.start c.args.range.end c.requires.fits.ordered c.range-front.ensures.value c.range-gone.ensures.value c.range_from-back.ensures.value) c.in-Ok.ensures.ok
