use Rattle.std.proofs.Common.{◌≡◌, ◌+◌, ◌-◌, ◌≤◌, length, take, drop, ap, sym, ◌∙◌, arith, rules, vec_len, ◌++◌, length-append}
use Rattle.std.proofs.lemmas.Bool.{false≢true}
use Rattle.std.proofs.lemmas.List.{with_items_is}
use Rattle.typst_lines.specs.LineTable.{LineTable, AreSameLines}
use Rattle.typst_lines.specs.LineStarts.{line_starts}
use Rattle.typst_lines.specs.Parts.{starts_about, whole, whole_with}
use Rattle.typst_lines.specs.Seamed.{seamed}
use Rattle.typst_lines.proofs.Seams.{kept, count_after}
use Rattle.typst_lines.proofs.Seamed.{length-seamed, before_edit, rejoined}
use Rattle.typst_lines.proofs.lines.Lines.exchange.Goals as goal

pub reseam-requires-clause-inside : goal.reseam-requires-clause-inside
reseam-requires-clause-inside c =
    let len = length-seamed c.self.inside.seam c.self.inside.end c.self.inside.kept.items c.self.invariant in
    let e = ap (λ (v : LineTable). v.starts) c.self.view_is ∙ c.requires.lines.starts ∙ ap (λ x. line_starts x (whole_with c.args.parts.now c.args.gone.now)) (sym c.requires.ends) in
    let k = kept c.args.parts.now c.args.gone.now (seamed c.self.inside.seam c.self.inside.end c.self.inside.kept.items) c.touched-window.result.start c.touched-window.result.end e c.touched-window.ensures.start c.touched-window.ensures.end in
    omega (arith, len, k.window, k.inside, c.deref_mut.ensures.len)

pub make_place-requires-clause-window : goal.make_place-requires-clause-window
make_place-requires-clause-window c =
    (before_edit c.args.parts.now c.args.gone.now c.args.self.now c.self.inside.kept.items c.deref_mut.result.now c.reseam.new.kept c.self.inside.seam c.touched-window.result.start c.touched-window.result.end c.self.inside.end c.self.inside.kept.cap c.self.inside.ends c.self.view_is c.requires.lines c.requires.ends c.self.invariant c.deref_mut.ensures.value c.touched-window.ensures.start c.touched-window.ensures.end c.reseam.auto.kept c.reseam.ensures).window

pub make_place-requires-clause-inside : goal.make_place-requires-clause-inside
make_place-requires-clause-inside c =
    let s = before_edit c.args.parts.now c.args.gone.now c.args.self.now c.self.inside.kept.items c.deref_mut.result.now c.reseam.new.kept c.self.inside.seam c.touched-window.result.start c.touched-window.result.end c.self.inside.end c.self.inside.kept.cap c.self.inside.ends c.self.view_is c.requires.lines c.requires.ends c.self.invariant c.deref_mut.ensures.value c.touched-window.ensures.start c.touched-window.ensures.end c.reseam.auto.kept c.reseam.ensures in
    omega (arith, s.inside, c.reseam.auto.kept, c.deref_mut.ensures.len)

pub invariant_of-self : goal.invariant_of-self
invariant_of-self c =
    let s = before_edit c.args.parts.now c.args.gone.now c.args.self.now c.self.inside.kept.items c.deref_mut.result.now c.reseam.new.kept c.self.inside.seam c.touched-window.result.start c.touched-window.result.end c.self.inside.end c.self.inside.kept.cap c.self.inside.ends c.self.view_is c.requires.lines c.requires.ends c.self.invariant c.deref_mut.ensures.value c.touched-window.ensures.start c.touched-window.ensures.end c.reseam.auto.kept c.reseam.ensures in
    let same = c.in_err-make_place.ensures.err ∙ with_items_is c.self.inside.kept c.reseam.new.kept (c.reseam.auto.kept ∙ c.deref_mut.ensures.len) in
    omega (arith, s.window, s.inside, ap (λ l. length l) same)

pub returns-in_err-make_place-clause-err : goal.returns-in_err-make_place-clause-err
returns-in_err-make_place-clause-err c =
    let s = before_edit c.args.parts.now c.args.gone.now c.args.self.now c.self.inside.kept.items c.deref_mut.result.now c.reseam.new.kept c.self.inside.seam c.touched-window.result.start c.touched-window.result.end c.self.inside.end c.self.inside.kept.cap c.self.inside.ends c.self.view_is c.requires.lines c.requires.ends c.self.invariant c.deref_mut.ensures.value c.touched-window.ensures.start c.touched-window.ensures.end c.reseam.auto.kept c.reseam.ensures in
    let same : AreSameLines c.args.self.now (record { starts = seamed c.touched-window.result.start c.self.inside.end c.make_place.new.numbers.items; len = c.self.inside.end; room = c.make_place.new.numbers.cap; ends = c.self.inside.ends }) =
    record {
      starts = ap (seamed c.touched-window.result.start c.self.inside.end) (c.in_err-make_place.ensures.err ∙ with_items_is c.self.inside.kept c.reseam.new.kept (c.reseam.auto.kept ∙ c.deref_mut.ensures.len)) ∙ s.starts ∙ ap (λ x. line_starts x (whole_with c.args.parts.now c.args.gone.now)) c.requires.ends ∙ sym c.requires.lines.starts;
      len = ap (λ (v : LineTable). v.len) c.self.view_is;
      ends = ap (λ (v : LineTable). v.ends) c.self.view_is;
    } in
    search rules

pub returns-in_err-make_place-clause-succeeds : goal.returns-in_err-make_place-clause-succeeds
returns-in_err-make_place-clause-succeeds c = λ fits.
    let s = before_edit c.args.parts.now c.args.gone.now c.args.self.now c.self.inside.kept.items c.deref_mut.result.now c.reseam.new.kept c.self.inside.seam c.touched-window.result.start c.touched-window.result.end c.self.inside.end c.self.inside.kept.cap c.self.inside.ends c.self.view_is c.requires.lines c.requires.ends c.self.invariant c.deref_mut.ensures.value c.touched-window.ensures.start c.touched-window.ensures.end c.reseam.auto.kept c.reseam.ensures in
    let n = count_after c.args.parts.now c.args.gone.now (seamed c.touched-window.result.start c.self.inside.end c.reseam.new.kept) c.touched-window.result.start c.touched-window.result.end s.starts c.touched-window.ensures.start c.touched-window.ensures.end in
    let long = length-seamed c.touched-window.result.start c.self.inside.end c.reseam.new.kept (omega (arith, s.window, s.inside)) in
    let room : vec_len c.self.inside.kept + (c.count_about-many.result - (c.touched-window.result.end - c.touched-window.result.start)) ≤ c.self.inside.kept.cap =
    omega (arith, n, ap (λ x. length (line_starts x (whole c.args.parts.now))) c.requires.ends, s.window, s.inside, fits, long, c.count_about-many.ensures, c.reseam.auto.kept, c.deref_mut.ensures.len, ap (λ (v : LineTable). v.room) c.self.view_is) in
    absurd (false≢true (c.in_err-make_place.ensures.succeeds room))

pub write_about-requires-clause-room : goal.write_about-requires-clause-room
write_about-requires-clause-room c =
    let s = before_edit c.args.parts.now c.args.gone.now c.args.self.now c.self.inside.kept.items c.deref_mut.result.now c.reseam.new.kept c.self.inside.seam c.touched-window.result.start c.touched-window.result.end c.self.inside.end c.self.inside.kept.cap c.self.inside.ends c.self.view_is c.requires.lines c.requires.ends c.self.invariant c.deref_mut.ensures.value c.touched-window.ensures.start c.touched-window.ensures.end c.reseam.auto.kept c.reseam.ensures in
    omega (arith, s.window, s.inside, c.in_ok-make_place.ensures.len, c.deref_mut-2.ensures.len, c.count_about-many.ensures, c.reseam.auto.kept, c.deref_mut.ensures.len)

pub invariant_of-self-2 : goal.invariant_of-self-2
invariant_of-self-2 c =
    let s = before_edit c.args.parts.now c.args.gone.now c.args.self.now c.self.inside.kept.items c.deref_mut.result.now c.reseam.new.kept c.self.inside.seam c.touched-window.result.start c.touched-window.result.end c.self.inside.end c.self.inside.kept.cap c.self.inside.ends c.self.view_is c.requires.lines c.requires.ends c.self.invariant c.deref_mut.ensures.value c.touched-window.ensures.start c.touched-window.ensures.end c.reseam.auto.kept c.reseam.ensures in
    let same = with_items_is c.make_place.new.numbers c.write_about.new.starts (c.write_about.auto.starts ∙ c.deref_mut-2.ensures.len) in
    omega (arith, ap (λ l. length l) same, s.window, s.inside, c.in_ok-make_place.ensures.len, c.write_about.auto.starts, c.deref_mut-2.ensures.len, c.reseam.auto.kept, c.deref_mut.ensures.len)

pub returns-clause-ok : goal.returns-clause-ok
returns-clause-ok c =
    let s = before_edit c.args.parts.now c.args.gone.now c.args.self.now c.self.inside.kept.items c.deref_mut.result.now c.reseam.new.kept c.self.inside.seam c.touched-window.result.start c.touched-window.result.end c.self.inside.end c.self.inside.kept.cap c.self.inside.ends c.self.view_is c.requires.lines c.requires.ends c.self.invariant c.deref_mut.ensures.value c.touched-window.ensures.start c.touched-window.ensures.end c.reseam.auto.kept c.reseam.ensures in
    let parts = c.args.parts.now in
    let gone = c.args.gone.now in
    let first = c.touched-window.result.start in
    let made = c.make_place.new.numbers.items in
    let old = with_items_is c.self.inside.kept c.reseam.new.kept (c.reseam.auto.kept ∙ c.deref_mut.ensures.len) in
    let new = with_items_is c.make_place.new.numbers c.write_about.new.starts (c.write_about.auto.starts ∙ c.deref_mut-2.ensures.len) in
    let written : c.write_about.new.starts ≡ take c.touched-window.result.start c.make_place.new.numbers.items ++ (starts_about c.args.parts.now ++ drop (c.touched-window.result.start + length (starts_about c.args.parts.now)) c.make_place.new.numbers.items) =
    c.write_about.ensures ∙ ap (λ l. take first l ++ (starts_about parts ++ drop (first + length (starts_about parts)) l)) c.deref_mut-2.ensures.value in
    record {
      starts = ap (seamed (first + c.count_about-many.result) (c.self.inside.end - length gone + length parts.middle.now)) new ∙ rejoined parts gone c.self.inside.end s.end_is c.reseam.new.kept made c.write_about.new.starts first c.touched-window.result.end c.count_about-many.result s.starts (omega (arith, s.window, s.inside)) c.touched-window.ensures.start c.touched-window.ensures.end c.count_about-many.ensures (c.in_ok-make_place.ensures.before ∙ ap (take first) old) (c.in_ok-make_place.ensures.behind ∙ ap (drop c.touched-window.result.end) old) written ∙ ap (λ x. line_starts x (whole c.args.parts.now)) (c.requires.ends ∙ sym (ap (λ (v : LineTable). v.ends) c.self.view_is));
      len = omega (arith, s.end_is, length-append c.args.parts.now.front.now (c.args.gone.now ++ c.args.parts.now.back.now), length-append c.args.gone.now c.args.parts.now.back.now, length-append c.args.parts.now.front.now (c.args.parts.now.middle.now ++ c.args.parts.now.back.now), length-append c.args.parts.now.middle.now c.args.parts.now.back.now);
    }
