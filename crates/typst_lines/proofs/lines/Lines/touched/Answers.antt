use Rattle.std.proofs.Common.{◌≡◌, ◌+◌, ◌≤◌, length, ap, sym, ◌∙◌, arith, length-append, ◌++◌, ⊎_elim}
use Rattle.std.proofs.lemmas.Bool.{cases_lt}
use Rattle.typst_lines.specs.LineStarts.{begins_line, starts_between}
use Rattle.typst_lines.specs.Parts.{whole_with, near}
use Rattle.typst_lines.proofs.Picked.{picked-none}
use Rattle.typst_lines.proofs.lines.Lines.touched.Goals as goal
use Rattle.typst_lines.proofs.lines.Lines.touched.Goals.{in-Some, in-None}

pub returns-clause-start : goal.returns-clause-start
returns-clause-start c =
    let by = ap (λ x. length (starts_between x (whole_with c.args.parts.now c.args.gone.now) 0 (length c.args.parts.now.front.now))) (sym c.requires.ends) in
    let text = whole_with c.args.parts.now c.args.gone.now in
    elim c.match-checked_sub.branch [
      | in-Some w ↦
          let some = w.in-Some.ensures in
          let last : w.in-Some.last + 1 ≡ length c.args.parts.now.front.now = omega (arith, some.0, some.1) in
          let inside : w.in-Some.last ≤ length (whole_with c.args.parts.now c.args.gone.now) = omega (arith, last, length-append c.args.parts.now.front.now (c.args.gone.now ++ c.args.parts.now.back.now)) in
          w.result-is ∙ w.count_through.ensures text c.requires.lines inside ∙ ap (λ n. length (starts_between c.args.self.now.ends (whole_with c.args.parts.now c.args.gone.now) 0 n)) last ∙ by
      | in-None w ↦
          let none : length c.args.parts.now.front.now ≡ 0 = ⊎_elim (λ zero. omega arith) (λ some. absurd (w.in-None.ensures some)) (cases_lt (length c.args.parts.now.front.now) 1) in
          w.result-is ∙ ap (λ l. length l) (sym (picked-none (begins_line c.args.self.now.ends text) 0)) ∙ ap (λ n. length (starts_between c.args.self.now.ends (whole_with c.args.parts.now c.args.gone.now) 0 n)) (sym none) ∙ by
    ]

pub returns-clause-end : goal.returns-clause-end
returns-clause-end c =
    let text = whole_with c.args.parts.now c.args.gone.now in
    let parts = c.args.parts.now in
    let inside : length c.args.parts.now.front.now + length c.args.gone.now + c.near.result ≤ length (whole_with c.args.parts.now c.args.gone.now) = omega (arith, c.near.ensures, length-append parts.front.now (c.args.gone.now ++ parts.back.now), length-append c.args.gone.now parts.back.now) in
    c.count_through-2.ensures text c.requires.lines inside
    ∙ ap (λ n. length (starts_between c.args.self.now.ends (whole_with c.args.parts.now c.args.gone.now) 0 (length c.args.parts.now.front.now + length c.args.gone.now + n + 1))) c.near.ensures
    ∙ ap (λ x. length (starts_between x (whole_with c.args.parts.now c.args.gone.now) 0 (length c.args.parts.now.front.now + length c.args.gone.now + near c.args.parts.now + 1))) (sym c.requires.ends)
