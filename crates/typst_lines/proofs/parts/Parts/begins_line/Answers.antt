use Rattle.std.proofs.Common.{◌≡◌, ℕ, ◌-◌, List, not, eqb, get_or, ap, sym, ◌∙◌, arith}
use Rattle.std.proofs.lemmas.Bool.Decides.{nat_tests}
use Rattle.typst_lines.specs.LineEnds.{newline_before}
use Rattle.typst_lines.specs.LineStarts.{begins_line}
use Rattle.typst_lines.specs.Parts.{whole}
use Rattle.typst_lines.specs.declared.ends.LineEnds.{LineEnds}
use Rattle.typst_lines.specs.declared.ends.LineEnds.TheVariants.{Unicode, Editor}
use Rattle.typst_lines.proofs.Seams.{begins-first}
use Rattle.typst_lines.proofs.parts.Parts.begins_line.Goals as goal

-- after a carriage return a line begins, but not before a line feed
after_return : (ends : LineEnds) (text : List ℕ) (at : ℕ) → (at ≡ 0 → ⊥) → get_or text (at - 1) 0 ≡ 13 → not (eqb (get_or text at 0) 10) ≡ begins_line ends text at
unfolding begins_line
after_return Unicode text at some last = grind (arith, nat_tests)
after_return Editor text at some last = grind (arith, nat_tests)

-- after another character that ends lines one begins
after_other : (text : List ℕ) (at : ℕ) → (at ≡ 0 → ⊥) → (get_or text (at - 1) 0 ≡ 13 → ⊥) → newline_before Unicode text at ≡ begins_line Unicode text at
unfolding begins_line
after_other text at some last = grind (arith, nat_tests)

after_feed : (text : List ℕ) (at : ℕ) → (at ≡ 0 → ⊥) → (get_or text (at - 1) 0 ≡ 13 → ⊥) → eqb (get_or text (at - 1) 0) 10 ≡ begins_line Editor text at
unfolding begins_line
after_feed text at some last = grind (arith, nat_tests)

pub returns-then-at-eq0 : goal.returns-then-at-eq0
returns-then-at-eq0 c =
    sym (ap (begins_line c.args.self.now.ends (whole c.args.self.now)) c.if-at-eq0.true ∙ begins-first c.args.self.now.ends (whole c.args.self.now))

pub returns-then-last-eq13 : goal.returns-then-last-eq13
returns-then-last-eq13 c =
    ap (λ b. not (eqb b 10)) c.byte.ensures
    ∙ after_return c.args.self.now.ends (whole c.args.self.now) c.args.at c.if-at-eq0.false (sym c.byte-last.ensures ∙ c.if-last-eq13.true)

pub returns-in-Unicode : goal.returns-in-Unicode
returns-in-Unicode c =
    c.ends_by_unicode.ensures ∙ after_other (whole c.args.self.now) c.args.at c.if-at-eq0.false (λ e. c.if-last-eq13.false (c.byte-last.ensures ∙ e))
    ∙ ap (λ ends. begins_line ends (whole c.args.self.now) c.args.at) (sym c.in-Unicode.is)

pub returns-in-Editor : goal.returns-in-Editor
returns-in-Editor c =
    ap (λ b. eqb b 10) c.byte-last.ensures ∙ after_feed (whole c.args.self.now) c.args.at c.if-at-eq0.false (λ e. c.if-last-eq13.false (c.byte-last.ensures ∙ e))
    ∙ ap (λ ends. begins_line ends (whole c.args.self.now) c.args.at) (sym c.in-Editor.is)
