-- The line end of a line.
use Rattle.std.proofs.Common.{◌≡◌, ℕ, ◌-◌, ◌<◌, ◌≤◌, Bool, true, false, ◌&&◌, ◌||◌, not, List, length, get_or, refl, ap, ◌∙◌, arith, eqb, leb, ltb, ⊎_elim}
use Rattle.std.proofs.lemmas.List.{get_or_past}
use Rattle.std.proofs.lemmas.Bool.{cases_lt}
use Rattle.std.proofs.lemmas.Bool.Decides.{nat_tests}
use Rattle.typst_lines.specs.Clamped.{end_width, line_end_len}
use Rattle.typst_lines.specs.LineEnds.{newline_before, within_crlf}
use Rattle.typst_lines.specs.LineStarts.{begins_line}
use Rattle.typst_lines.specs.declared.ends.LineEnds.{LineEnds}
use Rattle.typst_lines.specs.declared.ends.LineEnds.TheVariants.{Unicode, Editor}

off : (a b : Bool) → (a && (b && false)) ≡ false
off true true = refl
off true false = refl
off false b = refl

and_true : (a : Bool) → (a && true) ≡ a
and_true true = refl
and_true false = refl

-- at the end of a text that isn't empty a line begins after each character that ends lines
pub begins_at_end : (ends : LineEnds) (line : List ℕ) → 0 < length line → begins_line ends line (length line) ≡ newline_before ends line (length line)
unfolding begins_line
begins_at_end ends line some =
    let z : eqb (length line) 0 ≡ false = grind (arith, nat_tests) in
    let same : length line ≤ length line = omega arith in
    let crlf : within_crlf line (length line) ≡ false =
    ap (λ b. leb 1 (length line) && (eqb (get_or line (length line - 1) 0) 13 && eqb b 10)) (get_or_past line (length line) 0 same)
    ∙ off (leb 1 (length line)) (eqb (get_or line (length line - 1) 0) 13) in
    ap (λ t. t || (newline_before ends line (length line) && not (within_crlf line (length line)))) z
    ∙ ap (λ t. newline_before ends line (length line) && not t) crlf
    ∙ and_true (newline_before ends line (length line))

-- no character ends an empty text
pub none_at_start : (ends : LineEnds) (line : List ℕ) → length line ≡ 0 → newline_before ends line (length line) ≡ false
none_at_start ends line e = ap (newline_before ends line) e

pub len_none : (ends : LineEnds) (line : List ℕ) → newline_before ends line (length line) ≡ false → line_end_len ends line ≡ 0
unfolding line_end_len
len_none ends line e = rw e refl

pub len_crlf : (ends : LineEnds) (line : List ℕ) → newline_before ends line (length line) ≡ true → within_crlf line (length line - 1) ≡ true → line_end_len ends line ≡ 2
unfolding line_end_len
len_crlf ends line e both = rw e (rw both refl)

pub len_one : (ends : LineEnds) (line : List ℕ) → newline_before ends line (length line) ≡ true → within_crlf line (length line - 1) ≡ false → line_end_len ends line ≡ end_width (get_or line (length line - 1) 0)
unfolding line_end_len
len_one ends line e one = rw e (rw one refl)

-- a character that ends lines is no longer than what it is the end of
pub width_fits : (ends : LineEnds) (line : List ℕ) (n : ℕ) → newline_before ends line n ≡ true → end_width (get_or line (n - 1) 0) ≤ n
width_fits Unicode line n h = ⊎_elim
    (λ low. let e : ltb (get_or line (n - 1) 0) 0x80 ≡ true = grind (arith, nat_tests) in rw e (grind (arith, nat_tests)))
    (λ high.
    let e : ltb (get_or line (n - 1) 0) 0x80 ≡ false = grind (arith, nat_tests) in
    ⊎_elim
    (λ less. let f : eqb (get_or line (n - 1) 0) 0x85 ≡ false = grind (arith, nat_tests) in rw e (rw f (grind (arith, nat_tests))))
    (λ more. ⊎_elim
    (λ is. let f : eqb (get_or line (n - 1) 0) 0x85 ≡ true = grind (arith, nat_tests) in rw e (rw f (grind (arith, nat_tests))))
    (λ above. let f : eqb (get_or line (n - 1) 0) 0x85 ≡ false = grind (arith, nat_tests) in rw e (rw f (grind (arith, nat_tests))))
    (cases_lt (get_or line (n - 1) 0) 0x86))
    (cases_lt (get_or line (n - 1) 0) 0x85))
    (cases_lt (get_or line (n - 1) 0) 0x80)
width_fits Editor line n h =
    let some : 1 ≤ n = grind (arith, nat_tests) in
    let e : ltb (get_or line (n - 1) 0) 0x80 ≡ true = grind (arith, nat_tests) in
    rw e some
