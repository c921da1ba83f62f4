-- No other list has the properties of the lines of a text.
use Rattle.std.proofs.Common.{◌≡◌, ℕ, ◌+◌, ◌<◌, Bool, true, false, cond, List, [], ◌∷◌, ◌++◌, length, take, drop, refl, ap, sym, ◌∙◌, arith, ltb, length-append, length-take, ⊎_elim}
use Rattle.std.specs.List.{concat}
use Rattle.std.proofs.lemmas.List.{append_assoc, append-nil, take-append-drop, take_at, drop_at}
use Rattle.std.proofs.lemmas.Bool.{cases_lt, false≢true}
use Rattle.std.proofs.lemmas.Bool.Decides.{nat_tests}
use Rattle.typst_lines.specs.LineEnds.{line_ends_between}
use Rattle.typst_lines.specs.LineStarts.{begins_line}
use Rattle.typst_lines.specs.TextLines.{lines, lines_from, AreLinesInRow}
use Rattle.typst_lines.proofs.Seams.{begins-before}
use Rattle.typst_lines.proofs.LinesOf.{ends_is, IsUnbroken}
use Rattle.typst_lines.specs.declared.ends.LineEnds.{LineEnds}

-- a line of a row ends where it does in the text
row_end : (ends : LineEnds) (l rest : List ℕ) (more : List (List ℕ)) → AreLinesInRow ends (l ∷ more) → 0 < length more → (0 < length l) × (begins_line ends (l ++ concat more) (length l) ≡ true)
unfolding line_ends_between
row_end ends [] rest more h some =
    let e : ltb 0 (length more) ≡ true = grind (arith, nat_tests) in
    absurd (false≢true (h.1 ∙ e))
row_end ends (b ∷ bs) rest more h some =
    let e : ltb 0 (length more) ≡ true = grind (arith, nat_tests) in
    let l : 0 < length (b ∷ bs) = omega arith in
    (l, sym (ends_is ends (b ∷ bs) (concat more) l) ∙ h.1 ∙ e)

-- and nowhere before
row_within : (ends : LineEnds) (l : List ℕ) (more : List (List ℕ)) (at : ℕ) → AreLinesInRow ends (l ∷ more) → 0 < at → at < length l → begins_line ends (l ++ concat more) at ≡ false
row_within ends l more at h low high =
    let long : length (take at l) ≡ at = omega (arith, length-take at l) in
    let some : 0 < length (take at l) = omega arith in
    begins-before ends l (concat more) [] at high
    ∙ ap (λ x. begins_line ends x at) (append-nil l)
    ∙ ap (begins_line ends l) (sym long)
    ∙ ap (λ x. begins_line ends x (length (take at l))) (sym (take-append-drop at l))
    ∙ sym (ends_is ends (take at l) (drop at l) some) ∙ h.0 at low high

only_last : (ends : LineEnds) (line l : List ℕ) (more : List (List ℕ)) → AreLinesInRow ends (l ∷ more) → l ++ concat more ≡ line → IsUnbroken ends line [] (length line + 1) → l ∷ more ≡ line ∷ []
only_last ends line l [] h e unbroken = ap (λ x. x ∷ []) (sym (append-nil l) ∙ e)
only_last ends line l (m ∷ more) h e unbroken =
    let some : 0 < length (m ∷ more) = omega arith in
    let end = row_end ends l [] (m ∷ more) h some in
    let inside : length l < length line + 1 = omega (arith, ap (λ x. length x) e, length-append l (m ++ concat more)) in
    absurd (false≢true (sym (unbroken (length l) end.0 inside) ∙ ap (λ x. begins_line ends x (length l)) (append-nil line ∙ sym e) ∙ end.1))

only_next : (ends : LineEnds) (line rest l : List ℕ) (more : List (List ℕ)) → 0 < length line → AreLinesInRow ends (l ∷ more) → l ++ concat more ≡ line ++ rest → IsUnbroken ends line rest (length line) → begins_line ends (line ++ rest) (length line) ≡ true → length l ≡ length line
only_next ends line rest l more some h e unbroken end = ⊎_elim
    (λ short. ⊎_elim
    (λ last.
    let none : more ≡ [] = no_more more last in
    absurd (omega (arith, ap (λ x. length x) e, ap (λ x. length (l ++ concat x)) none, length-append l [], length-append line rest)))
    (λ next.
    let here = row_end ends l [] more h next in
    absurd (false≢true (sym (unbroken (length l) here.0 short) ∙ ap (λ x. begins_line ends x (length l)) (sym e) ∙ here.1)))
    (cases_lt (length more) 1))
    (λ ge. ⊎_elim
    (λ long. absurd (false≢true (sym (row_within ends l more (length line) h some long) ∙ ap (λ x. begins_line ends x (length line)) e ∙ end)))
    (λ le. omega arith)
    (cases_lt (length line) (length l)))
    (cases_lt (length l) (length line))
  where
    no_more : (more : List (List ℕ)) → length more < 1 → more ≡ []
    no_more [] l = refl
    no_more (m ∷ more) l = absurd (omega arith)

only_step : (t : Bool) (line rest : List ℕ) (ended on : List (List ℕ)) (ls : List (List ℕ)) → (t ≡ true → ls ≡ line ∷ ended) → (t ≡ false → ls ≡ on) → ls ≡ cond t (line ∷ ended) on
only_step true line rest ended on ls ends goes = ends refl
only_step false line rest ended on ls ends goes = goes refl

others_from : (ends : LineEnds) (rest : List ℕ) (more : List (List ℕ)) → ((m : List ℕ) (ms : List (List ℕ)) → AreLinesInRow ends (m ∷ ms) → m ++ concat ms ≡ rest → m ∷ ms ≡ lines_from ends [] rest) → AreLinesInRow ends more → concat more ≡ rest → 0 < length more → more ≡ lines_from ends [] rest
others_from ends rest [] only h e some = absurd (omega arith)
others_from ends rest (m ∷ more) only h e some = only m more h e

only_from : (ends : LineEnds) (line rest l : List ℕ) (more : List (List ℕ)) → AreLinesInRow ends (l ∷ more) → l ++ concat more ≡ line ++ rest → IsUnbroken ends line rest (length line + 1) → l ∷ more ≡ lines_from ends line rest
only_from ends line [] l more h e unbroken = only_last ends line l more h (e ∙ append-nil line) unbroken
only_from ends line (b ∷ rest) l more h e unbroken =
    let long : length (line ++ b ∷ []) ≡ length line + 1 = length-append line (b ∷ []) in
    let some : 0 < length (line ++ b ∷ []) = omega arith in
    let all : l ++ concat more ≡ (line ++ b ∷ []) ++ rest = e ∙ sym (append_assoc line (b ∷ []) rest) in
    let within : IsUnbroken ends (line ++ b ∷ []) rest (length (line ++ b ∷ [])) = λ at low high.
    let l' : at < length line + 1 = omega arith in
    ap (λ x. begins_line ends x at) (append_assoc line (b ∷ []) rest) ∙ unbroken at low l' in
    only_step (line_ends_between ends (line ++ b ∷ []) rest) (line ++ b ∷ []) rest (lines_from ends [] rest) (lines_from ends (line ++ b ∷ []) rest) (l ∷ more)
    (λ t.
    let end : begins_line ends ((line ++ b ∷ []) ++ rest) (length (line ++ b ∷ [])) ≡ true = sym (ends_is ends (line ++ b ∷ []) rest some) ∙ t in
    let n = only_next ends (line ++ b ∷ []) rest l more some h all within end in
    let first : l ≡ line ++ b ∷ [] = sym (take_at l (concat more) (length l) refl) ∙ ap (take (length l)) all ∙ take_at (line ++ b ∷ []) rest (length l) (sym n) in
    let others : concat more ≡ rest = sym (drop_at l (concat more) (length l) refl) ∙ ap (drop (length l)) all ∙ drop_at (line ++ b ∷ []) rest (length l) (sym n) in
    let followed : ltb 0 (length more) ≡ true = sym h.1 ∙ ap (λ x. line_ends_between ends x (concat more)) first ∙ ap (line_ends_between ends (line ++ b ∷ [])) others ∙ t in
    ap (λ x. x ∷ more) first ∙ ap (λ x. (line ++ b ∷ []) ∷ x) (others_from ends rest more (λ m ms h' e'. only_from ends [] rest m ms h' e' (λ at low high. absurd (omega arith))) h.2 others (grind (arith, nat_tests))))
    (λ t. only_from ends (line ++ b ∷ []) rest l more h all (λ at low high. ⊎_elim
    (λ less. within at low less)
    (λ ge. let same : at ≡ length (line ++ b ∷ []) = omega arith in ap (begins_line ends ((line ++ b ∷ []) ++ rest)) same ∙ sym (ends_is ends (line ++ b ∷ []) rest some) ∙ t)
    (cases_lt at (length (line ++ b ∷ [])))))

pub lines-only : (ends : LineEnds) (text : List ℕ) (ls : List (List ℕ)) → 0 < length ls → concat ls ≡ text → AreLinesInRow ends ls → ls ≡ lines ends text
unfolding lines
lines-only ends text [] some e h = absurd (omega arith)
lines-only ends text (l ∷ ls) some e h = only_from ends [] text l ls h e (λ at low high. absurd (omega arith))
