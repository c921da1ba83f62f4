-- The number of a place's line.
use Rattle.std.proofs.Common.{◌≡◌, ℕ, ◌+◌, ◌-◌, ◌<◌, ◌≤◌, List, ◌++◌, length, get_or, ap, ◌∙◌, refl, arith, length-append, ⊎_elim}
use Rattle.std.proofs.lemmas.List.{get_or_append_left, get_or-append_right}
use Rattle.std.proofs.lemmas.Bool.{cases_lt}
use Rattle.typst_lines.specs.LineStarts.{begins_line, starts_between, line_starts, line_of, line_start}
use Rattle.typst_lines.proofs.Picked.{picked-halves, picked-some, picked_within}
use Rattle.typst_lines.proofs.Seams.{begins-first}
use Rattle.typst_lines.specs.declared.ends.LineEnds.{LineEnds}

-- the line of a place begins there or before, and the next one after it
pub record InLine (ends : LineEnds) (text : List ℕ) (at line : ℕ) : Type 0 where
  pub inside : line < length (line_starts ends text)
  pub before : line_start ends text line ≤ at
  pub behind : line + 1 < length (line_starts ends text) → at < line_start ends text (line + 1)

halves : (ends : LineEnds) (text : List ℕ) (at : ℕ) → at ≤ length text → line_starts ends text ≡ starts_between ends text 0 (at + 1) ++ starts_between ends text (at + 1) (length text + 1)
halves ends text at le =
    let l1 : 0 ≤ at + 1 = omega arith in
    let l2 : at + 1 ≤ length text + 1 = omega arith in
    picked-halves (begins_line ends text) 0 (at + 1) (length text + 1) l1 l2

start_low : (ends : LineEnds) (text : List ℕ) (at k : ℕ) → at ≤ length text → k < length (starts_between ends text 0 (at + 1)) → line_start ends text k ≤ at
start_low ends text at k le less =
    let e = ap (λ l. get_or l k 0) (halves ends text at le) ∙ get_or_append_left (starts_between ends text 0 (at + 1)) (starts_between ends text (at + 1) (length text + 1)) 0 k less in
    let l1 : 0 ≤ at + 1 = omega arith in
    let w = picked_within (begins_line ends text) 0 (at + 1) k 0 l1 less in
    omega arith

start_high : (ends : LineEnds) (text : List ℕ) (at k : ℕ) → at ≤ length text → length (starts_between ends text 0 (at + 1)) ≤ k → k < length (line_starts ends text) → at < line_start ends text k
start_high ends text at k le low less =
    let n = length (starts_between ends text 0 (at + 1)) in
    let all = ap (λ l. length l) (halves ends text at le) in
    let within : k - length (starts_between ends text 0 (at + 1)) < length (starts_between ends text (at + 1) (length text + 1)) = omega (arith, length-append (starts_between ends text 0 (at + 1)) (starts_between ends text (at + 1) (length text + 1))) in
    let e = ap (λ l. get_or l k 0) (halves ends text at le) ∙ get_or-append_right (starts_between ends text 0 (at + 1)) (starts_between ends text (at + 1) (length text + 1)) n k 0 refl low in
    let l1 : at + 1 ≤ length text + 1 = omega arith in
    let w = picked_within (begins_line ends text) (at + 1) (length text + 1) (k - length (starts_between ends text 0 (at + 1))) 0 l1 within in
    omega arith

pub in_line : (ends : LineEnds) (text : List ℕ) (at : ℕ) → at ≤ length text → InLine ends text at (line_of ends text at)
in_line ends text at le =
    let some = picked-some (begins_line ends text) at (begins-first ends text) in
    let all = ap (λ l. length l) (halves ends text at le) in
    let less : line_of ends text at < length (starts_between ends text 0 (at + 1)) = omega arith in
    let next : length (starts_between ends text 0 (at + 1)) ≤ line_of ends text at + 1 = omega arith in
    record {
      inside = omega (arith, length-append (starts_between ends text 0 (at + 1)) (starts_between ends text (at + 1) (length text + 1)));
      before = start_low ends text at (line_of ends text at) le less;
      behind = λ more. start_high ends text at (line_of ends text at + 1) le next more;
    }

-- and no other line does so
pub line_is : (ends : LineEnds) (text : List ℕ) (at line : ℕ) → at ≤ length text → InLine ends text at line → line_of ends text at ≡ line
line_is ends text at line le h =
    let some = picked-some (begins_line ends text) at (begins-first ends text) in
    let all = ap (λ l. length l) (halves ends text at le) in
    let long = length-append (starts_between ends text 0 (at + 1)) (starts_between ends text (at + 1) (length text + 1)) in
    ⊎_elim
    (λ low. ⊎_elim
    (λ less. let start = start_low ends text at (line + 1) le less in let there : line + 1 < length (line_starts ends text) = omega arith in let high = h.behind there in absurd (omega arith))
    (λ next. omega arith)
    (cases_lt (line + 1) (length (starts_between ends text 0 (at + 1)))))
    (λ high. let start = start_high ends text at line le high h.inside in absurd (omega (arith, h.before)))
    (cases_lt line (length (starts_between ends text 0 (at + 1))))
