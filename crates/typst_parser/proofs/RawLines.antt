-- Lines of raw text, as the code finds them.
use Rattle.std.proofs.Common.{◌≡◌, ℕ, zero, suc, ◌+◌, ◌-◌, ◌≤◌, ◌<◌, ◌==◌, Bool, true, false, cond, List, [], ◌∷◌, ◌++◌, length, map, take, drop, get_or, Option, Some, None, refl, sym, ap, ◌∙◌, add-one, append_assoc, length-append, arith}
use Rattle.std.proofs.lemmas.Bool.Decides.{nat_tests}
use Rattle.std.proofs.lemmas.List.{drop-drop, length-drop, length-map, map-append}
use Rattle.std.proofs.lemmas.Option.{slice_get-map}
use Rattle.std.specs.List.{slice_get}
use Rattle.std.specs.Option.{option_map}
use Rattle.std.proofs.Math.Seq.{drop-cons, drop-nil}
use Rattle.typst_parser.specs.LineViews.{line_of}
use Rattle.typst_parser.specs.Lines.{indent, indent_of, is_blank, Line, line_at, line_len, lines_from, newline_len, white_len, whites_len}
use Rattle.typst_parser.specs.Raw.{close_len, dedent, inner_events, kept_lines, least_indent, open_len, raw_events, raw_parts, shortened, trimmed_end}
use Rattle.typst_parser.specs.Last.{last_of}
use Rattle.typst_parser.proofs.Lasts.{last_push}
use Rattle.typst_base.specs.declared.kind.SyntaxKind.TheVariants as kinds
use Rattle.typst_parser.specs.declared.event.Event.{Event}
use Rattle.typst_parser.specs.declared.event.Event.TheVariants.{Leaf, Node}
use Rattle.typst_parser.specs.declared.lines.Line.{Line as CodeLine}
use Rattle.typst_parser.proofs.Walking.{last_split}

zero_is : (n : ℕ) → (n == 0) ≡ false → 0 < n
zero_is n e = grind (arith, nat_tests)

-- white space characters from a place on
pub whites_end : (n : ℕ) (bs : List ℕ) → white_len bs ≡ 0 → whites_len n bs ≡ 0
whites_end zero bs none = refl
whites_end (suc n) bs none = ap (λ k. cond (k == 0) 0 (k + whites_len n (drop k bs))) none

not_zero : (k : ℕ) → 0 < k → (k == 0) ≡ false
not_zero k some = grind (arith, nat_tests)

pub whites_more : (n k : ℕ) (bs : List ℕ) → k ≡ white_len bs → 0 < k → whites_len (suc n) bs ≡ k + whites_len n (drop k bs)
whites_more n k bs is some =
    sym (ap (λ j. cond (j == 0) 0 (j + whites_len n (drop j bs))) is) ∙ ap (λ (b : Bool). cond b 0 (k + whites_len n (drop k bs))) (not_zero k some)

pub indent_end : (n : ℕ) (bs : List ℕ) → white_len bs ≡ 0 → indent_of n bs ≡ 0
indent_end zero bs none = refl
indent_end (suc n) bs none = ap (λ k. cond (k == 0) 0 (suc (indent_of n (drop k bs)))) none

pub indent_more : (n k : ℕ) (bs : List ℕ) → k ≡ white_len bs → 0 < k → indent_of (suc n) bs ≡ suc (indent_of n (drop k bs))
indent_more n k bs is some =
    sym (ap (λ j. cond (j == 0) 0 (suc (indent_of n (drop j bs)))) is) ∙ ap (λ (b : Bool). cond b 0 (suc (indent_of n (drop k bs)))) (not_zero k some)

-- one more round of the loop over white space
pub whites_next : (most i at next k : ℕ) (bs : List ℕ) (whole : ℕ) → i < most → k ≡ white_len (drop at bs) → 0 < k → next ≡ at + k
    → at + whites_len (most - i) (drop at bs) ≡ whole → next + whites_len (most - (i + 1)) (drop next bs) ≡ whole
whites_next most i at next k bs whole within is some next_is so_far =
    let left : most - i ≡ suc (most - (i + 1)) = omega arith in
    let rest : whites_len (most - i) (drop at bs) ≡ k + whites_len (most - (i + 1)) (drop next bs) =
    ap (λ n. whites_len n (drop at bs)) left ∙ whites_more (most - (i + 1)) k (drop at bs) is some
    ∙ ap (λ xs. k + whites_len (most - (i + 1)) xs) (drop-drop k at bs ∙ ap (λ n. drop n bs) (sym next_is)) in
    omega (arith, rest, so_far)

pub whites_stop : (most i at : ℕ) (bs : List ℕ) (whole : ℕ) → white_len (drop at bs) ≡ 0 → at + whites_len (most - i) (drop at bs) ≡ whole → at ≡ whole
whites_stop most i at bs whole none so_far = omega (arith, whites_end (most - i) (drop at bs) none, so_far)

pub whites_all : (most i at : ℕ) (bs : List ℕ) (whole : ℕ) → most ≤ i → at + whites_len (most - i) (drop at bs) ≡ whole → at ≡ whole
whites_all most i at bs whole past so_far =
    let none : most - i ≡ 0 = omega arith in
    let zero_left : whites_len (most - i) (drop at bs) ≡ 0 = ap (λ n. whites_len n (drop at bs)) none in
    omega (arith, zero_left, so_far)

-- one more round of the loop over an indent
pub indent_next : (most i k : ℕ) (rest more : List ℕ) (whole : ℕ) → i < most → k ≡ white_len rest → 0 < k → more ≡ drop k rest
    → i + indent_of (most - i) rest ≡ whole → i + 1 + indent_of (most - (i + 1)) more ≡ whole
indent_next most i k rest more whole within is some more_is so_far =
    let left : most - i ≡ suc (most - (i + 1)) = omega arith in
    let step : indent_of (most - i) rest ≡ suc (indent_of (most - (i + 1)) more) =
    ap (λ n. indent_of n rest) left ∙ indent_more (most - (i + 1)) k rest is some ∙ ap (λ xs. suc (indent_of (most - (i + 1)) xs)) (sym more_is) in
    omega (arith, step, so_far)

pub indent_stop : (most i : ℕ) (rest : List ℕ) (whole : ℕ) → white_len rest ≡ 0 → i + indent_of (most - i) rest ≡ whole → i ≡ whole
indent_stop most i rest whole none so_far = omega (arith, indent_end (most - i) rest none, so_far)

pub indent_all : (most i : ℕ) (rest : List ℕ) (whole : ℕ) → most ≤ i → i ≤ most → i + indent_of (most - i) rest ≡ whole → most ≡ whole
indent_all most i rest whole past within so_far =
    let none : most - i ≡ 0 = omega arith in
    let zero_left : indent_of (most - i) rest ≡ 0 = ap (λ n. indent_of n rest) none in
    omega (arith, zero_left, so_far)

-- the length of a line
line_cons : (b : ℕ) (bs : List ℕ) → newline_len (b ∷ bs) ≡ 0 → line_len (b ∷ bs) ≡ suc (line_len bs)
line_cons b bs none = ap (λ k. cond (k == 0) (suc (line_len bs)) 0) none

line_stops : (bs : List ℕ) → 0 < newline_len bs → line_len bs ≡ 0
line_stops [] some = refl
line_stops (b ∷ bs) some = ap (λ (c : Bool). cond c (suc (line_len bs)) 0) (not_zero (newline_len (b ∷ bs)) some)

pub line_next : (at : ℕ) (bs : List ℕ) (whole : ℕ) → at < length bs → newline_len (drop at bs) ≡ 0 → at + line_len (drop at bs) ≡ whole → at + 1 + line_len (drop (at + 1) bs) ≡ whole
line_next at bs whole within none so_far =
    let split = drop-cons bs at 0 within in
    let step : line_len (drop at bs) ≡ suc (line_len (drop (at + 1) bs)) =
    ap line_len split ∙ line_cons (get_or bs at 0) (drop (suc at) bs) (sym (ap newline_len split) ∙ none) ∙ ap (λ n. suc (line_len (drop n bs))) (sym (add-one at)) in
    omega (arith, step, so_far)

pub line_ends : (at : ℕ) (bs : List ℕ) (whole : ℕ) → 0 < newline_len (drop at bs) → at + line_len (drop at bs) ≡ whole → at ≡ whole
line_ends at bs whole some so_far = omega (arith, line_stops (drop at bs) some, so_far)

past_none : (at : ℕ) (bs : List ℕ) → length bs ≤ at → line_len (drop at bs) ≡ 0
past_none at [] past = ap line_len (drop-nil at)
past_none zero (b ∷ bs) past = absurd (omega arith)
past_none (suc at) (b ∷ bs) past = past_none at bs (omega arith)

pub line_all : (at : ℕ) (bs : List ℕ) (whole : ℕ) → length bs ≤ at → at + line_len (drop at bs) ≡ whole → at ≡ whole
line_all at bs whole past so_far = omega (arith, past_none at bs past, so_far)

-- the lines

has_some : (bs : List ℕ) → 0 < newline_len (drop (line_len bs) bs) → 0 < length bs
has_some [] some = absurd (omega arith)
has_some (b ∷ bs) some = omega arith

lines_fuel : (n m from : ℕ) (bs : List ℕ) → length bs < n → length bs < m → lines_from n from bs ≡ lines_from m from bs
lines_fuel zero m from bs p q = absurd (omega arith)
lines_fuel (suc n) zero from bs p q = absurd (omega arith)
lines_fuel (suc n) (suc m) from bs p q =
    let len : ℕ = line_len bs in
    let next : ℕ = newline_len (drop len bs) in
    let less : 0 < next → length (drop (len + next) bs) < length bs = λ some. omega (arith, length-drop (len + next) bs, has_some bs some, some) in
    ap (λ ls. line_at from len bs ∷ ls)
    (by next (lines_from n (from + (len + next)) (drop (len + next) bs)) (lines_from m (from + (len + next)) (drop (len + next) bs))
    (λ some. let shorter = less some in lines_fuel n m (from + (len + next)) (drop (len + next) bs) (omega arith) (omega arith)))
  where
    by : (k : ℕ) (ls ms : List Line) → (0 < k → ls ≡ ms) → cond (k == 0) [] ls ≡ cond (k == 0) [] ms
    by k ls ms same = at (k == 0) refl
      where
        at : (b : Bool) → (k == 0) ≡ b → cond b [] ls ≡ cond b [] ms
        at true e = refl
        at false e = same (zero_is k e)

-- the last line
pub lines_end : (from len next : ℕ) (rest : List ℕ) (all new : List CodeLine) (line : CodeLine) (whole : List Line) → len ≡ line_len rest → next ≡ newline_len (drop len rest) → next ≡ 0
    → line_of line ≡ line_at from len rest → new ≡ all ++ line ∷ []
    → map line_of all ++ lines_from (suc (length rest)) from rest ≡ whole → map line_of new ≡ whole
lines_end from len next rest all new line whole len_is next_is none line_is new_is so_far =
    let here : Line = line_at from (line_len rest) rest in
    let stops : newline_len (drop (line_len rest) rest) ≡ 0 = sym (next_is ∙ ap (λ n. newline_len (drop n rest)) len_is) ∙ none in
    ap (map line_of) new_is ∙ map-append line_of all (line ∷ []) ∙ ap (λ l. map line_of all ++ l ∷ []) (line_is ∙ ap (λ n. line_at from n rest) len_is)
    ∙ sym (ap (λ k. map line_of all ++ (here ∷ cond (k == 0) [] (lines_from (length rest) (from + (line_len rest + newline_len (drop (line_len rest) rest))) (drop (line_len rest + newline_len (drop (line_len rest) rest)) rest)))) stops)
    ∙ so_far

-- a line before others
pub lines_next : (from len next after : ℕ) (rest more : List ℕ) (all new : List CodeLine) (line : CodeLine) (whole : List Line) → len ≡ line_len rest → next ≡ newline_len (drop len rest) → 0 < next
    → line_of line ≡ line_at from len rest → new ≡ all ++ line ∷ [] → after ≡ from + (len + next) → more ≡ drop (len + next) rest
    → map line_of all ++ lines_from (suc (length rest)) from rest ≡ whole → map line_of new ++ lines_from (suc (length more)) after more ≡ whole
lines_next from len next after rest more all new line whole len_is next_is some line_is new_is after_is more_is so_far =
    let here : Line = line_at from (line_len rest) rest in
    let goes : newline_len (drop (line_len rest) rest) ≡ next = sym (next_is ∙ ap (λ n. newline_len (drop n rest)) len_is) in
    let positive : 0 < newline_len (drop (line_len rest) rest) = omega (arith, goes, some) in
    let sum : len + next ≡ line_len rest + newline_len (drop (line_len rest) rest) = omega (arith, len_is, goes) in
    let k : ℕ = line_len rest + newline_len (drop (line_len rest) rest) in
    let shorter : length (drop k rest) < length rest = omega (arith, length-drop k rest, has_some rest positive) in
    let more_now : more ≡ drop k rest = more_is ∙ ap (λ n. drop n rest) sum in
    let after_now : after ≡ from + k = after_is ∙ ap (λ n. from + n) sum in
    let others : lines_from (suc (length more)) after more ≡ lines_from (length rest) (from + k) (drop k rest) =
    (λ i. lines_from (suc (length (more_now i))) (after_now i) (more_now i)) ∙ lines_fuel (suc (length (drop k rest))) (length rest) (from + k) (drop k rest) (omega arith) shorter in
    let first : map line_of new ≡ map line_of all ++ here ∷ [] =
    ap (map line_of) new_is ∙ map-append line_of all (line ∷ []) ∙ ap (λ l. map line_of all ++ l ∷ []) (line_is ∙ ap (λ n. line_at from n rest) len_is) in
    (λ i. first i ++ others i)
    ∙ append_assoc (map line_of all) (here ∷ []) (lines_from (length rest) (from + k) (drop k rest))
    ∙ sym (ap (λ (b : Bool). map line_of all ++ (here ∷ cond b [] (lines_from (length rest) (from + k) (drop k rest)))) (not_zero (newline_len (drop (line_len rest) rest)) positive))
    ∙ so_far

-- the last line, of a list of lines
map_drop : (n : ℕ) (ls : List CodeLine) → drop n (map line_of ls) ≡ map line_of (drop n ls)
map_drop zero ls = refl
map_drop (suc n) [] = refl
map_drop (suc n) (l ∷ ls) = map_drop n ls

pub dedent_is : (ls more : List CodeLine) (l : CodeLine) (least : ℕ) → slice_get ls (length ls - 1) ≡ Some l → more ≡ drop 1 ls → least ≡ least_indent (indent l.text.now) (map line_of more)
    → least ≡ dedent (map line_of ls)
dedent_is ls more l least is more_is least_is =
    let there : slice_get (map line_of ls) (length (map line_of ls) - 1) ≡ Some (line_of l) =
    ap (λ n. slice_get (map line_of ls) (n - 1)) (length-map ls line_of) ∙ slice_get-map line_of ls (length ls - 1) ∙ ap (option_map line_of) is in
    let last : last_of (map line_of ls) ≡ Some (take (length (map line_of ls) - 1) (map line_of ls), line_of l) =
    ap last_of (last_split (map line_of ls) (line_of l) there) ∙ last_push (take (length (map line_of ls) - 1) (map line_of ls)) (line_of l) in
    least_is ∙ ap (λ ms. least_indent (indent l.text.now) ms) (ap (map line_of) more_is ∙ sym (map_drop 1 ls))
    ∙ sym (ap (λ (o : Option (List Line × Line)). let n : ℕ = elim o [ None ↦ 0 | Some p ↦ least_indent (indent p.1.text) (drop 1 (map line_of ls)) ] in n) last)

-- the lines that are kept
pub kept_is : (old new : List CodeLine) (l : CodeLine) (b : Bool) → old ≡ new ++ l ∷ [] → is_blank l.text.now ≡ b
    → kept_lines (last_of (map line_of old)) ≡ cond b (map line_of new) (map line_of new ++ shortened (trimmed_end l.text.now) (line_of l) ∷ [])
kept_is old new l b is blank =
    let last : last_of (map line_of old) ≡ Some (map line_of new, line_of l) = ap (λ ls. last_of (map line_of ls)) is ∙ ap last_of (map-append line_of new (l ∷ [])) ∙ last_push (map line_of new) (line_of l) in
    ap kept_lines last ∙ ap (λ (c : Bool). cond c (map line_of new) (map line_of new ++ shortened (trimmed_end l.text.now) (line_of l) ∷ [])) blank

pub kept_push : (old new more : List CodeLine) (l m : CodeLine) → old ≡ new ++ l ∷ [] → is_blank l.text.now ≡ false → more ≡ new ++ m ∷ [] → line_of m ≡ shortened (trimmed_end l.text.now) (line_of l)
    → map line_of more ≡ kept_lines (last_of (map line_of old))
kept_push old new more l m is blank more_is m_is =
    ap (map line_of) more_is ∙ map-append line_of new (m ∷ []) ∙ ap (λ k. map line_of new ++ k ∷ []) m_is ∙ sym (kept_is old new l false is blank)

-- the events of raw text
pub raw_is : (old one two three four : List Event) (bs : List ℕ) (children : ℕ) → one ≡ old ++ Leaf kinds.RawDelim (open_len bs) ∷ [] → two ≡ one ++ inner_events (open_len bs) bs
    → three ≡ two ++ Leaf kinds.RawDelim (close_len (open_len bs) bs) ∷ [] → children ≡ length three - length old → four ≡ three ++ Node kinds.Raw children ∷ []
    → four ≡ old ++ raw_events bs
raw_is old one two three four bs children one_is two_is three_is children_is four_is =
    let n : ℕ = open_len bs in
    let inner : List Event = inner_events n bs in
    let close : List Event = Leaf kinds.RawDelim (close_len n bs) ∷ [] in
    let parts : three ≡ old ++ raw_parts n bs =
    three_is ∙ ap (λ es. es ++ close) (two_is ∙ ap (λ es. es ++ inner) one_is ∙ append_assoc old (Leaf kinds.RawDelim n ∷ []) inner) ∙ append_assoc old (Leaf kinds.RawDelim n ∷ inner) close in
    let count : children ≡ length (raw_parts n bs) = omega (arith, children_is, ap length parts, length-append old (raw_parts n bs)) in
    four_is ∙ (λ i. parts i ++ Node kinds.Raw (count i) ∷ []) ∙ append_assoc old (raw_parts n bs) (Node kinds.Raw (length (raw_parts n bs)) ∷ [])
