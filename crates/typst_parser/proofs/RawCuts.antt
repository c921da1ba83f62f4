-- A text may be cut where the pieces of raw text end.
use Rattle.std.proofs.Common.{◌≡◌, ℕ, zero, suc, ◌+◌, ◌-◌, ◌≤◌, ◌<◌, ◌==◌, ◌&&◌, min, nat_lt, Bool, true, false, cond, List, [], ◌∷◌, ◌++◌, length, take, drop, reverse, get_or, Option, Some, None, refl, sym, ap, subst, ◌∙◌, arith}
use Rattle.std.specs.List.{prefix_len, suffix_len}
use Rattle.std.specs.Str.{IsUtf8, IsCharBoundary}
use Rattle.std.proofs.lemmas.Bool.{eqb-true}
use Rattle.std.proofs.lemmas.Bool.Decides.{nat_tests}
use Rattle.std.proofs.lemmas.List.{append-nil, drop-drop, drop-take, get_or-drop, get_or-reverse, get_or-take, length-drop, length-reverse, length-take, take-take}
use Rattle.std.proofs.lemmas.List.Sums.{prefix_len-le-length, prefix_len_passes}
use Rattle.std.proofs.lemmas.Str.{IsCharBoundary-after_ascii, IsCharBoundary-before_ascii, IsCharBoundary-end, IsCharBoundary-from_rest, IsCharBoundary-start, IsUtf8-between, IsUtf8-drop, IsUtf8-take}
use Rattle.typst_base.specs.declared.kind.SyntaxKind.TheVariants as kinds
use Rattle.typst_parser.specs.Events.{bytes, bytes_of, CanBeCut, CanBeCutFrom}
use Rattle.typst_parser.specs.Last.{last_of}
use Rattle.typst_parser.proofs.Lasts.{last_was}
use Rattle.typst_parser.specs.Lines.{is_blank, Line, line_len, lines, lines_from, newline_len, whites_len}
use Rattle.typst_parser.specs.Raw.{block_pieces, body_events, close_len, cut_pieces, dedent, dedented, first_space, if_name, inner_events, is_backtick, is_marked, kept_lines, lang_len, open_len, Piece, piece_behind, pieces_from, plain_pieces, raw_events, raw_parts, shortened, some_lang, some_trimmed, trimmed_end}
use Rattle.typst_parser.specs.declared.event.Event.{Event}
use Rattle.typst_parser.specs.declared.event.Event.TheVariants.{Leaf, Node}
use Rattle.typst_parser.proofs.Boundaries.{boundary_in_rest, boundary-prefix}
use Rattle.typst_parser.proofs.Chars.{line_end_boundary, newline_end_boundary, whites_boundary}
use Rattle.typst_parser.proofs.Heights.{bytes-append}
use Rattle.typst_parser.proofs.RawLaws.{AreLines, close_within, dedented_chain, IsChain, lang_within, lines_are, open_within, plain_chain, raw_bytes}
use Rattle.typst_parser.proofs.Retags.{from-append}
use Rattle.typst_lexer.specs.FirstToken.{first}
use Rattle.typst_lexer.specs.declared.mode.Mode.TheVariants.{Code}
use Rattle.typst_lexer.specs.declared.place.Behind.TheVariants.{At}
use Rattle.typst_lexer.specs.declared.token.TokenKind.{TokenKind}
use Rattle.typst_lexer.specs.declared.token.TokenKind.TheVariants as tokens
use Rattle.typst_lexer.proofs.FirstTokens.{first_boundary}

-- what may be cut in the front of a text may be cut in the text
front_boundary : (bs : List ℕ) (n k : ℕ) → IsCharBoundary bs n → IsCharBoundary (take n bs) k → IsCharBoundary bs k
front_boundary bs n k at inner = (
  omega (arith, at.0, inner.0, length-take n bs),
  λ within high. by (nat_lt k n) refl within high,
)
  where
    by : (b : Bool) → nat_lt k n ≡ b → k < length bs → 128 ≤ get_or bs k 0 → 192 ≤ get_or bs k 0
    by true e within high =
        let low : k < n = grind (arith, nat_tests) in
        let same : get_or (take n bs) k 0 ≡ get_or bs k 0 = get_or-take n bs k 0 low in
        subst (λ b. 192 ≤ b) same (inner.1 (omega (arith, length-take n bs)) (subst (λ b. 128 ≤ b) (sym same) high))
    by false e within high =
        let equal : n ≡ k = le_both (omega (arith, inner.0, length-take n bs)) (grind (arith, nat_tests)) in
        at_same equal within high
      where
        le_both : k ≤ n → n ≤ k → n ≡ k
        le_both p q = omega arith

        at_same : n ≡ k → k < length bs → 128 ≤ get_or bs k 0 → 192 ≤ get_or bs k 0
        at_same equal = subst (λ j. j < length bs → 128 ≤ get_or bs j 0 → 192 ≤ get_or bs j 0) equal at.1

-- each line begins and ends where the text may be cut, and has its text
abbrev LinesCut : List ℕ → List Line → Type 0
LinesCut whole [] = Unit {0}
LinesCut whole (l ∷ ls) = IsCharBoundary whole l.from × IsCharBoundary whole l.to × (l.text ≡ take (l.to - l.from) (drop l.from whole)) × (l.from ≤ l.to) × LinesCut whole ls

lines_cut : (n from : ℕ) (whole : List ℕ) → IsUtf8 whole → IsCharBoundary whole from → LinesCut whole (lines_from n from (drop from whole))
lines_cut zero from whole u at = tt
lines_cut (suc n) from whole u at =
    let bs : List ℕ = drop from whole in
    let len : ℕ = line_len bs in
    let next : ℕ = newline_len (drop len bs) in
    let count : len ≡ from + len - from = omega arith in
    let others : LinesCut whole (lines_from n (from + (len + next)) (drop (len + next) bs)) =
    subst (λ rest. LinesCut whole (lines_from n (from + (len + next)) rest)) (sym (drop-drop (len + next) from whole)) (lines_cut n (from + (len + next)) whole u (newline_end_boundary whole from u at)) in
    (at, line_end_boundary whole from u at, ap (λ k. take k bs) count, omega arith, by (next == 0) (lines_from n (from + (len + next)) (drop (len + next) bs)) others)
  where
    by : (b : Bool) (ls : List Line) → LinesCut whole ls → LinesCut whole (cond b [] ls)
    by true ls others = tt
    by false ls others = others

-- the pieces begin and end where the text may be cut
abbrev PiecesCut : List ℕ → List Piece → Type 0
PiecesCut whole [] = Unit {0}
PiecesCut whole (p ∷ ps) = IsCharBoundary whole p.from × IsCharBoundary whole p.to × PiecesCut whole ps

-- a piece of a line that begins where the line may be cut
piece_cut : (whole : List ℕ) (l : Line) (k : ℕ) → IsUtf8 whole → IsCharBoundary whole l.from → IsCharBoundary whole l.to → l.text ≡ take (l.to - l.from) (drop l.from whole) → l.from ≤ l.to
    → IsCharBoundary l.text k → IsCharBoundary whole (piece_behind k l).from
piece_cut whole l k u from to text order inner =
    let rest : List ℕ = drop l.from whole in
    let end : IsCharBoundary rest (l.to - l.from) =
    (let same : l.from + (l.to - l.from) ≡ l.to = omega arith in boundary_in_rest whole l.from (l.to - l.from) (subst (IsCharBoundary whole) (sym same) to)) in
    let front : IsCharBoundary (take (l.to - l.from) rest) k = subst (λ bs. IsCharBoundary bs k) text inner in
    let low : l.from + k ≡ min (l.from + k) l.to = omega (arith, front.0, length-take (l.to - l.from) rest, order) in
    subst (IsCharBoundary whole) low (IsCharBoundary-from_rest whole l.from k from.0 (front_boundary rest (l.to - l.from) k end front))

line_utf8 : (whole : List ℕ) (l : Line) → IsUtf8 whole → IsCharBoundary whole l.from → IsCharBoundary whole l.to → l.text ≡ take (l.to - l.from) (drop l.from whole) → l.from ≤ l.to → IsUtf8 l.text
line_utf8 whole l u from to text order = subst IsUtf8 (sym text) (IsUtf8-between whole l.from l.to u order from to)

cut_cut : (whole : List ℕ) (cut : ℕ) (ls : List Line) → IsUtf8 whole → LinesCut whole ls → PiecesCut whole (cut_pieces cut ls)
cut_cut whole cut [] u c = tt
cut_cut whole cut (l ∷ ls) u c =
    (piece_cut whole l (whites_len cut l.text) u c.0 c.1 c.2 c.3 (whites_boundary cut l.text (line_utf8 whole l u c.0 c.1 c.2 c.3)), c.1, cut_cut whole cut ls u c.4)

plain_cut : (whole : List ℕ) (ls : List Line) → IsUtf8 whole → LinesCut whole ls → PiecesCut whole (plain_pieces ls)
plain_cut whole [] u c = tt
plain_cut whole (l ∷ ls) u c = (piece_cut whole l 0 u c.0 c.1 c.2 c.3 (IsCharBoundary-start l.text (line_utf8 whole l u c.0 c.1 c.2 c.3)), c.1, plain_cut whole ls u c.4)

space_boundary : (bs : List ℕ) → IsUtf8 bs → IsCharBoundary bs (first_space bs)
space_boundary [] u = IsCharBoundary-start [] u
space_boundary (b ∷ bs) u = by (b == 32) refl
  where
    by : (c : Bool) → (b == 32) ≡ c → IsCharBoundary (b ∷ bs) (cond c 1 0)
    by true e = let is : b ≡ 32 = eqb-true b 32 e in IsCharBoundary-after_ascii (b ∷ bs) 0 u (omega arith) (omega arith)
    by false e = IsCharBoundary-start (b ∷ bs) u

block_cut : (whole : List ℕ) (cut : ℕ) (ls : List Line) → IsUtf8 whole → LinesCut whole ls → PiecesCut whole (block_pieces cut ls)
block_cut whole cut [] u c = tt
block_cut whole cut (l ∷ ls) u c = by (is_blank l.text)
  where
    by : (b : Bool) → PiecesCut whole (cond b (cut_pieces cut ls) (piece_behind (first_space l.text) l ∷ cut_pieces cut ls))
    by true = cut_cut whole cut ls u c.4
    by false = (piece_cut whole l (first_space l.text) u c.0 c.1 c.2 c.3 (space_boundary l.text (line_utf8 whole l u c.0 c.1 c.2 c.3)), c.1, cut_cut whole cut ls u c.4)

text_length : (whole : List ℕ) (l : Line) → IsCharBoundary whole l.to → l.text ≡ take (l.to - l.from) (drop l.from whole) → length l.text ≡ l.to - l.from
text_length whole l to text = ap length text ∙ omega (arith, length-take (l.to - l.from) (drop l.from whole), length-drop l.from whole, to.0)

shortened_cut : (whole : List ℕ) (l : Line) (n : ℕ) → n ≤ length l.text → LinesCut whole (l ∷ []) → IsCharBoundary whole (l.to - n) → LinesCut whole (shortened n l ∷ [])
shortened_cut whole l n low c at =
    let count : length l.text ≡ l.to - l.from = text_length whole l c.1 c.2 in
    let left : length l.text - n ≡ l.to - n - l.from = omega (arith, count) in (
      c.0,
      at,
      ap (take (length l.text - n)) c.2 ∙ take-take (length l.text - n) (l.to - l.from) (drop l.from whole) (omega (arith, count)) ∙ ap (λ k. take k (drop l.from whole)) left,
      omega (arith, count, low, c.3),
      tt,
    )

last_byte : (whole : List ℕ) (l : Line) → LinesCut whole (l ∷ []) → 0 < length l.text → get_or whole (l.to - 1) 0 ≡ get_or l.text (length l.text - 1) 0
last_byte whole l c some =
    let count : length l.text ≡ l.to - l.from = text_length whole l c.1 c.2 in
    let place : l.from + (length l.text - 1) ≡ l.to - 1 = omega (arith, count) in
    sym (
    ap (λ bs. get_or bs (length l.text - 1) 0) c.2
    ∙ get_or-take (l.to - l.from) (drop l.from whole) (length l.text - 1) 0 (omega (arith, count))
    ∙ get_or-drop l.from whole (length l.text - 1) 0
    ∙ ap (λ k. get_or whole k 0) place
    )

marked_has : (bs : List ℕ) → is_marked bs ≡ true → (0 < length bs) × (get_or bs (length bs - 1) 0 ≡ 32)
marked_has bs e = by _ _ (get_or bs (length bs - 1) 0) e
  where
    by : (a : ℕ) (b : Bool) (c : ℕ) → (nat_lt a (length bs) && b && (c == 32)) ≡ true → (0 < length bs) × (c ≡ 32)
    by a b c e = (grind (arith, nat_tests), grind (arith, nat_tests))

end_cut : (whole : List ℕ) (l : Line) → LinesCut whole (l ∷ []) → LinesCut whole (shortened (trimmed_end l.text) l ∷ [])
end_cut whole l c = by (is_marked l.text) refl
  where
    by : (b : Bool) → is_marked l.text ≡ b → LinesCut whole (shortened (cond b 1 0) l ∷ [])
    by true e =
        let has = marked_has l.text e in
        let count : length l.text ≡ l.to - l.from = text_length whole l c.1 c.2 in
        let space : get_or whole (l.to - 1) 0 ≡ 32 = last_byte whole l c has.0 ∙ has.1 in
        let within : l.to ≤ length whole = c.1.0 in
        shortened_cut whole l 1 (omega (arith, has.0)) c (IsCharBoundary-before_ascii whole (l.to - 1) (omega (arith, count, has.0, within)) (omega (arith, space)))
    by false e = let same : l.to ≡ l.to - 0 = omega arith in shortened_cut whole l 0 (omega arith) c (subst (IsCharBoundary whole) same c.1)

cut_front : (whole : List ℕ) (ls ms : List Line) → LinesCut whole (ls ++ ms) → LinesCut whole ls
cut_front whole [] ms c = tt
cut_front whole (l ∷ ls) ms c = (c.0, c.1, c.2, c.3, cut_front whole ls ms c.4)

cut_behind : (whole : List ℕ) (ls ms : List Line) → LinesCut whole (ls ++ ms) → LinesCut whole ms
cut_behind whole [] ms c = c
cut_behind whole (l ∷ ls) ms c = cut_behind whole ls ms c.4

cut_join : (whole : List ℕ) (ls ms : List Line) → LinesCut whole ls → LinesCut whole ms → LinesCut whole (ls ++ ms)
cut_join whole [] ms c d = d
cut_join whole (l ∷ ls) ms c d = (c.0, c.1, c.2, c.3, cut_join whole ls ms c.4 d)

kept_cut : (whole : List ℕ) (ls : List Line) → LinesCut whole ls → LinesCut whole (kept_lines (last_of ls))
kept_cut whole ls c = by (last_of ls) refl
  where
    by : (o : Option (List Line × Line)) → last_of ls ≡ o → LinesCut whole (kept_lines o)
    by None e = tt
    by (Some p) e = blank (is_blank p.1.text)
      where
        split : LinesCut whole (p.0 ++ p.1 ∷ [])
        split = subst (LinesCut whole) (last_was ls p e) c

        blank : (b : Bool) → LinesCut whole (cond b p.0 (p.0 ++ shortened (trimmed_end p.1.text) p.1 ∷ []))
        blank true = cut_front whole p.0 (p.1 ∷ []) split
        blank false = cut_join whole p.0 (shortened (trimmed_end p.1.text) p.1 ∷ []) (cut_front whole p.0 (p.1 ∷ []) split) (end_cut whole p.1 (cut_behind whole p.0 (p.1 ∷ []) split))

dedented_cut : (whole : List ℕ) (ls : List Line) → IsUtf8 whole → LinesCut whole ls → PiecesCut whole (dedented ls)
dedented_cut whole ls u c = block_cut whole (dedent ls) (kept_lines (last_of ls)) u (kept_cut whole ls c)

-- the events of pieces
trimmed_cut : (whole : List ℕ) (place n : ℕ) (es : List Event) → IsCharBoundary whole (place + n) → CanBeCutFrom (place + n) whole es → CanBeCutFrom place whole (some_trimmed n ++ es)
trimmed_cut whole place zero es at c = let same : place + 0 ≡ place = omega arith in subst (λ k. CanBeCutFrom k whole es) same c
trimmed_cut whole place (suc n) es at c = (at, c)

pieces_cut : (whole : List ℕ) (place : ℕ) (ps : List Piece) (end : ℕ) → IsChain place ps end → PiecesCut whole ps → IsCharBoundary whole end → CanBeCutFrom place whole (pieces_from place ps end)
pieces_cut whole place [] end c p at =
    let same : place + (end - place) ≡ end = omega (arith, c) in
    subst (CanBeCutFrom place whole) (append-nil (some_trimmed (end - place))) (trimmed_cut whole place (end - place) [] (subst (IsCharBoundary whole) (sym same) at) tt)
pieces_cut whole place (p ∷ ps) end c d at =
    let from : place + (p.from - place) ≡ p.from = omega (arith, c.0) in
    let to : place + (p.from - place) + (p.to - p.from) ≡ p.to = omega (arith, c.0, c.1) in
    trimmed_cut whole place (p.from - place) (Leaf kinds.Text (p.to - p.from) ∷ pieces_from p.to ps end) (subst (IsCharBoundary whole) (sym from) d.0)
    (subst (IsCharBoundary whole) (sym to) d.1, subst (λ k. CanBeCutFrom k whole (pieces_from p.to ps end)) (sym to) (pieces_cut whole p.to ps end c.2 d.2 at))

lang_cut : (whole : List ℕ) (place n : ℕ) (es : List Event) → IsCharBoundary whole (place + n) → CanBeCutFrom (place + n) whole es → CanBeCutFrom place whole (some_lang n ++ es)
lang_cut whole place zero es at c = let same : place + 0 ≡ place = omega arith in subst (λ k. CanBeCutFrom k whole es) same c
lang_cut whole place (suc n) es at c = (at, c)

lang_boundary : (bs : List ℕ) → IsUtf8 bs → IsCharBoundary bs (lang_len bs)
lang_boundary [] u = IsCharBoundary-start [] u
lang_boundary (b ∷ bs) u = by (first Code At (b ∷ bs)).kind
  where
    at : IsCharBoundary (b ∷ bs) (first Code At (b ∷ bs)).len
    at = first_boundary Code At (b ∷ bs)

    by : (kind : TokenKind) → IsCharBoundary (b ∷ bs) (if_name kind (first Code At (b ∷ bs)).len)
    by tokens.Ident = at
    by tokens.Underscore = at
    by _ = IsCharBoundary-start (b ∷ bs) u

-- what is between the backticks, in the text up to the closing ones
body_cut : (whole : List ℕ) (n : ℕ) → IsUtf8 whole → IsCharBoundary whole n → CanBeCutFrom n whole (body_events n (drop n whole))
body_cut whole n u at = by (n == 1)
  where
    bs : List ℕ
    bs = drop n whole

    end : n + length bs ≡ length whole
    end = omega (arith, length-drop n whole, at.0)

    at_end : IsCharBoundary whole (n + length bs)
    at_end = subst (IsCharBoundary whole) (sym end) (IsCharBoundary-end whole)

    place : ℕ
    place = n + lang_len bs

    at_lang : IsCharBoundary whole place
    at_lang = IsCharBoundary-from_rest whole n (lang_len bs) at.0 (lang_boundary bs (IsUtf8-drop whole n u at))

    rest : drop (lang_len bs) bs ≡ drop place whole
    rest = drop-drop (lang_len bs) n whole

    by : (b : Bool) → CanBeCutFrom n whole (cond b (pieces_from n (plain_pieces (lines n bs)) (n + length bs))
        (some_lang (lang_len bs) ++ pieces_from place (dedented (lines place (drop (lang_len bs) bs))) (n + length bs)))
    by true = pieces_cut whole n (plain_pieces (lines n bs)) (n + length bs) (plain_chain n (lines n bs) (n + length bs) (lines_are (suc (length bs)) n bs)) (plain_cut whole (lines n bs) u (lines_cut (suc (length bs)) n whole u at)) at_end
    by false =
        let ls : List Line = lines place (drop (lang_len bs) bs) in
        let last : place + length (drop (lang_len bs) bs) ≡ n + length bs = omega (arith, lang_within bs, length-drop (lang_len bs) bs) in
        let cuts : LinesCut whole ls = subst (λ xs. LinesCut whole (lines_from (suc (length xs)) place xs)) (sym rest) (lines_cut (suc (length (drop place whole))) place whole u at_lang) in
        lang_cut whole n (lang_len bs) (pieces_from place (dedented ls) (n + length bs)) at_lang
        (pieces_cut whole place (dedented ls) (n + length bs) (dedented_chain place ls (n + length bs) (subst (AreLines place ls) last (lines_are (suc (length (drop (lang_len bs) bs))) place (drop (lang_len bs) bs)))) (dedented_cut whole ls u cuts) at_end)

-- cuts of the front of a text
cuts_front : (bs : List ℕ) (end n : ℕ) (es : List Event) → IsCharBoundary bs end → CanBeCutFrom n (take end bs) es → CanBeCutFrom n bs es
cuts_front bs end n [] at c = tt
cuts_front bs end n (e ∷ es) at c = (front_boundary bs end (n + bytes_of e) at c.0, cuts_front bs end (n + bytes_of e) es at c.1)

inside : (bs : List ℕ) (end n : ℕ) → n ≤ end → end ≤ length bs → IsCharBoundary bs n → IsCharBoundary (take end bs) n
inside bs end n low short at = (
  omega (arith, length-take end bs),
  λ within high.
      let same : get_or (take end bs) n 0 ≡ get_or bs n 0 = get_or-take end bs n 0 (omega (arith, within, length-take end bs)) in
      subst (λ b. 192 ≤ b) (sym same) (at.1 (omega (arith, within, length-take end bs)) (subst (λ b. 128 ≤ b) same high)),
)

backtick_ascii : (b : ℕ) → is_backtick b ≡ true → b < 128
backtick_ascii b e = let is : b ≡ 96 = eqb-true b 96 e in omega arith

open_boundary : (bs : List ℕ) → IsUtf8 bs → IsCharBoundary bs (open_len bs)
open_boundary bs u = by (prefix_len is_backtick bs == 2) (length bs == 2) refl
  where
    all : IsCharBoundary bs (prefix_len is_backtick bs)
    all = boundary-prefix is_backtick backtick_ascii bs u

    by : (a b : Bool) → (prefix_len is_backtick bs == 2) ≡ a → IsCharBoundary bs (cond (a && b) 1 (prefix_len is_backtick bs))
    by true true e =
        let two : prefix_len is_backtick bs ≡ 2 = eqb-true (prefix_len is_backtick bs) 2 e in
        IsCharBoundary-after_ascii bs 0 u (omega (arith, two, prefix_len-le-length is_backtick bs)) (backtick_ascii (get_or bs 0 0) (prefix_len_passes is_backtick bs 0 0 (omega arith)))
    by true false e = all
    by false b e = all

close_boundary : (n : ℕ) (bs : List ℕ) → n ≤ length bs → IsCharBoundary bs (length bs - close_len n bs)
close_boundary n bs low = by (close_len n bs) refl
  where
    rest : List ℕ
    rest = drop n bs

    by : (c : ℕ) → close_len n bs ≡ c → IsCharBoundary bs (length bs - c)
    by zero e = let same : length bs ≡ length bs - 0 = omega arith in subst (IsCharBoundary bs) same (IsCharBoundary-end bs)
    by (suc c) e =
        let within : suc c ≤ suffix_len is_backtick rest = omega (arith, e) in
        let short : suc c ≤ length bs - n = omega (arith, within, prefix_len-le-length is_backtick (reverse rest), length-reverse rest, length-drop n bs) in
        let passes : is_backtick (get_or (reverse rest) c 0) ≡ true = prefix_len_passes is_backtick (reverse rest) c 0 (omega (arith, within)) in
        let place : n + (length rest - 1 - c) ≡ length bs - suc c = omega (arith, short, length-drop n bs) in
        let byte : get_or (reverse rest) c 0 ≡ get_or bs (length bs - suc c) 0 =
        get_or-reverse rest c 0 (omega (arith, short, length-drop n bs)) ∙ get_or-drop n bs (length rest - 1 - c) 0 ∙ ap (λ k. get_or bs k 0) place in
        IsCharBoundary-before_ascii bs (length bs - suc c) (omega (arith, short)) (backtick_ascii (get_or bs (length bs - suc c) 0) (sym (ap is_backtick byte) ∙ passes))

inner_cut : (bs : List ℕ) → IsUtf8 bs → CanBeCutFrom (open_len bs) bs (inner_events (open_len bs) bs)
inner_cut bs u = by (length bs == n + close_len n bs)
  where
    n : ℕ
    n = open_len bs

    end : ℕ
    end = length bs - close_len n bs

    at : IsCharBoundary bs end
    at = close_boundary n bs (open_within bs)

    front : List ℕ
    front = take end bs

    low : n ≤ end
    low = omega (arith, open_within bs, close_within n bs)

    body : take (end - n) (drop n bs) ≡ drop n front
    body = let same : n + (end - n) ≡ end = omega (arith, low) in sym (drop-take n (end - n) bs) ∙ ap (λ k. drop n (take k bs)) same

    by : (b : Bool) → CanBeCutFrom n bs (cond b [] (body_events n (take (end - n) (drop n bs))))
    by true = tt
    by false =
        subst (λ xs. CanBeCutFrom n bs (body_events n xs)) (sym body)
        (cuts_front bs end n (body_events n (drop n front)) at (body_cut front n (IsUtf8-take bs end u at) (inside bs end n low (omega arith) (open_boundary bs u))))

-- raw text may be cut where its pieces end
pub raw_cut : (bs : List ℕ) → IsUtf8 bs → CanBeCut bs (raw_events bs)
raw_cut bs u =
    let n : ℕ = open_len bs in
    let inner : List Event = inner_events n bs in
    let close : List Event = Leaf kinds.RawDelim (close_len n bs) ∷ [] in
    let node : List Event = Node kinds.Raw (length (raw_parts n bs)) ∷ [] in
    let all : bytes (raw_events bs) ≡ length bs = raw_bytes bs in
    let sums : 0 + n + bytes inner + close_len n bs ≡ length bs = omega (arith, all, bytes-append (raw_parts n bs) node, bytes-append inner close) in
    let last : IsCharBoundary bs (0 + n + bytes inner + close_len n bs) = subst (IsCharBoundary bs) (sym sums) (IsCharBoundary-end bs) in
    let start : n ≡ 0 + n = omega arith in
    let parts : CanBeCutFrom (0 + n) bs (inner ++ close) = from-append (0 + n) bs inner close (subst (λ k. CanBeCutFrom k bs inner) start (inner_cut bs u)) (last, tt) in
    let end : 0 + bytes (raw_parts n bs) + 0 ≡ length bs = omega (arith, all, bytes-append (raw_parts n bs) node) in
    from-append 0 bs (raw_parts n bs) node (subst (IsCharBoundary bs) start (open_boundary bs u), parts) (subst (IsCharBoundary bs) (sym end) (IsCharBoundary-end bs), tt)

-- the same of raw text within a text
cuts_in : (text : List ℕ) (n len k : ℕ) (es : List Event) → IsCharBoundary text n → IsCharBoundary text (n + len) → CanBeCutFrom k (take len (drop n text)) es → CanBeCutFrom (n + k) text es
cuts_in text n len k [] at end c = tt
cuts_in text n len k (e ∷ es) at end c =
    let here : IsCharBoundary text (n + (k + bytes_of e)) =
    IsCharBoundary-from_rest text n (k + bytes_of e) at.0 (front_boundary (drop n text) len (k + bytes_of e) (boundary_in_rest text n len end) c.0) in
    let same : n + (k + bytes_of e) ≡ n + k + bytes_of e = omega arith in
    (subst (IsCharBoundary text) same here, subst (λ j. CanBeCutFrom j text es) same (cuts_in text n len (k + bytes_of e) es at end c.1))

pub raw_cut_in : (text : List ℕ) (n len : ℕ) → IsUtf8 text → IsCharBoundary text n → IsCharBoundary text (n + len) → CanBeCutFrom n text (raw_events (take len (drop n text)))
raw_cut_in text n len u at end =
    let v : IsUtf8 (take len (drop n text)) = IsUtf8-take (drop n text) len (IsUtf8-drop text n u at) (boundary_in_rest text n len end) in
    let same : n + 0 ≡ n = omega arith in
    subst (λ j. CanBeCutFrom j text (raw_events (take len (drop n text)))) same (cuts_in text n len 0 (raw_events (take len (drop n text))) at end (raw_cut (take len (drop n text)) v))
