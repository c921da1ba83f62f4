-- Raw text keeps its bytes, and its tree has two levels.
use Rattle.std.proofs.Common.{◌≡◌, ℕ, zero, suc, ◌+◌, ◌-◌, ◌≤◌, ◌==◌, ◌&&◌, ◌||◌, nat_le, nat_lt, Bool, true, false, cond, List, [], ◌∷◌, ◌++◌, length, take, drop, replicate, reverse, Option, Some, None, refl, sym, ap, subst, ◌∙◌, append_assoc, length-append, arith}
use Rattle.std.proofs.lemmas.Bool.{eqb-true}
use Rattle.std.proofs.lemmas.Bool.Decides.{nat_tests}
use Rattle.std.proofs.lemmas.List.{append-nil, drop_at, length-drop, length-replicate, length-reverse, length-take, take_at}
use Rattle.std.proofs.lemmas.List.Sums.{prefix_len-le-length}
use Rattle.std.specs.List.{prefix_len}
use Rattle.typst_base.specs.declared.kind.SyntaxKind.{SyntaxKind}
use Rattle.typst_base.specs.declared.kind.SyntaxKind.TheVariants as kinds
use Rattle.typst_parser.specs.Events.{but_last, bytes, greatest, last_some, levels_onto}
use Rattle.typst_parser.specs.Last.{last_of}
use Rattle.typst_parser.proofs.Lasts.{last_was}
use Rattle.typst_parser.specs.Lines.{is_blank, Line, line_len, lines_from, newline_len}
use Rattle.typst_parser.specs.Raw.{if_name, block_pieces, body_events, close_len, cut_pieces, dedent, dedented, first_space, inner_events, is_marked, kept_lines, lang_len, open_len, Piece, piece_behind, pieces_from, plain_pieces, raw_events, raw_parts, shortened, some_lang, some_trimmed, trimmed_end, is_backtick}
use Rattle.typst_parser.specs.declared.event.Event.{Event}
use Rattle.typst_lexer.specs.FirstToken.{first}
use Rattle.typst_lexer.specs.declared.mode.Mode.TheVariants.{Code}
use Rattle.typst_lexer.specs.declared.place.Behind.TheVariants.{At}
use Rattle.typst_lexer.specs.declared.token.TokenKind.{TokenKind}
use Rattle.typst_lexer.specs.declared.token.TokenKind.TheVariants as tokens
use Rattle.typst_lexer.proofs.FirstTokens.{first_within}
use Rattle.typst_parser.specs.declared.event.Event.TheVariants.{Leaf, Error, Node}
use Rattle.typst_lexer.specs.Characters.{begins_with}
use Rattle.typst_parser.proofs.Chars.{begins_length, line_within}
use Rattle.typst_parser.proofs.Heights.{bytes-append, levels-push}

-- leaves

abbrev AreLeaves : List Event → Type 0
AreLeaves [] = Unit {0}
AreLeaves (Leaf kind len ∷ es) = AreLeaves es
AreLeaves (Error fault len ∷ es) = ⊥
AreLeaves (Node kind children ∷ es) = ⊥

leaves_append : (es fs : List Event) → AreLeaves es → AreLeaves fs → AreLeaves (es ++ fs)
leaves_append [] fs p q = q
leaves_append (Leaf kind len ∷ es) fs p q = leaves_append es fs p q
leaves_append (Error fault len ∷ es) fs p q = absurd p
leaves_append (Node kind children ∷ es) fs p q = absurd p

trimmed_leaves : (n : ℕ) → AreLeaves (some_trimmed n)
trimmed_leaves zero = tt
trimmed_leaves (suc n) = tt

lang_leaves : (n : ℕ) → AreLeaves (some_lang n)
lang_leaves zero = tt
lang_leaves (suc n) = tt

pieces_leaves : (place : ℕ) (ps : List Piece) (end : ℕ) → AreLeaves (pieces_from place ps end)
pieces_leaves place [] end = trimmed_leaves (end - place)
pieces_leaves place (p ∷ ps) end = leaves_append (some_trimmed (p.from - place)) (Leaf kinds.Text (p.to - p.from) ∷ pieces_from p.to ps end) (trimmed_leaves (p.from - place)) (pieces_leaves p.to ps end)

inner_leaves : (n : ℕ) (bs : List ℕ) → AreLeaves (inner_events n bs)
inner_leaves n bs = by (length bs == n + close_len n bs)
  where
    body : List ℕ
    body = take (length bs - close_len n bs - n) (drop n bs)

    one : (b : Bool) → AreLeaves (cond b (pieces_from n (plain_pieces (lines_from (suc (length body)) n body)) (n + length body))
        (some_lang (lang_len body) ++ pieces_from (n + lang_len body) (dedented (lines_from (suc (length (drop (lang_len body) body))) (n + lang_len body) (drop (lang_len body) body))) (n + length body)))
    one true = pieces_leaves n (plain_pieces (lines_from (suc (length body)) n body)) (n + length body)
    one false =
        let ps : List Piece = dedented (lines_from (suc (length (drop (lang_len body) body))) (n + lang_len body) (drop (lang_len body) body)) in
        leaves_append (some_lang (lang_len body)) (pieces_from (n + lang_len body) ps (n + length body)) (lang_leaves (lang_len body)) (pieces_leaves (n + lang_len body) ps (n + length body))

    by : (b : Bool) → AreLeaves (cond b [] (body_events n body))
    by true = tt
    by false = one (n == 1)

parts_leaves : (n : ℕ) (bs : List ℕ) → AreLeaves (raw_parts n bs)
parts_leaves n bs = leaves_append (inner_events n bs) (Leaf kinds.RawDelim (close_len n bs) ∷ []) (inner_leaves n bs) tt

leaf_levels : (ns : List ℕ) (es : List Event) → AreLeaves es → levels_onto ns es ≡ ns ++ replicate (length es) 1
leaf_levels ns [] p = sym (append-nil ns)
leaf_levels ns (Leaf kind len ∷ es) p = leaf_levels (ns ++ 1 ∷ []) es p ∙ append_assoc ns (1 ∷ []) (replicate (length es) 1)
leaf_levels ns (Error fault len ∷ es) p = absurd p
leaf_levels ns (Node kind children ∷ es) p = absurd p

greatest_ones : (n : ℕ) → greatest (replicate (suc n) 1) ≡ 1
greatest_ones zero = omega arith
greatest_ones (suc n) = omega (arith, greatest_ones n)

-- a node of all leaves behind other trees
over_leaves : (kind : SyntaxKind) (ns : List ℕ) (e : Event) (es : List Event) → AreLeaves (e ∷ es) → levels_onto ns ((e ∷ es) ++ Node kind (length (e ∷ es)) ∷ []) ≡ ns ++ 2 ∷ []
over_leaves kind ns e es p =
    let k : ℕ = length (e ∷ es) in
    let below : List ℕ = ns ++ replicate k 1 in
    let count : length below ≡ length ns + k = length-append ns (replicate k 1) ∙ ap (λ n. length ns + n) (length-replicate k 1) in
    let place : length ns ≡ length below - k = omega (arith, count) in
    levels-push ns (e ∷ es) (Node kind k)
    ∙ ap (λ ms. but_last k ms ++ suc (greatest (last_some k ms)) ∷ []) (leaf_levels ns (e ∷ es) p)
    ∙ (λ i. take_at ns (replicate k 1) (length below - k) place i ++ suc (greatest (drop_at ns (replicate k 1) (length below - k) place i)) ∷ [])
    ∙ ap (λ n. ns ++ suc n ∷ []) (greatest_ones (length es))

-- raw text is one tree with two levels
pub raw_levels : (ns : List ℕ) (bs : List ℕ) → levels_onto ns (raw_events bs) ≡ ns ++ 2 ∷ []
raw_levels ns bs = over_leaves kinds.Raw ns (Leaf kinds.RawDelim (open_len bs)) (inner_events (open_len bs) bs ++ Leaf kinds.RawDelim (close_len (open_len bs) bs) ∷ []) (parts_leaves (open_len bs) bs)

-- bytes

trimmed_bytes : (n : ℕ) → bytes (some_trimmed n) ≡ n
trimmed_bytes zero = refl
trimmed_bytes (suc n) = omega arith

lang_bytes : (n : ℕ) → bytes (some_lang n) ≡ n
lang_bytes zero = refl
lang_bytes (suc n) = omega arith

-- the pieces come one after the other between two places
abbrev pub IsChain : ℕ → List Piece → ℕ → Type 0
IsChain place [] end = place ≤ end
IsChain place (p ∷ ps) end = (place ≤ p.from) × (p.from ≤ p.to) × IsChain p.to ps end

chain_end : (place : ℕ) (ps : List Piece) (end : ℕ) → IsChain place ps end → place ≤ end
chain_end place [] end c = c
chain_end place (p ∷ ps) end c = omega (arith, c.0, c.1, chain_end p.to ps end c.2)

pieces_bytes : (place : ℕ) (ps : List Piece) (end : ℕ) → IsChain place ps end → bytes (pieces_from place ps end) ≡ end - place
pieces_bytes place [] end c = trimmed_bytes (end - place)
pieces_bytes place (p ∷ ps) end c =
    omega (
      arith,
      bytes-append (some_trimmed (p.from - place)) (Leaf kinds.Text (p.to - p.from) ∷ pieces_from p.to ps end),
      trimmed_bytes (p.from - place),
      pieces_bytes p.to ps end c.2,
      chain_end p.to ps end c.2,
      c.0,
      c.1,
    )

-- and so do the lines, each as long as its text
abbrev pub AreLines : ℕ → List Line → ℕ → Type 0
AreLines place [] end = place ≤ end
AreLines place (l ∷ ls) end = (place ≤ l.from) × (l.to ≡ l.from + length l.text) × AreLines l.to ls end

lines_end : (place : ℕ) (ls : List Line) (end : ℕ) → AreLines place ls end → place ≤ end
lines_end place [] end c = c
lines_end place (l ∷ ls) end c = omega (arith, c.0, c.1, lines_end l.to ls end c.2)

lines_before : (place before : ℕ) (ls : List Line) (end : ℕ) → before ≤ place → AreLines place ls end → AreLines before ls end
lines_before place before [] end low c = omega (arith, low, c)
lines_before place before (l ∷ ls) end low c = (omega (arith, low, c.0), c.1, c.2)

lines_front : (place : ℕ) (ls ms : List Line) (end : ℕ) → AreLines place (ls ++ ms) end → AreLines place ls end
lines_front place [] ms end c = lines_end place ms end c
lines_front place (l ∷ ls) ms end c = (c.0, c.1, lines_front l.to ls ms end c.2)

shortened_lines : (place : ℕ) (ls : List Line) (n : ℕ) (l : Line) (end : ℕ) → n ≤ length l.text → AreLines place (ls ++ l ∷ []) end → AreLines place (ls ++ shortened n l ∷ []) end
shortened_lines place [] n l end low c =
    let count : length (take (length l.text - n) l.text) ≡ length l.text - n = omega (arith, length-take (length l.text - n) l.text) in
    (c.0, omega (arith, c.1, count, low), omega (arith, c.2))
shortened_lines place (m ∷ ls) n l end low c = (c.0, c.1, shortened_lines m.to ls n l end low c.2)

end_low : (bs : List ℕ) → trimmed_end bs ≤ length bs
end_low bs = by (is_marked bs) refl
  where
    some : (a : ℕ) (b c : Bool) → (nat_lt a (length bs) && b && c) ≡ true → 1 ≤ length bs
    some a b c e = grind (arith, nat_tests)

    by : (b : Bool) → is_marked bs ≡ b → cond b 1 0 ≤ length bs
    by true e = some _ _ _ e
    by false e = omega arith

kept_are : (place : ℕ) (ls : List Line) (end : ℕ) → AreLines place ls end → AreLines place (kept_lines (last_of ls)) end
kept_are place ls end c = by (last_of ls) refl
  where
    by : (o : Option (List Line × Line)) → last_of ls ≡ o → AreLines place (kept_lines o) end
    by None e = lines_end place ls end c
    by (Some p) e = blank (is_blank p.1.text)
      where
        split : AreLines place (p.0 ++ p.1 ∷ []) end
        split = subst (λ ms. AreLines place ms end) (last_was ls p e) c

        blank : (b : Bool) → AreLines place (cond b p.0 (p.0 ++ shortened (trimmed_end p.1.text) p.1 ∷ [])) end
        blank true = lines_front place p.0 (p.1 ∷ []) end split
        blank false = shortened_lines place p.0 (trimmed_end p.1.text) p.1 end (end_low p.1.text) split

cut_chain : (place cut : ℕ) (ls : List Line) (end : ℕ) → AreLines place ls end → IsChain place (cut_pieces cut ls) end
cut_chain place cut [] end c = c
cut_chain place cut (l ∷ ls) end c = (omega (arith, c.0, c.1), omega arith, cut_chain l.to cut ls end c.2)

pub plain_chain : (place : ℕ) (ls : List Line) (end : ℕ) → AreLines place ls end → IsChain place (plain_pieces ls) end
plain_chain place [] end c = c
plain_chain place (l ∷ ls) end c = (omega (arith, c.0, c.1), omega arith, plain_chain l.to ls end c.2)

block_chain : (place cut : ℕ) (ls : List Line) (end : ℕ) → AreLines place ls end → IsChain place (block_pieces cut ls) end
block_chain place cut [] end c = c
block_chain place cut (l ∷ ls) end c = by (is_blank l.text)
  where
    by : (b : Bool) → IsChain place (cond b (cut_pieces cut ls) (piece_behind (first_space l.text) l ∷ cut_pieces cut ls)) end
    by true = cut_chain place cut ls end (lines_before l.to place ls end (omega (arith, c.0, c.1)) c.2)
    by false = (omega (arith, c.0, c.1), omega arith, cut_chain l.to cut ls end c.2)

either : (a b : Bool) (A : Type 0) → (a || b) ≡ true → (a ≡ true → A) → (b ≡ true → A) → A
either true b A e p q = p refl
either false b A e p q = q e

bound : (b : Bool) (x y n : ℕ) → (b ≡ true → x ≤ n) → y ≤ n → cond b x y ≤ n
bound true x y n p q = p refl
bound false x y n p q = q

newline_within : (bs : List ℕ) → newline_len bs ≤ length bs
newline_within [] = omega arith
newline_within (a ∷ bs) =
    let text : List ℕ = a ∷ bs in
    bound (begins_with (13 ∷ 10 ∷ []) text) 2 _ _ (begins_length (13 ∷ 10 ∷ []) text)
    (bound (nat_le 10 a && nat_le a 13) 1 _ _ (λ e. omega arith)
    (bound (begins_with (0xC2 ∷ 0x85 ∷ []) text) 2 _ _ (begins_length (0xC2 ∷ 0x85 ∷ []) text)
    (bound (begins_with (0xE2 ∷ 0x80 ∷ 0xA8 ∷ []) text || begins_with (0xE2 ∷ 0x80 ∷ 0xA9 ∷ []) text) 3 0 _
    (λ e. either _ _ _ e (begins_length (0xE2 ∷ 0x80 ∷ 0xA8 ∷ []) text) (begins_length (0xE2 ∷ 0x80 ∷ 0xA9 ∷ []) text))
    (omega arith))))

pub lines_are : (n from : ℕ) (bs : List ℕ) → AreLines from (lines_from n from bs) (from + length bs)
lines_are zero from bs = omega arith
lines_are (suc n) from bs =
    let len : ℕ = line_len bs in
    let next : ℕ = newline_len (drop len bs) in
    let count : length (take len bs) ≡ len = omega (arith, length-take len bs, line_within bs) in
    let k : ℕ = len + next in
    let within : k ≤ length bs = omega (arith, line_within bs, newline_within (drop len bs), length-drop len bs) in
    let same : from + k + length (drop k bs) ≡ from + length bs = omega (arith, within, length-drop k bs) in
    let others : AreLines (from + len) (lines_from n (from + k) (drop k bs)) (from + length bs) =
    lines_before (from + k) (from + len) (lines_from n (from + k) (drop k bs)) (from + length bs) (omega arith)
    (subst (λ end. AreLines (from + k) (lines_from n (from + k) (drop k bs)) end) same (lines_are n (from + k) (drop k bs))) in
    (omega arith, omega (arith, count), by (next == 0) (lines_from n (from + k) (drop k bs)) others)
  where
    by : (b : Bool) (ls : List Line) → AreLines (from + line_len bs) ls (from + length bs) → AreLines (from + line_len bs) (cond b [] ls) (from + length bs)
    by true ls others = omega (arith, line_within bs)
    by false ls others = others

pub dedented_chain : (place : ℕ) (ls : List Line) (end : ℕ) → AreLines place ls end → IsChain place (dedented ls) end
dedented_chain place ls end c = block_chain place (dedent ls) (kept_lines (last_of ls)) end (kept_are place ls end c)

pub lang_within : (bs : List ℕ) → lang_len bs ≤ length bs
lang_within [] = omega arith
lang_within (b ∷ bs) = by (first Code At (b ∷ bs)).kind
  where
    within : (first Code At (b ∷ bs)).len ≤ length (b ∷ bs)
    within = (first_within Code At (b ∷ bs) (omega arith)).1

    by : (kind : TokenKind) → if_name kind (first Code At (b ∷ bs)).len ≤ length (b ∷ bs)
    by tokens.Ident = within
    by tokens.Underscore = within
    by _ = omega arith

body_bytes : (n : ℕ) (bs : List ℕ) → bytes (body_events n bs) ≡ length bs
body_bytes n bs = by (n == 1)
  where
    rest : List ℕ
    rest = drop (lang_len bs) bs

    by : (b : Bool) → bytes (cond b (pieces_from n (plain_pieces (lines_from (suc (length bs)) n bs)) (n + length bs))
        (some_lang (lang_len bs) ++ pieces_from (n + lang_len bs) (dedented (lines_from (suc (length rest)) (n + lang_len bs) rest)) (n + length bs))) ≡ length bs
    by true = omega (arith, pieces_bytes n (plain_pieces (lines_from (suc (length bs)) n bs)) (n + length bs) (plain_chain n (lines_from (suc (length bs)) n bs) (n + length bs) (lines_are (suc (length bs)) n bs)))
    by false =
        let place : ℕ = n + lang_len bs in
        let ls : List Line = lines_from (suc (length rest)) place rest in
        let end : place + length rest ≡ n + length bs = omega (arith, lang_within bs, length-drop (lang_len bs) bs) in
        let chain : IsChain place (dedented ls) (n + length bs) = dedented_chain place ls (n + length bs) (subst (AreLines place ls) end (lines_are (suc (length rest)) place rest)) in
        omega (arith, bytes-append (some_lang (lang_len bs)) (pieces_from place (dedented ls) (n + length bs)), lang_bytes (lang_len bs), pieces_bytes place (dedented ls) (n + length bs) chain, lang_within bs)

pub open_within : (bs : List ℕ) → open_len bs ≤ length bs
open_within bs = by (prefix_len is_backtick bs == 2) (length bs == 2) refl
  where
    by : (a b : Bool) → (length bs == 2) ≡ b → cond (a && b) 1 (prefix_len is_backtick bs) ≤ length bs
    by true true e = let two : length bs ≡ 2 = eqb-true (length bs) 2 e in omega arith
    by true false e = prefix_len-le-length is_backtick bs
    by false b e = prefix_len-le-length is_backtick bs

pub close_within : (n : ℕ) (bs : List ℕ) → close_len n bs ≤ length bs - n
close_within n bs = omega (arith, prefix_len-le-length is_backtick (reverse (drop n bs)), length-reverse (drop n bs), length-drop n bs)

-- raw text has all of its bytes
pub raw_bytes : (bs : List ℕ) → bytes (raw_events bs) ≡ length bs
raw_bytes bs =
    let n : ℕ = open_len bs in
    omega (
      arith,
      bytes-append (raw_parts n bs) (Node kinds.Raw (length (raw_parts n bs)) ∷ []),
      bytes-append (inner_events n bs) (Leaf kinds.RawDelim (close_len n bs) ∷ []),
      by (length bs == n + close_len n bs) refl,
      open_within bs,
      close_within n bs,
    )
  where
    n : ℕ
    n = open_len bs

    body : List ℕ
    body = take (length bs - close_len n bs - n) (drop n bs)

    by : (b : Bool) → (length bs == n + close_len n bs) ≡ b → bytes (cond b [] (body_events n body)) ≡ length bs - close_len n bs - n
    by true e = let all : length bs ≡ n + close_len n bs = eqb-true (length bs) (n + close_len n bs) e in omega arith
    by false e = omega (arith, body_bytes n body, length-take (length bs - close_len n bs - n) (drop n bs), length-drop n bs)
