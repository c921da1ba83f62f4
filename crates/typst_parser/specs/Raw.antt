-- The events of raw text.
use Rattle.std.specs.Prelude.{ℕ, zero, suc, ◌+◌, ◌-◌, ◌==◌, ◌&&◌, min, nat_lt, not, Bool, List, [], ◌∷◌, ◌++◌, length, take, drop, slice_index, Option, Some, None, if◌then◌else◌}
use Rattle.std.specs.List.{prefix_len, suffix_len}
use Rattle.typst_base.specs.declared.kind.SyntaxKind.TheVariants as kinds
use Rattle.typst_parser.specs.Last.{last_of}
use Rattle.typst_parser.specs.Lines.{indent, is_blank, Line, lines, whites_len}
use Rattle.typst_parser.specs.declared.event.Event.{Event}
use Rattle.typst_parser.specs.declared.event.Event.TheVariants.{Leaf, Node}
use Rattle.typst_lexer.specs.FirstToken.{first}
use Rattle.typst_lexer.specs.declared.mode.Mode.TheVariants.{Code}
use Rattle.typst_lexer.specs.declared.place.Behind.TheVariants.{At}
use Rattle.typst_lexer.specs.declared.token.TokenKind.{TokenKind}
use Rattle.typst_lexer.specs.declared.token.TokenKind.TheVariants as tokens

-- a piece of raw text that isn't trimmed: where it begins and where it ends
pub record Piece : Type 0 where
  pub from : ℕ
  pub to : ℕ

-- so many trimmed bytes, if there are any
abbrev pub some_trimmed : ℕ → List Event
some_trimmed zero = []
some_trimmed (suc n) = Leaf kinds.RawTrimmed (suc n) ∷ []

-- The events of the text between two places. The pieces are texts, and what is before, between and behind them is trimmed.
abbrev pub pieces_from : ℕ → List Piece → ℕ → List Event
pieces_from place [] end = some_trimmed (end - place)
pieces_from place (p ∷ ps) end = some_trimmed (p.from - place) ++ (Leaf kinds.Text (p.to - p.from) ∷ pieces_from p.to ps end)

-- a backtick, which is byte 96
abbrev pub is_backtick : ℕ → Bool
is_backtick b = b == 96

-- a line without so many bytes at its beginning
abbrev pub piece_behind : ℕ → Line → Piece
piece_behind n l = record { from = min (l.from + n) l.to; to = l.to }

-- the least indent of lines that aren't blank, or this number
abbrev pub least_indent : ℕ → List Line → ℕ
least_indent n [] = n
least_indent n (l ∷ ls) = least_indent (if is_blank l.text then n else min n (indent l.text)) ls

-- How many white space characters are trimmed from each line but the first: the least indent of the lines behind the first
-- that aren't blank, and of the last line in any case.
abbrev pub dedent : List Line → ℕ
dedent ls = elim (last_of ls) [ None ↦ 0 | Some p ↦ least_indent (indent p.1.text) (drop 1 ls) ]

-- how many bytes come behind the last backtick
abbrev pub behind_backtick : List ℕ → ℕ
behind_backtick bs = suffix_len (λ b. not (is_backtick b)) bs

-- a line ends in a backtick with white space behind it, a space at last
abbrev pub is_marked : List ℕ → Bool
is_marked bs =
    nat_lt (behind_backtick bs) (length bs) && is_blank (drop (length bs - behind_backtick bs) bs) && (slice_index bs (length bs - 1) == 32)

-- how many bytes at the end of the last line are trimmed before the closing backticks
abbrev pub trimmed_end : List ℕ → ℕ
trimmed_end bs = if is_marked bs then 1 else 0

-- a line without so many bytes at its end
abbrev pub shortened : ℕ → Line → Line
shortened n l = record { from = l.from; to = l.to - n; text = take (length l.text - n) l.text }

-- A blank last line is trimmed, and of another one the end is.
abbrev pub kept_lines : Option (List Line × Line) → List Line
kept_lines None = []
kept_lines (Some p) =
    if is_blank p.1.text then p.0
    else p.0 ++ shortened (trimmed_end p.1.text) p.1 ∷ []

-- a space at the beginning of the first line
abbrev pub first_space : List ℕ → ℕ
first_space bs = if slice_index bs 0 == 32 then 1 else 0

-- lines without so many white space characters at the beginning of each
abbrev pub cut_pieces : ℕ → List Line → List Piece
cut_pieces cut [] = []
cut_pieces cut (l ∷ ls) = piece_behind (whites_len cut l.text) l ∷ cut_pieces cut ls

-- A blank first line is trimmed. Of another one a space at its beginning is.
abbrev pub block_pieces : ℕ → List Line → List Piece
block_pieces cut [] = []
block_pieces cut (l ∷ ls) =
    if is_blank l.text then cut_pieces cut ls else piece_behind (first_space l.text) l ∷ cut_pieces cut ls

-- the pieces between three or more backticks
abbrev pub dedented : List Line → List Piece
dedented ls = block_pieces (dedent ls) (kept_lines (last_of ls))

-- the pieces between single backticks: each line is one
abbrev pub plain_pieces : List Line → List Piece
plain_pieces [] = []
plain_pieces (l ∷ ls) = piece_behind 0 l ∷ plain_pieces ls

-- so many bytes, if a token of this kind is a name
abbrev pub if_name : TokenKind → ℕ → ℕ
if_name tokens.Ident n = n
if_name tokens.Underscore n = n
if_name _ n = 0

-- the length of the language of raw text: the name with which it begins
abbrev pub lang_len : List ℕ → ℕ
lang_len [] = 0
lang_len (b ∷ bs) = let k = first Code At (b ∷ bs) in if_name k.kind k.len

-- the language, if there is one
abbrev pub some_lang : ℕ → List Event
some_lang zero = []
some_lang (suc n) = Leaf kinds.RawLang (suc n) ∷ []

-- what is between single backticks, where the text between them begins at this place
abbrev pub single_events : ℕ → List ℕ → List Event
single_events n bs = pieces_from n (plain_pieces (lines n bs)) (n + length bs)

-- what is between three or more backticks, where the text between them begins at this place
abbrev pub block_events : ℕ → List ℕ → List Event
block_events n bs = some_lang (lang_len bs) ++ pieces_from (n + lang_len bs) (dedented (lines (n + lang_len bs) (drop (lang_len bs) bs))) (n + length bs)

-- what is between so many backticks at each end
abbrev pub body_events : ℕ → List ℕ → List Event
body_events n bs = if n == 1 then single_events n bs else block_events n bs

-- Two backticks are empty raw text. Otherwise all backticks that come first open raw text.
abbrev pub open_len : List ℕ → ℕ
open_len bs = if (prefix_len is_backtick bs == 2) && (length bs == 2) then 1 else prefix_len is_backtick bs

-- how many of the backticks at the end close raw text that so many backticks open
abbrev pub close_len : ℕ → List ℕ → ℕ
close_len n bs = min n (suffix_len is_backtick (drop n bs))

-- the events between the backticks
abbrev pub inner_events : ℕ → List ℕ → List Event
inner_events n bs = if length bs == n + close_len n bs then [] else body_events n (take (length bs - close_len n bs - n) (drop n bs))

-- the events of raw text without the node
abbrev pub raw_parts : ℕ → List ℕ → List Event
raw_parts n bs = Leaf kinds.RawDelim n ∷ (inner_events n bs ++ Leaf kinds.RawDelim (close_len n bs) ∷ [])

-- the events of raw text with its backticks
abbrev pub raw_events : List ℕ → List Event
raw_events bs = raw_parts (open_len bs) bs ++ Node kinds.Raw (length (raw_parts (open_len bs) bs)) ∷ []
