-- What is read of the next token: the white space before it, and the token itself.
use Rattle.std.specs.Prelude.{ℕ, zero, suc, ◌+◌, ◌&&◌, ◌||◌, max, not, nat_lt, Bool, true, false, List, [], ◌∷◌, ◌++◌, length, take, drop, Option, Some, None, if◌then◌else◌}
use Rattle.typst_parser.specs.Columns.{column_after, has_newline}
use Rattle.typst_parser.specs.Stack.{Stack, unread}
use Rattle.typst_parser.specs.Tokens.{leaf_kind}
use Rattle.typst_parser.specs.declared.event.Event.TheVariants.{Leaf}
use Rattle.typst_parser.specs.declared.next.Place.{Place}
use Rattle.typst_lexer.specs.FirstToken.{first}
use Rattle.typst_lexer.specs.Spaces.{is_markup}
use Rattle.typst_lexer.specs.White.{begins_white}
use Rattle.typst_lexer.specs.contracts.mode.Mode.{the_type}
use Rattle.typst_lexer.specs.declared.head.FirstToken.{FirstToken}
use Rattle.typst_lexer.specs.declared.mode.Mode.{Mode}
use Rattle.typst_lexer.specs.declared.mode.Mode.TheVariants.{Code}
use Rattle.typst_lexer.specs.declared.place.Behind.{Behind}
use Rattle.typst_lexer.specs.declared.token.TokenKind.{TokenKind}
use Rattle.typst_lexer.specs.declared.token.TokenKind.TheVariants.{Parbreak, Space}
use denote.Enum.Bare.{sameb}

-- the first token of a text that may be empty
abbrev pub token_of : Mode → Behind → List ℕ → Option FirstToken
token_of m behind [] = None
token_of m behind (b ∷ bs) = Some (first m behind (b ∷ bs))

-- the token at a place, if any text is left there
abbrev pub token_at : Mode → Place → List ℕ → Option FirstToken
token_at mode p text = token_of mode p.behind (drop p.at text)

-- white space or a comment is at a place
abbrev pub is_white_at : Mode → Place → List ℕ → Bool
is_white_at mode p text = begins_white mode p.behind (drop p.at text)

-- so many bytes from a place on
abbrev pub part : ℕ → ℕ → List ℕ → List ℕ
part at len text = take len (drop at text)

-- the place behind a token that has these bytes
abbrev pub behind_token : List ℕ → FirstToken → Place → Place
behind_token bs k p = record { at = p.at + k.len; behind = k.behind; column = column_after p.column bs }

-- white space of this kind has a newline
abbrev pub breaks_line : TokenKind → List ℕ → Bool
breaks_line Space bs = has_newline bs
breaks_line Parbreak bs = true
breaks_line _ bs = false

-- white space of this kind has a blank line
abbrev pub is_blank_line : TokenKind → Bool
is_blank_line Parbreak = true
is_blank_line _ = false

-- one more piece of white space before the next token, with these bytes
abbrev pub whitened_by : List ℕ → FirstToken → Stack → Stack
whitened_by bs k s = record s {
  white = s.white ++ Leaf (leaf_kind k.kind) k.len ∷ [];
  far = max s.far (s.next.place.at + k.look);
  next = record s.next {
    line = s.next.line || breaks_line k.kind bs;
    blank = s.next.blank || is_blank_line k.kind;
    place = behind_token bs k s.next.place;
  };
}

-- one more piece of white space before the next token, if there is one
abbrev pub whitened : List ℕ → Option FirstToken → Stack → Stack
whitened text None s = s
whitened text (Some k) s = whitened_by (part s.next.place.at k.len text) k s

-- at most so many pieces of white space before the next token
abbrev pub skipped : ℕ → Mode → List ℕ → Stack → Stack
skipped zero m text s = s
skipped (suc n) m text s =
    if is_white_at m s.next.place text then skipped n m text (whitened text (token_at m s.next.place text) s) else s

-- how far a text was looked at, if so many bytes from a place on were
abbrev pub seen_to : List ℕ → ℕ → ℕ → ℕ
seen_to text at look = if nat_lt at (length text) then at + look else length text + 1

-- To know that no more white space comes, ten bytes were looked at.
abbrev pub at_token : List ℕ → Stack → Stack
at_token text s = record s { far = max s.far (seen_to text s.next.place.at 10) }

-- no white space was read behind the last token
abbrev pub unspaced : Mode → Stack → Stack
unspaced mode s = record s { white = []; next = record (unread s.from) { space = Some mode } }

-- White space was read in a mode that reads it in the same way: in markup it has other characters and kinds.
abbrev pub is_alike : Mode → Option Mode → Bool
is_alike m None = false
is_alike m (Some read) = if is_markup m then is_markup read else not (is_markup read)

-- something was read in a mode
abbrev pub is_some_mode : Option Mode → Bool
is_some_mode None = false
is_some_mode (Some m) = true

-- White space before the next token isn't read anew once it went into a frame, or where a frame was opened behind it.
abbrev pub is_settled : Stack → Bool
is_settled s = s.next.is_flushed || (is_some_mode s.next.space && nat_lt s.judge (length s.below))

-- the white space before the next token in a mode
abbrev pub spaced : Mode → List ℕ → Stack → Stack
spaced mode text s =
    if is_settled s || is_alike mode s.next.space then s
    else at_token text (skipped (length text) mode text (unspaced mode s))

-- the next token, or the end
abbrev pub tokened : List ℕ → Mode → Option FirstToken → Stack → Stack
tokened text m None s = record s {
  far = max s.far (length text + 1);
  next = record s.next { mode = Some m; kind = None; end = s.next.place.at; behind = s.next.place.behind };
}
tokened text m (Some k) s = record s {
  far = max s.far (s.next.place.at + k.look);
  next = record s.next { mode = Some m; kind = Some k.kind; end = s.next.place.at + k.len; behind = k.behind };
}

-- the token was read in this mode
abbrev pub is_read_in : Mode → Option Mode → Bool
is_read_in m None = false
is_read_in m (Some read) = sameb the_type m read

-- the next token in a mode
abbrev pub read : Mode → List ℕ → Stack → Stack
read mode text s = if is_read_in mode s.next.mode then s else tokened text mode (token_at mode s.next.place text) s

-- the mode in which white space was read, or that of code
abbrev pub mode_of_space : Option Mode → Mode
mode_of_space None = Code
mode_of_space (Some m) = m

-- the next token in any mode
abbrev pub known : List ℕ → Stack → Stack
known text s = if is_some_mode s.next.mode then s else read (mode_of_space s.next.space) text s
