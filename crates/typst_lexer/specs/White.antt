-- White space and comments before a token.
use Rattle.std.specs.Prelude.{ℕ, ◌==◌, ◌&&◌, ◌||◌, not, Bool, true, false, List, [], ◌∷◌, codes, take, if◌then◌else◌}
use Rattle.std.specs.Char.{is_ascii_graphic, is_whitespace}
use Rattle.typst_lexer.specs.declared.mode.Mode.{Mode}
use Rattle.typst_lexer.specs.declared.place.Behind.{Behind}
use Rattle.typst_lexer.specs.declared.place.Place.{Place}
use Rattle.typst_lexer.specs.declared.place.Place.TheVariants as place
use Rattle.typst_lexer.specs.Characters.{begins_with}
use Rattle.typst_lexer.specs.Classes.{begins_char, is_blank}
use Rattle.typst_lexer.specs.Machine.{begin}
use Rattle.typst_lexer.specs.Markup.{is_start}
use Rattle.typst_lexer.specs.Spaces.{is_markup}

-- a token that is inside of this after its first byte is white space or a comment
abbrev pub is_white : Place → Bool
is_white place.Space = true
is_white place.Line = true
is_white place.Parbreak = true
is_white place.LineComment = true
is_white place.Shebang = true
is_white (place.BlockComment depth) = true
is_white (place.CommentMark depth) = true
is_white place.Blank = true
is_white _ = false

-- the first token of a text is white space or a comment, as its first ten bytes tell
abbrev pub begins_white : Mode → Behind → List ℕ → Bool
begins_white m behind [] = false
begins_white m behind (b ∷ bs) = is_white (begin m behind (take 10 (b ∷ bs))).place

-- a printed character of ASCII with which neither white space nor a comment begins
abbrev pub is_solid : ℕ → Bool
is_solid b = is_ascii_graphic b && not ((b == 35) || (b == 47))

-- white space of a mode is next
abbrev pub is_space_next : Mode → List ℕ → Bool
is_space_next m w = if is_markup m then begins_char is_blank w else begins_char is_whitespace w

-- white space or a comment is next, as the beginning of the token tells
abbrev pub is_white_next : Mode → Behind → List ℕ → Bool
is_white_next m k w =
    is_space_next m w || begins_with (codes "//") w || begins_with (codes "/*") w
    || (is_start k && is_markup m && begins_with (codes "#!") w)
