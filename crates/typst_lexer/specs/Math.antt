-- Which token of math begins at a place, and how it goes on: the first rule that fits decides. `w` is the next ten bytes
-- of the text, or all that are left.
use Rattle.std.specs.Prelude.{ℕ, ◌==◌, ◌&&◌, ◌||◌, not, nat_lt, Bool, true, false, List, [], ◌∷◌, drop, codes, Option, Some, None, if◌then◌else◌}
use Rattle.std.specs.Char.{is_whitespace}
use Rattle.std.specs.Char.Unicode.Alphabetic.{is_alphabetic}
use Rattle.std.specs.Char.Unicode.Numeric.{is_numeric}
use Rattle.unicode_ident.specs.Ident.{is_xid_start, is_xid_continue}
use Rattle.typst_lexer.specs.declared.token.TokenKind.{TokenKind}
use Rattle.typst_lexer.specs.declared.token.TokenKind.TheVariants as kinds
use Rattle.typst_lexer.specs.declared.place.Place.{Place}
use Rattle.typst_lexer.specs.declared.place.Place.TheVariants as place
use Rattle.typst_lexer.specs.declared.cluster.Cluster.{Cluster}
use Rattle.typst_lexer.specs.Characters.{begins_with}
use Rattle.typst_lexer.specs.Classes.{begins_char, first_char}
use Rattle.typst_lexer.specs.Clusters.{cluster_of, joins, with_char}
use Rattle.typst_lexer.specs.Shared.{enter_comment, enter_escape}

-- a character with which a name of math begins
abbrev pub is_math_start : ℕ → Bool
is_math_start c = is_xid_start c

-- a character of a name of math
abbrev pub is_math_part : ℕ → Bool
is_math_part c = is_xid_continue c && not (c == 95)

-- how many bytes the character has that begins with this byte
abbrev pub char_len : ℕ → ℕ
char_len b = if nat_lt b 128 then 1 else (if nat_lt b 224 then 2 else (if nat_lt b 240 then 3 else 4))

-- the text after its first character
abbrev pub after_char : List ℕ → List ℕ
after_char [] = []
after_char (b ∷ bs) = drop (char_len b) (b ∷ bs)

-- a shorthand of four characters
abbrev pub is_shorthand_of_four : List ℕ → Bool
is_shorthand_of_four w = begins_with (codes "<-->") w || begins_with (codes "<==>") w

-- an arrow of three characters that begins with `<`
abbrev pub is_arrow_to_left : List ℕ → Bool
is_arrow_to_left w =
    begins_with (codes "<--") w || begins_with (codes "<-<") w || begins_with (codes "<<-") w || begins_with (codes "<->") w
    || begins_with (codes "<~~") w || begins_with (codes "<==") w || begins_with (codes "<=>") w

-- another arrow of three characters
abbrev pub is_arrow_to_right : List ℕ → Bool
is_arrow_to_right w =
    begins_with (codes "-->") w || begins_with (codes "|->") w || begins_with (codes ">->") w || begins_with (codes "->>") w
    || begins_with (codes "~~>") w || begins_with (codes "|=>") w || begins_with (codes "==>") w

-- a shorthand of three characters
abbrev pub is_shorthand_of_three : List ℕ → Bool
is_shorthand_of_three w =
    begins_with (codes "...") w || begins_with (codes "::=") w || begins_with (codes "<<<") w || begins_with (codes ">>>") w
    || is_arrow_to_left w || is_arrow_to_right w

-- a shorthand of two characters that is no delimiter
abbrev pub is_shorthand_of_two : List ℕ → Bool
is_shorthand_of_two w =
    begins_with (codes "!=") w || begins_with (codes ":=") w || begins_with (codes "=:") w || begins_with (codes "<<") w
    || begins_with (codes ">>") w || begins_with (codes "<=") w || begins_with (codes ">=") w || begins_with (codes "->") w
    || begins_with (codes "<-") w || begins_with (codes "~>") w || begins_with (codes "<~") w || begins_with (codes "=>") w
    || begins_with (codes "||") w

-- a shorthand of one character
abbrev pub is_shorthand_of_one : List ℕ → Bool
is_shorthand_of_one w = begins_with (codes "-") w || begins_with (codes "*") w || begins_with (codes "~") w

-- a sign for a root
abbrev pub is_root : ℕ → Bool
is_root c = (c == 0x221A) || (c == 0x221B) || (c == 0x221C)

-- an opening bracket of ASCII, but not `(`; or one of ⌈ ⌊ ⌜ ⌞ ⎰ ❲ ⟅ ⟦ ⟨ ⟪ ⟬ ⟮ ⦃ ⦅ ⦇ ⦉ ⦋ ⦍ ⦏ ⦑ ⦓ ⦕ ⦗ ⧘ ⧚ ⧼
abbrev pub is_opening : ℕ → Bool
is_opening c =
    (c == 91) || (c == 0x2308) || (c == 0x230A) || (c == 0x231C) || (c == 0x231E) || (c == 0x23B0) || (c == 0x2772) || (c == 0x27C5)
    || (c == 0x27E6) || (c == 0x27E8) || (c == 0x27EA) || (c == 0x27EC) || (c == 0x27EE) || (c == 0x2983) || (c == 0x2985)
    || (c == 0x2987) || (c == 0x2989) || (c == 0x298B) || (c == 0x298D) || (c == 0x298F) || (c == 0x2991) || (c == 0x2993)
    || (c == 0x2995) || (c == 0x2997) || (c == 0x29D8) || (c == 0x29DA) || (c == 0x29FC)

-- the closing bracket to one of those
abbrev pub is_closing : ℕ → Bool
is_closing c =
    (c == 93) || (c == 0x2309) || (c == 0x230B) || (c == 0x231D) || (c == 0x231F) || (c == 0x23B1) || (c == 0x2773) || (c == 0x27C6)
    || (c == 0x27E7) || (c == 0x27E9) || (c == 0x27EB) || (c == 0x27ED) || (c == 0x27EF) || (c == 0x2984) || (c == 0x2986)
    || (c == 0x2988) || (c == 0x298A) || (c == 0x298C) || (c == 0x298E) || (c == 0x2990) || (c == 0x2992) || (c == 0x2994)
    || (c == 0x2996) || (c == 0x2998) || (c == 0x29D9) || (c == 0x29DB) || (c == 0x29FD)

-- the kind of a token that is a single character
abbrev pub char_kind : ℕ → TokenKind
char_kind c =
    if c == 123 then kinds.LeftBrace
    else (if c == 125 then kinds.RightBrace
    else (if is_opening c then kinds.Opening
    else (if is_closing c then kinds.Closing
    else (if is_alphabetic c then kinds.MathLetter
    else kinds.MathText))))

-- the kind of a token that began with such a character and has more
abbrev pub longer_kind : TokenKind → TokenKind
longer_kind kinds.MathLetter = kinds.MathLetter
longer_kind _ = kinds.MathText

-- A token of one grapheme cluster goes on as the cluster does.
abbrev pub stay_cluster : TokenKind → Cluster → List ℕ → Option Place
stay_cluster kind cluster w = elim (first_char w) [
  | None ↦ None
  | Some c ↦ if joins cluster c then Some (place.Cluster (longer_kind kind) (with_char cluster c)) else None
]

-- a name with one more character, given whether it is one grapheme cluster, and the last one of its clusters
abbrev pub name_with : Bool → Cluster → ℕ → Place
name_with single cluster c =
    if joins cluster c then place.MathName single (with_char cluster c) else place.MathName false (cluster_of c)

-- a dot directly before a name of math
abbrev pub is_math_field : List ℕ → Bool
is_math_field w = begins_with (codes ".") w && begins_char is_math_start (drop 1 w)

-- A name of math goes on over its characters.
abbrev pub stay_math_name : Bool → Cluster → List ℕ → Option Place
stay_math_name single cluster w = elim (first_char w) [
  | None ↦ None
  | Some c ↦ if is_math_part c then Some (name_with single cluster c) else None
]

-- A number of math goes on over digits, and over a dot before a digit.
abbrev pub stay_math_number : List ℕ → Option Place
stay_math_number w =
    if begins_char is_numeric w then Some place.MathNumber
    else (if begins_with (codes ".") w && begins_char is_numeric (drop 1 w) then Some place.MathFraction
    else None)

-- A number of math with a dot goes on over digits.
abbrev pub stay_math_fraction : List ℕ → Option Place
stay_math_fraction w = if begins_char is_numeric w then Some place.MathFraction else None

-- A run of primes goes on.
abbrev pub stay_primes : List ℕ → Option Place
stay_primes w = if begins_with (codes "'") w then Some place.Primes else None

-- a name, if another character of the name follows the first one
abbrev pub is_math_name : List ℕ → Bool
is_math_name w = begins_char is_math_start w && begins_char is_math_part (after_char w)

-- a name or one grapheme cluster that begins with the character
abbrev pub enter_char : ℕ → List ℕ → Place
enter_char c w =
    if is_math_name w then place.MathName true (cluster_of c)
    else (if is_numeric c then place.MathNumber
    else place.Cluster (char_kind c) (cluster_of c))

-- the same of the character that is next, if all of it is there
abbrev pub enter_first : List ℕ → Place
enter_first w = elim (first_char w) [ None ↦ place.Rest kinds.MathText 0 | Some c ↦ enter_char c w ]

-- the kind of a dot
abbrev pub dot_kind : List ℕ → TokenKind
dot_kind w = if is_math_field w then kinds.Field else kinds.Dot

-- a sign of math, or a name, a number or another character
abbrev pub enter_math_sign : List ℕ → Place
enter_math_sign w =
    if begins_with (codes ".") w then place.Rest (dot_kind w) 0
    else (if begins_with (codes ",") w then place.Rest kinds.Comma 0
    else (if begins_with (codes ";") w then place.Rest kinds.Semicolon 0
    else (if begins_with (codes "(") w then place.Rest kinds.LeftParen 0
    else (if begins_with (codes ")") w then place.Rest kinds.RightParen 0
    else (if begins_with (codes "#") w then place.Rest kinds.Hash 0
    else (if begins_with (codes "_") w then place.Rest kinds.Underscore 0
    else (if begins_with (codes "$") w then place.Rest kinds.Dollar 0
    else (if begins_with (codes "/") w then place.Rest kinds.Slash 0
    else (if begins_with (codes "^") w then place.Rest kinds.Hat 0
    else (if begins_with (codes "&") w then place.Rest kinds.MathAlignPoint 0
    else (if begins_char is_root w then place.Rest kinds.Root 0
    else (if begins_with (codes "!") w then place.Rest kinds.Bang 0
    else elim (first_char w) [ None ↦ place.Rest kinds.MathText 0 | Some c ↦ enter_char c w ]))))))))))))

-- the longest shorthand, or a sign
abbrev pub enter_shorthand : List ℕ → Place
enter_shorthand w =
    if is_shorthand_of_four w then place.Rest kinds.MathShorthand 3
    else (if is_shorthand_of_three w then place.Rest kinds.MathShorthand 2
    else (if is_shorthand_of_two w then place.Rest kinds.MathShorthand 1
    else (if begins_with (codes "[|") w then place.Rest kinds.OpeningShorthand 1
    else (if begins_with (codes "|]") w then place.Rest kinds.ClosingShorthand 1
    else (if is_shorthand_of_one w then place.Rest kinds.MathShorthand 0
    else enter_math_sign w)))))

-- an escape, a string, primes, or a shorthand
abbrev pub enter_formula : List ℕ → Place
enter_formula w =
    if begins_with (codes "\\") w then enter_escape w
    else (if begins_with (codes "\"") w then place.Str
    else (if begins_with (codes "'") w then place.Primes
    else enter_shorthand w))

-- What a token of math is inside of after its first character: white space, comments, and formulas.
abbrev pub enter_math : List ℕ → Place
enter_math w =
    if begins_char is_whitespace w then place.Blank
    else elim (enter_comment w) [ None ↦ enter_formula w | Some p ↦ p ]
