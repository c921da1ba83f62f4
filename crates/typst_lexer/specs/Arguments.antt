-- Tokens of math at the beginning of an argument: the name of the argument, `..`, or any other token of math. `w` is the
-- next ten bytes of the text, or all that are left.
--
-- Whether a name is that of an argument shows only at its end. So the machine goes on over the whole name, and the longest
-- beginning that it accepts is a token of math if no colon comes.
use Rattle.std.specs.Prelude.{ℕ, ◌==◌, ◌&&◌, ◌||◌, not, Bool, true, false, List, [], ◌∷◌, drop, codes, Option, Some, None, if◌then◌else◌}
use Rattle.std.specs.Char.{is_whitespace}
use Rattle.typst_lexer.specs.declared.token.TokenKind.{TokenKind}
use Rattle.typst_lexer.specs.declared.token.TokenKind.TheVariants as kinds
use Rattle.typst_lexer.specs.declared.place.Place.{Place}
use Rattle.typst_lexer.specs.declared.place.Place.TheVariants as place
use Rattle.typst_lexer.specs.declared.cluster.Cluster.{Cluster}
use Rattle.typst_lexer.specs.Characters.{begins_with}
use Rattle.typst_lexer.specs.Classes.{begins_char, first_char, is_name_part, is_name_start}
use Rattle.typst_lexer.specs.Clusters.{cluster_of, joins, with_char}
use Rattle.typst_lexer.specs.Shared.{enter_comment}
use Rattle.typst_lexer.specs.Math.{after_char, char_kind, enter_formula, is_math_name, is_math_part}

-- after the next character comes a colon that begins neither `:=` nor `::=`
abbrev pub is_colon_after : List ℕ → Bool
is_colon_after w =
    begins_with (codes ":") (after_char w) && not (begins_with (codes ":=") (after_char w) || begins_with (codes "::=") (after_char w))

-- what `..` of a spread argument isn't before: the end, white space, or the end of an argument
abbrev pub is_nothing : List ℕ → Bool
is_nothing [] = true
is_nothing (b ∷ bs) =
    begins_char is_whitespace (b ∷ bs) || begins_with (codes ",") (b ∷ bs) || begins_with (codes ";") (b ∷ bs)
    || begins_with (codes ")") (b ∷ bs) || begins_with (codes "$") (b ∷ bs)

-- `..` before the value of an argument
abbrev pub is_spread : List ℕ → Bool
is_spread w = begins_with (codes "..") w && not (begins_with (codes "...") w || is_nothing (drop 2 w))

-- the kind of the first character of a name, as a token of math by itself
abbrev pub first_kind : ℕ → TokenKind
first_kind c = if c == 95 then kinds.Underscore else char_kind c

-- a name that may be that of an argument, after its first character
abbrev pub enter_name : ℕ → List ℕ → Place
enter_name c w =
    if is_colon_after w then place.Rest (if c == 95 then kinds.ArgumentBlank else kinds.ArgumentName) 0
    else (if is_math_name w then place.ArgumentName true (cluster_of c)
    else (if begins_char is_name_part (after_char w) then place.ArgumentFirst (first_kind c)
    else enter_formula w))

-- a name that may be that of an argument, or another token
abbrev pub enter_value : List ℕ → Place
enter_value w = elim (first_char w) [ None ↦ enter_formula w | Some c ↦ if is_name_start c then enter_name c w else enter_formula w ]

-- What a token is inside of after its first character, at the beginning of an argument of math.
abbrev pub enter_argument : List ℕ → Place
enter_argument w =
    if begins_char is_whitespace w then place.Blank
    else (if is_spread w then place.Rest kinds.Dots 1
    else elim (enter_comment w) [ None ↦ enter_value w | Some p ↦ p ])

-- A name goes on that can only be an argument's.
abbrev pub stay_argument : List ℕ → Option Place
stay_argument w =
    if begins_char is_name_part w then Some (if is_colon_after w then place.Rest kinds.ArgumentName 0 else place.ArgumentRest) else None

-- a name of math with one more character, that may still be an argument's
abbrev pub argument_with : Bool → Cluster → ℕ → Place
argument_with single cluster c =
    if joins cluster c then place.ArgumentName single (with_char cluster c) else place.ArgumentName false (cluster_of c)

-- the next character of a name that may be an argument's, and is a name of math so far
abbrev pub after_argument_name : Bool → Cluster → ℕ → List ℕ → Place
after_argument_name single cluster c w =
    if is_colon_after w then place.Rest kinds.ArgumentName 0
    else (if is_math_part c then argument_with single cluster c else place.ArgumentRest)

-- A name goes on that may be an argument's, and is a name of math so far. Without the name of an argument it goes on with a
-- field.
abbrev pub stay_argument_name : Bool → Cluster → List ℕ → Option Place
stay_argument_name single cluster w = elim (first_char w) [
  | None ↦ None
  | Some c ↦ if is_name_part c then Some (after_argument_name single cluster c w) else None
]
