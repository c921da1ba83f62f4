-- What the machine keeps. It ends no token within a character, a token may end after its first character, and it counts
-- no more than the bytes that it passed.
use Rattle.std.proofs.Common.{◌≡◌, ℕ, suc, ◌⊎◌, inl, inr, ◌+◌, ◌-◌, ◌<◌, ◌≤◌, nat_lt, Bool, true, false, List, ◌∷◌, drop, refl, subst, arith}
use Rattle.std.specs.Prelude.{◌==◌, ◌*◌, ◌%◌, ◌^◌, ◌&&◌, ◌||◌, not, nat_le, codes, Option, Some, None, if◌then◌else◌}
use Rattle.std.specs.Char.{is_ascii_digit, is_ascii_alphanumeric, is_whitespace}
use Rattle.std.specs.Prelude.{length}
use Rattle.std.proofs.lemmas.Bool.{cases_lt}
use Rattle.std.proofs.lemmas.Bool.Decides.{nat_tests}
use Rattle.typst_lexer.specs.declared.mode.Mode.{Mode}
use Rattle.typst_lexer.specs.declared.mode.Mode.TheVariants.{Markup, Math, Argument, Code, Operator}
use Rattle.std.specs.List.{take_while}
use Rattle.std.specs.Str.{bytes_eq}
use Rattle.typst_lexer.specs.declared.token.TokenKind.{TokenKind}
use Rattle.typst_lexer.specs.declared.token.TokenKind.TheVariants.{InvalidCharacter, InvalidFloat, Other}
use Rattle.std.specs.Char.Unicode.Numeric.{is_numeric}
use Rattle.typst_lexer.specs.declared.cluster.Cluster.{Cluster}
use Rattle.typst_lexer.specs.Arguments.{after_argument_name, argument_with, enter_argument, enter_name, enter_value, is_colon_after, is_spread, stay_argument, stay_argument_name}
use Rattle.typst_lexer.specs.Clusters.{joins, with_char}
use Rattle.typst_lexer.specs.Math.{after_char, enter_char, enter_formula, enter_math, enter_math_sign, enter_shorthand, is_math_name, is_math_part, is_root, is_shorthand_of_four, is_shorthand_of_one, is_shorthand_of_three, is_shorthand_of_two, longer_kind, name_with, stay_cluster, stay_math_name}
use Rattle.typst_lexer.specs.Code.{begins_field_name, enter_bracket, enter_code, enter_dot, enter_expression, enter_one, enter_operation, enter_operator, enter_operator_sign, enter_suffix, enter_word, is_based, is_field, is_fraction, is_long_unit, is_minus, is_short_unit, is_suffix, is_word_here, stay_exponent, stay_letters, stay_string, stay_unit}
use Rattle.typst_lexer.specs.declared.place.Behind.{Behind}
use Rattle.typst_lexer.specs.declared.place.Place.{Place}
use Rattle.typst_lexer.specs.declared.place.Place.TheVariants as place
use Rattle.typst_lexer.specs.declared.place.Reading.{Reading}
use Rattle.typst_lexer.specs.Characters.{goes_on, begins, begins_with}
use Rattle.typst_lexer.specs.Classes.{begins_char, first_char, ends_line, is_newline, is_blank, is_label_part, is_name_part, is_name_start, is_at_blank}
use Rattle.typst_lexer.specs.Shared.{enter_comment, enter_escape, is_label_start}
use Rattle.typst_lexer.specs.Markup.{enter_content, enter_markup, enter_marker, enter_sign, digits_with, first_digit, heading, is_in_word, is_link, is_link_mark, is_link_start, is_ref_start, is_start, shorthand_len, stay_text, text_goes_on}
use Rattle.typst_lexer.specs.White.{is_white}
use Rattle.typst_lexer.specs.Machine.{accepts, begin, count, count_of, enter, may_end, reading, stay, stay_at, stay_inside}

pub machine_sees : 0 < 10
machine_sees = omega arith

-- a token may end after its first character, and counts at most one
abbrev Begun : Place → Type 0
Begun p = (count_of p ≤ 1) × (may_end p ≡ true)

choose_begun : (b : Bool) (x y : Place) → Begun x → Begun y → Begun (if b then x else y)
choose_begun true x y p q = p
choose_begun false x y p q = q

-- the same of a token that is neither white space nor a comment
abbrev pub Fresh : Place → Type 0
Fresh p = (count_of p ≤ 1) × (may_end p ≡ true) × (is_white p ≡ false)

choose : (b : Bool) (x y : Place) → Fresh x → Fresh y → Fresh (if b then x else y)
choose true x y p q = p
choose false x y p q = q

white : (0 ≤ 1) × (true ≡ true)
white = (omega arith, refl)

open_comment : (1 ≤ 1) × (true ≡ true)
open_comment = (omega arith, refl)

none : (0 ≤ 1) × (true ≡ true) × (false ≡ false)
none = (omega arith, refl, refl)

one : (1 ≤ 1) × (true ≡ true) × (false ≡ false)
one = (omega arith, refl, refl)

abbrev IsBegun : Option Place → Type 0
IsBegun None = Unit {0}
IsBegun (Some p) = Begun p

if_some : (b : Bool) (p : Place) (o : Option Place) → Begun p → IsBegun o → IsBegun (if b then Some p else o)
if_some true p o f g = f
if_some false p o f g = g

or_else : (o : Option Place) (x : Place) → IsBegun o → Fresh x → Begun (elim o as (λ _. Place) [ None ↦ x | Some p ↦ p ])
or_else None x f g = (g.0, g.1)
or_else (Some p) x f g = f

comment_begun : (w : List ℕ) → IsBegun (enter_comment w)
comment_begun w =
    if_some (begins_with (codes "//") w) _ _ white
    (if_some (begins_with (codes "/*") w) _ _ open_comment
    (if_some (begins_with (codes "*/") w) _ _ white tt))

escape_fresh : (w : List ℕ) → Fresh (enter_escape w)
escape_fresh w =
    choose (begins_with (codes "\\u{") w) _ _ none
    (choose (begins_char is_whitespace (drop 1 w) || (length w == 1)) _ _ none none)

heading_fresh : (w : List ℕ) → Fresh (heading w)
heading_fresh w = choose (begins_with (codes "=") (drop 1 w)) _ _ none (choose (is_at_blank (drop 1 w)) _ _ none none)

marker_fresh : (w : List ℕ) → Fresh (enter_marker w)
marker_fresh w =
    choose (begins_with (codes "=") w) _ _ (heading_fresh w)
    (choose (begins_with (codes "-") w && is_at_blank (drop 1 w)) _ _ none
    (choose (begins_with (codes "+") w && is_at_blank (drop 1 w)) _ _ none
    (choose (begins_with (codes "/") w && is_at_blank (drop 1 w)) _ _ none
    (choose (begins is_ascii_digit w) _ _ none none))))

sign_fresh : (k : Behind) (w : List ℕ) → Fresh (enter_sign k w)
sign_fresh k w =
    choose (begins_with (codes "*") w && not (is_in_word k w)) _ _ none
    (choose (begins_with (codes "_") w && not (is_in_word k w)) _ _ none
    (choose (begins_with (codes "#") w) _ _ none
    (choose (begins_with (codes "[") w) _ _ none
    (choose (begins_with (codes "]") w) _ _ none
    (choose (begins_with (codes "'") w || begins_with (codes "\"") w) _ _ none
    (choose (begins_with (codes "$") w) _ _ none
    (choose (begins_with (codes ":") w) _ _ none (marker_fresh w))))))))

pub content_fresh : (k : Behind) (w : List ℕ) → Fresh (enter_content k w)
content_fresh k w =
    choose (begins_with (codes "`") w) _ _ one
    (choose (begins_with (codes "\\") w) _ _ (escape_fresh w)
    (choose (is_link_start w) _ _ none
    (choose (is_label_start w) _ _ none
    (choose (is_ref_start w) _ _ none
    (choose (nat_lt 0 (shorthand_len w)) _ _ none (sign_fresh k w))))))

markup_begun : (k : Behind) (w : List ℕ) → Begun (enter_markup k w)
markup_begun k w =
    choose_begun (ends_line w) _ _ white
    (choose_begun (begins_char is_blank w) _ _ white
    (choose_begun (is_start k && begins_with (codes "#!") w) _ _ white
    (or_else (enter_comment w) _ (comment_begun w) (content_fresh k w))))

bracket_fresh : (kind : TokenKind) (w : List ℕ) → Fresh (enter_bracket kind w)
bracket_fresh kind w =
    choose (begins_with (codes "{") w) _ _ none
    (choose (begins_with (codes "}") w) _ _ none
    (choose (begins_with (codes "[") w) _ _ none
    (choose (begins_with (codes "]") w) _ _ none
    (choose (begins_with (codes "(") w) _ _ none
    (choose (begins_with (codes ")") w) _ _ none
    (choose (begins_with (codes "$") w) _ _ none
    (choose (begins_with (codes ",") w) _ _ none
    (choose (begins_with (codes ";") w) _ _ none
    (choose (begins_with (codes ":") w) _ _ none none)))))))))

dot_fresh : (w : List ℕ) → Fresh (enter_dot w)
dot_fresh w = choose (begins_field_name (drop 1 w)) _ _ none none

one_fresh : (kind : TokenKind) (w : List ℕ) → Fresh (enter_one kind w)
one_fresh kind w =
    choose (begins_with (codes ".") w) _ _ (dot_fresh w)
    (choose (begins_with (codes "+") w) _ _ none
    (choose (begins_with (codes "-") w || begins_char is_minus w) _ _ none
    (choose (begins_with (codes "*") w) _ _ none
    (choose (begins_with (codes "/") w) _ _ none
    (choose (begins_with (codes "=") w) _ _ none
    (choose (begins_with (codes "<") w) _ _ none
    (choose (begins_with (codes ">") w) _ _ none (bracket_fresh kind w))))))))

two_fresh : (kind : TokenKind) (w : List ℕ) → Fresh (enter_operator_sign kind w)
two_fresh kind w =
    choose (begins_with (codes "==") w) _ _ none
    (choose (begins_with (codes "!=") w) _ _ none
    (choose (begins_with (codes "<=") w) _ _ none
    (choose (begins_with (codes ">=") w) _ _ none
    (choose (begins_with (codes "+=") w) _ _ none
    (choose (begins_with (codes "-=") w || (begins_char is_minus w && begins_with (codes "=") (drop 3 w))) _ _ none
    (choose (begins_with (codes "*=") w) _ _ none
    (choose (begins_with (codes "/=") w) _ _ none
    (choose (begins_with (codes "..") w) _ _ none
    (choose (begins_with (codes "=>") w) _ _ none (one_fresh kind w))))))))))

pub expression_fresh : (k : Behind) (w : List ℕ) → Fresh (enter_expression k w)
expression_fresh k w =
    choose (begins_with (codes "`") w) _ _ one
    (choose (is_label_start w) _ _ none
    (choose (is_based w) _ _ none
    (choose (begins is_ascii_digit w) _ _ none
    (choose (is_fraction w) _ _ none
    (choose (begins_with (codes "\"") w) _ _ none
    (choose (begins_char is_name_start w) _ _ (choose (is_field k) _ _ none none) (two_fresh InvalidCharacter w)))))))

code_begun : (k : Behind) (w : List ℕ) → Begun (enter_code k w)
code_begun k w =
    choose_begun (begins_char is_whitespace w) _ _ white (or_else (enter_comment w) _ (comment_begun w) (expression_fresh k w))

word_fresh : (w : List ℕ) → Fresh (enter_word w)
word_fresh w =
    choose (is_word_here (codes "not") w) _ _ none
    (choose (is_word_here (codes "and") w) _ _ none
    (choose (is_word_here (codes "or") w) _ _ none
    (choose (is_word_here (codes "in") w) _ _ none
    (choose (is_word_here (codes "if") w) _ _ none
    (choose (is_word_here (codes "else") w) _ _ none
    (choose (is_word_here (codes "as") w) _ _ none none))))))

pub operation_fresh : (k : Behind) (w : List ℕ) → Fresh (enter_operation k w)
operation_fresh k w =
    choose (is_label_start w || begins is_ascii_digit w || is_fraction w) _ _ none
    (choose (begins_char is_name_start w) _ _ (choose (is_field k) _ _ none (word_fresh w)) (two_fresh Other w))

operator_begun : (k : Behind) (w : List ℕ) → Begun (enter_operator k w)
operator_begun k w =
    choose_begun (begins_char is_whitespace w) _ _ white (or_else (enter_comment w) _ (comment_begun w) (operation_fresh k w))

char_fresh : (c : ℕ) (w : List ℕ) → Fresh (enter_char c w)
char_fresh c w = choose (is_math_name w) _ _ none (choose (is_numeric c) _ _ none none)

or_char : (o : Option ℕ) (x : Place) (f : ℕ → Place) → Fresh x → ((c : ℕ) → Fresh (f c)) → Fresh (elim o as (λ _. Place) [ None ↦ x | Some c ↦ f c ])
or_char None x f p q = p
or_char (Some c) x f p q = q c

math_sign_fresh : (w : List ℕ) → Fresh (enter_math_sign w)
math_sign_fresh w =
    choose (begins_with (codes ".") w) _ _ none
    (choose (begins_with (codes ",") w) _ _ none
    (choose (begins_with (codes ";") w) _ _ none
    (choose (begins_with (codes "(") w) _ _ none
    (choose (begins_with (codes ")") w) _ _ none
    (choose (begins_with (codes "#") w) _ _ none
    (choose (begins_with (codes "_") w) _ _ none
    (choose (begins_with (codes "$") w) _ _ none
    (choose (begins_with (codes "/") w) _ _ none
    (choose (begins_with (codes "^") w) _ _ none
    (choose (begins_with (codes "&") w) _ _ none
    (choose (begins_char is_root w) _ _ none
    (choose (begins_with (codes "!") w) _ _ none
    (or_char (first_char w) _ (λ c. enter_char c w) none (λ c. char_fresh c w))))))))))))))

shorthand_fresh : (w : List ℕ) → Fresh (enter_shorthand w)
shorthand_fresh w =
    choose (is_shorthand_of_four w) _ _ none
    (choose (is_shorthand_of_three w) _ _ none
    (choose (is_shorthand_of_two w) _ _ none
    (choose (begins_with (codes "[|") w) _ _ none
    (choose (begins_with (codes "|]") w) _ _ none
    (choose (is_shorthand_of_one w) _ _ none (math_sign_fresh w))))))

pub formula_fresh : (w : List ℕ) → Fresh (enter_formula w)
formula_fresh w =
    choose (begins_with (codes "\\") w) _ _ (escape_fresh w)
    (choose (begins_with (codes "\"") w) _ _ none
    (choose (begins_with (codes "'") w) _ _ none (shorthand_fresh w)))

math_begun : (w : List ℕ) → Begun (enter_math w)
math_begun w =
    choose_begun (begins_char is_whitespace w) _ _ white (or_else (enter_comment w) _ (comment_begun w) (formula_fresh w))

name_fresh : (c : ℕ) (w : List ℕ) → Fresh (enter_name c w)
name_fresh c w =
    choose (is_colon_after w) _ _ none
    (choose (is_math_name w) _ _ none
    (choose (begins_char is_name_part (after_char w)) _ _ none (formula_fresh w)))

pub value_fresh : (w : List ℕ) → Fresh (enter_value w)
value_fresh w =
    or_char (first_char w) _ (λ c. if is_name_start c then enter_name c w else enter_formula w) (formula_fresh w)
    (λ c. choose (is_name_start c) _ _ (name_fresh c w) (formula_fresh w))

argument_begun : (w : List ℕ) → Begun (enter_argument w)
argument_begun w =
    choose_begun (begins_char is_whitespace w) _ _ white
    (choose_begun (is_spread w) _ _ white (or_else (enter_comment w) _ (comment_begun w) (value_fresh w)))

begun : (mode : Mode) (k : Behind) (w : List ℕ) → Begun (enter mode k w)
begun Markup k w = markup_begun k w
begun Math k w = math_begun w
begun Argument k w = argument_begun w
begun Code k w = code_begun k w
begun Operator k w = operator_begun k w

pub begin_accepts : (mode : Mode) (k : Behind) (w : List ℕ) → accepts (begin mode k w) ≡ true
begin_accepts mode k w = (begun mode k w).1

pub begin_counts : (mode : Mode) (k : Behind) (w : List ℕ) → count (begin mode k w) ≤ 1
begin_counts mode k w = (begun mode k w).0

-- what a token is inside of next, if it goes on, counts at most n
abbrev AtMost : ℕ → Option Place → Type 0
AtMost n None = Unit {0}
AtMost n (Some p) = count_of p ≤ n

pick : (n : ℕ) (b : Bool) (x y : Option Place) → AtMost n x → AtMost n y → AtMost n (if b then x else y)
pick n true x y p q = p
pick n false x y p q = q

pick_place : (n : ℕ) (b : Bool) (x y : Place) → count_of x ≤ n → count_of y ≤ n → count_of (if b then x else y) ≤ n
pick_place n true x y p q = p
pick_place n false x y p q = q

least : (n : ℕ) → 0 ≤ n
least n = omega arith

space_counts : (w : List ℕ) (x y : Place) → count_of x ≤ 1 → count_of y ≤ 1 → AtMost 1 (if ends_line w then Some y else (if begins_char is_blank w then Some x else None))
space_counts w x y p q = pick 1 (ends_line w) _ _ q (pick 1 (begins_char is_blank w) _ _ p tt)

text_counts : (w : List ℕ) → AtMost 1 (stay_text w)
text_counts w = pick 1 (text_goes_on w) _ _ (least 1) tt

link_counts : (brackets : ℕ) (w : List ℕ) → AtMost 1 (stay_at (place.Link brackets) w)
link_counts brackets w =
    pick 1 (begins is_link w) _ _ (least 1)
    (pick 1 (begins is_link_mark w) _ _ (least 1)
    (pick 1 (begins_with (codes "(") w && nat_lt brackets (2 ^ 62)) _ _ (least 1)
    (pick 1 (begins_with (codes "[") w && nat_lt brackets (2 ^ 62)) _ _ (least 1)
    (pick 1 (begins_with (codes ")") w && (brackets % 2 == 1)) _ _ (least 1)
    (pick 1 (begins_with (codes "]") w && (brackets % 2 == 0) && nat_lt 0 brackets) _ _ (least 1) tt)))))

ref_counts : (w : List ℕ) → AtMost 1 (stay_at place.Ref w)
ref_counts w = pick 1 (begins_with (codes ".") w || begins_with (codes ":") w) _ _ (least 1) (pick 1 (begins_char is_name_part w) _ _ (least 1) tt)

digits_count : (value digit : ℕ) → count_of (digits_with value digit) ≤ 1
digits_count value digit = pick_place 1 (nat_lt (value * 10 + digit) (2 ^ 64)) _ _ (least 1) (least 1)

number_counts : (value : ℕ) (w : List ℕ) → AtMost 1 (stay_at (place.EnumNumber value) w)
number_counts value w =
    pick 1 (begins is_ascii_digit w) _ _ (digits_count value (first_digit w))
    (pick 1 (begins_with (codes ".") w) _ _ (pick_place 1 (is_at_blank (drop 1 w)) _ _ (least 1) (least 1)) (text_counts w))

large_counts : (w : List ℕ) → AtMost 1 (stay_at place.LargeNumber w)
large_counts w = pick 1 (begins is_ascii_digit w) _ _ (least 1) (pick 1 (begins_with (codes ".") w) _ _ (least 1) (text_counts w))

letters_count : (kind : TokenKind) (w : List ℕ) → AtMost 1 (stay_letters kind w)
letters_count kind w = pick 1 (begins is_suffix w) _ _ (least 1) tt

suffix_counts : (w : List ℕ) → count_of (enter_suffix w) ≤ 1
suffix_counts w =
    pick_place 1 (bytes_eq (take_while is_suffix w) (codes "%")) _ _ (least 1)
    (pick_place 1 (is_short_unit (take_while is_suffix w)) _ _ (least 1)
    (pick_place 1 (is_long_unit (take_while is_suffix w)) _ _ (least 1) (least 1)))

unit_counts : (w : List ℕ) → AtMost 1 (stay_unit w)
unit_counts w = pick 1 (begins is_suffix w) _ _ (suffix_counts w) tt

exponent_counts : (w : List ℕ) → AtMost 1 (stay_exponent w)
exponent_counts w = pick 1 ((begins_with (codes "e") w || begins_with (codes "E") w) && not (begins_with (codes "em") w)) _ _ (least 1) (unit_counts w)

integer_counts : (w : List ℕ) → AtMost 1 (stay_at place.Integer w)
integer_counts w =
    pick 1 (begins is_ascii_digit w) _ _ (least 1)
    (pick 1 (begins_with (codes ".") w && not (begins_with (codes "..") w || begins_char is_name_start (drop 1 w))) _ _ (least 1) (exponent_counts w))

power_sign_counts : (w : List ℕ) → AtMost 1 (stay_at place.ExponentSign w)
power_sign_counts w = pick 1 (begins is_ascii_digit w) _ _ (least 1) (letters_count InvalidFloat w)

string_counts : (w : List ℕ) → count_of (stay_string w) ≤ 1
string_counts w = pick_place 1 (begins_with (codes "\"") w) _ _ (least 1) (pick_place 1 (begins_with (codes "\\") w) _ _ (least 1) (least 1))

by_char : (o : Option ℕ) (f : ℕ → Option Place) → ((c : ℕ) → AtMost 1 (f c)) → AtMost 1 (elim o as (λ _. Option Place) [ None ↦ None | Some c ↦ f c ])
by_char None f q = tt
by_char (Some c) f q = q c

cluster_counts : (kind : TokenKind) (cluster : Cluster) (w : List ℕ) → AtMost 1 (stay_cluster kind cluster w)
cluster_counts kind cluster w =
    by_char (first_char w) (λ c. if joins cluster c then Some (place.Cluster (longer_kind kind) (with_char cluster c)) else None)
    (λ c. pick 1 (joins cluster c) _ _ (least 1) tt)

name_counts : (single : Bool) (cluster : Cluster) (c : ℕ) → count_of (name_with single cluster c) ≤ 1
name_counts single cluster c = pick_place 1 (joins cluster c) _ _ (least 1) (least 1)

math_name_counts : (single : Bool) (cluster : Cluster) (w : List ℕ) → AtMost 1 (stay_math_name single cluster w)
math_name_counts single cluster w =
    by_char (first_char w) (λ c. if is_math_part c then Some (name_with single cluster c) else None)
    (λ c. pick 1 (is_math_part c) _ _ (name_counts single cluster c) tt)

argument_counts : (w : List ℕ) → AtMost 1 (stay_argument w)
argument_counts w = pick 1 (begins_char is_name_part w) _ _ (pick_place 1 (is_colon_after w) _ _ (least 1) (least 1)) tt

argument_with_counts : (single : Bool) (cluster : Cluster) (c : ℕ) → count_of (argument_with single cluster c) ≤ 1
argument_with_counts single cluster c = pick_place 1 (joins cluster c) _ _ (least 1) (least 1)

after_name_counts : (single : Bool) (cluster : Cluster) (c : ℕ) (w : List ℕ) → count_of (after_argument_name single cluster c w) ≤ 1
after_name_counts single cluster c w =
    pick_place 1 (is_colon_after w) _ _ (least 1) (pick_place 1 (is_math_part c) _ _ (argument_with_counts single cluster c) (least 1))

argument_name_counts : (single : Bool) (cluster : Cluster) (w : List ℕ) → AtMost 1 (stay_argument_name single cluster w)
argument_name_counts single cluster w =
    by_char (first_char w) (λ c. if is_name_part c then Some (after_argument_name single cluster c w) else None)
    (λ c. pick 1 (is_name_part c) _ _ (after_name_counts single cluster c w) tt)

stay_counts : (p : Place) (w : List ℕ) → AtMost (suc (count_of p)) (stay_at p w)
stay_counts place.Space w = space_counts w _ _ (least 1) (least 1)
stay_counts place.Line w = space_counts w _ _ (least 1) (least 1)
stay_counts place.Parbreak w = space_counts w _ _ (least 1) (least 1)
stay_counts place.LineComment w = pick 1 (begins_char is_newline w) _ _ tt (least 1)
stay_counts place.Shebang w = pick 1 (begins_char is_newline w) _ _ tt (least 1)
stay_counts (place.BlockComment depth) w =
    let less : depth - 1 ≤ suc depth = omega arith in
    let more : depth + 1 ≤ suc depth = omega arith in
    let same : depth ≤ suc depth = omega arith in
    pick_place (suc depth) (begins_with (codes "*/") w) _ _ less (pick_place (suc depth) (begins_with (codes "/*") w) _ _ more same)
stay_counts (place.CommentMark depth) w =
    let same : depth ≤ suc depth = omega arith in
    pick_place (suc depth) (depth == 0) _ _ (least (suc depth)) same
stay_counts (place.RawOpening n) w =
    let more : n + 1 ≤ suc n = omega arith in
    pick (suc n) (begins_with (codes "`") w) _ _ more (pick (suc n) (n == 2) _ _ tt (least (suc n)))
stay_counts (place.RawText n run) w =
    let more : run + 1 ≤ suc run = omega arith in
    pick_place (suc run) (begins_with (codes "`") w) _ _ (pick_place (suc run) (run + 1 == n) _ _ (least (suc run)) more) (least (suc run))
stay_counts (place.EscapeDigits left) w =
    pick 1 (nat_le 1 left) _ _ (least 1) (pick 1 (begins is_ascii_alphanumeric w) _ _ (least 1) (pick 1 (begins_with (codes "}") w) _ _ (least 1) tt))
stay_counts place.EscapeEnd w = tt
stay_counts (place.Link brackets) w = link_counts brackets w
stay_counts (place.LinkMark brackets) w = link_counts brackets w
stay_counts place.Label w = pick 1 (begins_char is_label_part w) _ _ (least 1) (pick 1 (begins_with (codes ">") w) _ _ (least 1) tt)
stay_counts place.Ref w = ref_counts w
stay_counts place.RefMark w = ref_counts w
stay_counts place.Heading w = (heading_fresh w).0
stay_counts (place.EnumNumber value) w = number_counts value w
stay_counts place.LargeNumber w = large_counts w
stay_counts place.Text w = text_counts w
stay_counts place.Blank w = pick 1 (begins_char is_whitespace w) _ _ (least 1) tt
stay_counts place.Integer w = integer_counts w
stay_counts place.Based w = pick 1 (begins is_suffix w) _ _ (least 1) tt
stay_counts place.Fraction w = pick 1 (begins is_ascii_digit w) _ _ (least 1) (exponent_counts w)
stay_counts place.Exponent w = pick 1 (begins_with (codes "+") w || begins_with (codes "-") w) _ _ (least 1) (power_sign_counts w)
stay_counts place.ExponentSign w = power_sign_counts w
stay_counts place.Power w = pick 1 (begins is_ascii_digit w) _ _ (least 1) (unit_counts w)
stay_counts (place.Letters kind) w = letters_count kind w
stay_counts place.Str w = string_counts w
stay_counts place.StrEscape w = least 1
stay_counts place.Name w = pick 1 (begins_char is_name_part w) _ _ (least 1) tt
stay_counts place.FieldName w = pick 1 (begins_char is_name_part w) _ _ (least 1) tt
stay_counts (place.Cluster kind cluster) w = cluster_counts kind cluster w
stay_counts (place.MathName single cluster) w = math_name_counts single cluster w
stay_counts place.MathNumber w = pick 1 (begins_char is_numeric w) _ _ (least 1) (pick 1 (begins_with (codes ".") w && begins_char is_numeric (drop 1 w)) _ _ (least 1) tt)
stay_counts place.MathFraction w = pick 1 (begins_char is_numeric w) _ _ (least 1) tt
stay_counts place.Primes w = pick 1 (begins_with (codes "'") w) _ _ (least 1) tt
stay_counts (place.ArgumentFirst kind) w = argument_counts w
stay_counts (place.ArgumentName single cluster) w = argument_name_counts single cluster w
stay_counts place.ArgumentRest w = argument_counts w
stay_counts (place.Rest kind more) w = pick 1 (more == 0) _ _ tt (least 1)

inside_counts : (s : Reading) (w : List ℕ) → AtMost (suc (count s)) (stay_inside s w)
inside_counts s w = let same : count s ≤ suc (count s) = omega arith in pick (suc (count s)) (begins goes_on w) _ _ same (stay_counts s.place w)

abbrev IsAtMost : ℕ → Option Reading → Type 0
IsAtMost n None = Unit {0}
IsAtMost n (Some t) = count t ≤ n

behind_counts : (n : ℕ) (o : Option Place) (k : Behind) (w : List ℕ) → AtMost n o → IsAtMost n (elim o as (λ _. Option Reading) [ None ↦ None | Some now ↦ Some (reading now k w) ])
behind_counts n None k w p = tt
behind_counts n (Some i) k w p = p

states_count : (s : Reading) (w : List ℕ) → IsAtMost (suc (count s)) (stay s w)
states_count s w = behind_counts (suc (count s)) (stay_inside s w) s.behind w (inside_counts s w)

-- a token that goes on counts at most one more
pub stay_counts_more : (s t : Reading) (w : List ℕ) → stay s w ≡ Some t → count t ≤ suc (count s)
stay_counts_more s t w e = subst (IsAtMost (suc (count s))) e (states_count s w)

-- a byte either continues a character or begins one
does_go_on : (b : ℕ) → 128 ≤ b → b < 192 → goes_on b ≡ true
does_go_on b low high = grind (arith, nat_tests)

goes_or_begins : (b : ℕ) → (goes_on b ≡ true) ⊎ ((b < 128) ⊎ (192 ≤ b))
goes_or_begins b = elim (cases_lt b 128) as (λ _. (goes_on b ≡ true) ⊎ ((b < 128) ⊎ (192 ≤ b))) [
  | inl low ↦ inr (inl low)
  | inr ge ↦ elim (cases_lt b 192) as (λ _. (goes_on b ≡ true) ⊎ ((b < 128) ⊎ (192 ≤ b))) [
    | inl less ↦ inl (does_go_on b ge less)
    | inr high ↦ inr (inr high)
  ]
]

abbrev after : Option Place → Behind → List ℕ → Option Reading
after o k w = elim o as (λ _. Option Reading) [ None ↦ None | Some now ↦ Some (reading now k w) ]

no_end : (s : Reading) (w : List ℕ) (v : Bool) → v ≡ true → after (if v then Some s.place else stay_at s.place w) s.behind w ≡ None → ⊥
no_end s w true h e = cc
no_end s w false h e = cc

-- no token ends before a byte that continues a character
pub stay_stops : (s : Reading) (b : ℕ) (bs : List ℕ) → stay s (b ∷ bs) ≡ None → (b < 128) ⊎ (192 ≤ b)
stay_stops s b bs e = elim (goes_or_begins b) as (λ _. (b < 128) ⊎ (192 ≤ b)) [ inl goes ↦ absurd (no_end s (b ∷ bs) (goes_on b) goes e) | inr begins ↦ begins ]

abbrev MayEnd : Option Reading → Type 0
MayEnd None = Unit {0}
MayEnd (Some t) = accepts t ≡ true

same_place : (s : Reading) (w : List ℕ) (v : Bool) → v ≡ true → accepts s ≡ true → MayEnd (after (if v then Some s.place else stay_at s.place w) s.behind w)
same_place s w true h a = a
same_place s w false h a = cc

-- where a token may end, it may also end after a byte that continues a character
pub stay_keeps : (s t : Reading) (b : ℕ) (bs : List ℕ) → accepts s ≡ true → stay s (b ∷ bs) ≡ Some t → (accepts t ≡ true) ⊎ ((b < 128) ⊎ (192 ≤ b))
stay_keeps s t b bs a e = elim (goes_or_begins b) as (λ _. (accepts t ≡ true) ⊎ ((b < 128) ⊎ (192 ≤ b))) [
  | inl goes ↦ inl (subst MayEnd e (same_place s (b ∷ bs) (goes_on b) goes a))
  | inr begins ↦ inr begins
]
