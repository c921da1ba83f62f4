-- Signs of math that are quickly found are those of the machine.
use Rattle.std.proofs.Common.{◌≡◌, ℕ, ◌<◌, ◌≤◌, ◌≢◌, nat_lt, Bool, true, false, List, [], ◌∷◌, length, take, refl, sym, ap, subst, ◌∙◌, arith}
use Rattle.std.specs.Prelude.{◌&&◌, ◌||◌, ◌==◌, not, codes, slice_index, Option, Some, None, if◌then◌else◌}
use Rattle.std.specs.Char.{is_ascii_alphanumeric, is_ascii_graphic, is_whitespace}
use Rattle.std.specs.Char.Unicode.Rows.{in_ranges}
use Rattle.std.specs.Char.Unicode.Alphabetic.{alphabetic_ranges, is_alphabetic}
use Rattle.std.specs.Char.Unicode.Numeric.{is_numeric, numeric_ranges}
use Rattle.std.proofs.lemmas.Bool.Decides.{nat_tests}
use Rattle.ucd_table.specs.Rows as tables
use Rattle.ucd_derived.specs.Binary.{is_xid_start}
use Rattle.ucd_derived.specs.XidStartRanges.{xid_start_ranges}
use Rattle.typst_lexer.specs.declared.cluster.Cluster.{Cluster}
use Rattle.typst_lexer.specs.declared.mode.Mode.TheVariants as modes
use Rattle.typst_lexer.specs.declared.place.Behind.{Behind}
use Rattle.typst_lexer.specs.declared.place.Place.{Place}
use Rattle.typst_lexer.specs.declared.place.Place.TheVariants as place
use Rattle.typst_lexer.specs.declared.token.TokenKind.{TokenKind}
use Rattle.typst_lexer.specs.declared.token.TokenKind.TheVariants as kinds
use Rattle.typst_lexer.specs.Bytes.{ends_before, is_alone, is_other, is_simple}
use Rattle.typst_lexer.specs.Characters.{begins_with}
use Rattle.typst_lexer.specs.Clusters.{cluster_of}
use Rattle.typst_lexer.specs.Machine.{kind_of}
use Rattle.typst_lexer.specs.Math.{char_kind, dot_kind, enter_char, enter_first, enter_math, enter_math_sign, is_closing, is_math_start, is_opening, is_root, is_shorthand_of_four, is_shorthand_of_one, is_shorthand_of_three, is_shorthand_of_two}
use Rattle.typst_lexer.specs.Quick.{IsQuick}
use Rattle.typst_lexer.proofs.Ascii.{all_below, begins_is, below_at, both, first_is, has, has_not, same, skip}
use Rattle.typst_lexer.proofs.QuickTokens.{and_left, before_byte, found, low_from}
use Rattle.typst_lexer.proofs.Signs.{alone}
use Rattle.typst_lexer.proofs.Simple.{simple_cluster}
use Rattle.typst_lexer.proofs.QuickMath.{as_token, but, is_but, plain}

graphic_low : (c : ℕ) → is_ascii_graphic c ≡ true → c < 128
graphic_low c h = grind (arith, nat_tests)

-- a printed character of ASCII, but no letter, no digit, and none of `"'.\`
abbrev is_sign : ℕ → Bool
is_sign b = is_ascii_graphic b && not (is_ascii_alphanumeric b || (b == 34) || (b == 39) || (b == 46) || (b == 92))

-- A comment or a shorthand of more than one character may begin with the two bytes.
abbrev is_begun : ℕ → ℕ → Bool
is_begun b c =
    if b == 33 then c == 61
    else (if b == 42 then c == 47
    else (if b == 45 then (c == 45) || (c == 62)
    else (if b == 47 then (c == 42) || (c == 47)
    else (if b == 58 then (c == 58) || (c == 61)
    else (if b == 60 then (c == 45) || (c == 60) || (c == 61) || (c == 126)
    else (if b == 61 then (c == 58) || (c == 61) || (c == 62)
    else (if b == 62 then (c == 45) || (c == 61) || (c == 62)
    else (if b == 91 then c == 124
    else (if b == 124 then (c == 45) || (c == 61) || (c == 93) || (c == 124)
    else ((b == 126) && ((c == 62) || (c == 126))))))))))))

-- A sign is a token by itself before the byte.
abbrev is_single : ℕ → ℕ → Bool
is_single b c = is_sign b && nat_lt c 128 && not (is_begun b c)

-- the kind of a character, given whether it is an opening bracket, a closing one, or a letter
abbrev kind_by : ℕ → Bool → Bool → Bool → TokenKind
kind_by b opening closing letter =
    if b == 123 then kinds.LeftBrace
    else (if b == 125 then kinds.RightBrace
    else (if opening then kinds.Opening
    else (if closing then kinds.Closing
    else (if letter then kinds.MathLetter
    else kinds.MathText))))

-- the kind of a sign as a token by itself
abbrev sign_kind : ℕ → TokenKind
sign_kind b =
    if (b == 45) || (b == 42) || (b == 126) then kinds.MathShorthand
    else (if b == 44 then kinds.Comma
    else (if b == 59 then kinds.Semicolon
    else (if b == 40 then kinds.LeftParen
    else (if b == 41 then kinds.RightParen
    else (if b == 35 then kinds.Hash
    else (if b == 95 then kinds.Underscore
    else (if b == 36 then kinds.Dollar
    else (if b == 47 then kinds.Slash
    else (if b == 94 then kinds.Hat
    else (if b == 38 then kinds.MathAlignPoint
    else (if b == 33 then kinds.Bang
    else kind_by b (b == 91) (b == 93) false)))))))))))

-- a token inside of this is of the kind, and ends before each byte of ASCII
record IsShort (p : Place) (kind : TokenKind) : Type 0 where
  of : (text : List ℕ) → kind_of p text ≡ kind
  ends : (c : ℕ) → ends_before p c ≡ true

mark : (kind : TokenKind) → IsShort (place.Rest kind 0) kind
mark kind = record { of = λ text. refl; ends = λ c. refl }

choose : (u v : Bool) (p q : Place) (x y : TokenKind) → u ≡ v → IsShort p x → IsShort q y → IsShort (if u then p else q) (if v then x else y)
choose true true p q x y e l r = l
choose true false p q x y e l r = cc
choose false true p q x y e l r = cc
choose false false p q x y e l r = r

abbrev by_itself : List ℕ → Place
by_itself w = if is_shorthand_of_one w then place.Rest kinds.MathShorthand 0 else enter_math_sign w

is_byte : (n b : ℕ) → ((n == b) && true) ≡ (b == n)
is_byte n b = grind (arith, nat_tests)

-- a sign before a byte with which it makes nothing longer
module _ (b c : ℕ) (cs : List ℕ) (single : is_single b c ≡ true) where
  sign : is_sign b ≡ true
  sign = (both (is_sign b) (nat_lt c 128) (both _ _ single).0).0

  low : b < 128
  low = graphic_low b (both _ _ sign).0

  next : nat_lt c 128 ≡ true
  next = (both (is_sign b) (nat_lt c 128) (both _ _ single).0).1

  no : (f : List ℕ → Bool) → all_below (λ b. all_below (λ c. not (is_single b c) || not (f (b ∷ c ∷ cs))) 128) 128 ≡ true → f (b ∷ c ∷ cs) ≡ false
  no f ok = has_not (is_single b) (λ c. f (b ∷ c ∷ cs)) c (low_from c next) single (below_at (λ b. all_below (λ c. not (is_single b c) || not (f (b ∷ c ∷ cs))) 128) 128 b ok low)

  enters : enter_math (b ∷ c ∷ cs) ≡ by_itself (b ∷ c ∷ cs)
  enters =
      plain (b ∷ c ∷ cs) (begins_is b (c ∷ cs) low is_whitespace ∙ has_not is_sign is_whitespace b low sign refl) (no (begins_with (codes "//")) refl)
      (no (begins_with (codes "/*")) refl) (no (begins_with (codes "*/")) refl) (no (begins_with (codes "\\")) refl) (no (begins_with (codes "\"")) refl) (no (begins_with (codes "'")) refl)
      ∙ skip _ _ _ (no is_shorthand_of_four refl)
      ∙ skip _ _ _ (no is_shorthand_of_three refl)
      ∙ skip _ _ _ (no is_shorthand_of_two refl)
      ∙ skip _ _ _ (no (begins_with (codes "[|")) refl)
      ∙ skip _ _ _ (no (begins_with (codes "|]")) refl)

  single_char : enter_first (b ∷ c ∷ cs) ≡ place.Cluster (char_kind b) (cluster_of b)
  unfolding tables.in_ranges xid_start_ranges is_xid_start in_ranges numeric_ranges is_numeric
  single_char =
      ap (λ (o : Option ℕ). elim o as (λ _. Place) [ None ↦ place.Rest kinds.MathText 0 | Some d ↦ enter_char d (b ∷ c ∷ cs) ]) (first_is b (c ∷ cs) low)
      ∙ skip _ _ _ (and_left _ _ (begins_is b (c ∷ cs) low is_math_start ∙ has_not is_sign is_math_start b low sign refl))
      ∙ skip _ _ _ (has_not is_sign is_numeric b low sign refl)

  by_mark : {q : Place} {y : TokenKind} (n : ℕ) (kind : TokenKind) → IsShort q y
      → IsShort (if begins_with (n ∷ []) (b ∷ c ∷ cs) then place.Rest kind 0 else q) (if b == n then kind else y)
  by_mark n kind other = choose _ _ _ _ _ _ (is_byte n b) (mark kind) other

  one_kind : char_kind b ≡ kind_by b (b == 91) (b == 93) false
  unfolding in_ranges alphabetic_ranges is_alphabetic
  one_kind =
      ap (λ (v : Bool). kind_by b v (is_closing b) (is_alphabetic b)) (same is_opening (λ b. b == 91) b low refl)
      ∙ ap (λ (v : Bool). kind_by b (b == 91) v (is_alphabetic b)) (same is_closing (λ b. b == 93) b low refl)
      ∙ ap (λ (v : Bool). kind_by b (b == 91) (b == 93) v) (has_not is_sign is_alphabetic b low sign refl)

  short : IsShort (by_itself (b ∷ c ∷ cs)) (sign_kind b)
  short =
      choose _ _ _ _ _ _ (same (λ b. is_shorthand_of_one (b ∷ c ∷ cs)) (λ b. (b == 45) || (b == 42) || (b == 126)) b low refl) (mark kinds.MathShorthand)
      (choose _ false _ _ (dot_kind (b ∷ c ∷ cs)) _ (has_not is_sign (λ b. begins_with (codes ".") (b ∷ c ∷ cs)) b low sign refl) (mark _)
      (by_mark 44 kinds.Comma (by_mark 59 kinds.Semicolon (by_mark 40 kinds.LeftParen (by_mark 41 kinds.RightParen (by_mark 35 kinds.Hash
      (by_mark 95 kinds.Underscore (by_mark 36 kinds.Dollar (by_mark 47 kinds.Slash (by_mark 94 kinds.Hat (by_mark 38 kinds.MathAlignPoint
      (choose _ false _ _ kinds.Root _ (begins_is b (c ∷ cs) low is_root ∙ has_not is_sign is_root b low sign refl) (mark _)
      (by_mark 33 kinds.Bang one_char)))))))))))))
    where
      one_char : IsShort (enter_first (b ∷ c ∷ cs)) (kind_by b (b == 91) (b == 93) false)
      one_char =
          let other : is_other (cluster_of b).last ≡ true = ap (λ (e : Cluster). is_other e.last) (simple_cluster b (has is_sign is_simple b low sign refl)) in
          subst (λ p. IsShort p (kind_by b (b == 91) (b == 93) false)) (sym single_char)
          (subst (λ kind. IsShort (place.Cluster (char_kind b) (cluster_of b)) kind) one_kind (record { of = λ text. refl; ends = λ d. other }))

abbrev IsSign : ℕ → ℕ → TokenKind → Type 0
IsSign b c kind = (k : Behind) (rest : List ℕ) → IsQuick modes.Math k (b ∷ c ∷ rest) (record { kind = kind; len = 1 })

single_found : (b c : ℕ) → is_single b c ≡ true → IsSign b c (sign_kind b)
single_found b c e k cs =
    let rest : List ℕ = take 8 cs in
    let p : Place = by_itself (b ∷ c ∷ rest) in
    let is = short b c rest e in
    as_token modes.Math k p (b ∷ c ∷ cs) (sign_kind b) 0
    (found modes.Math k p b (c ∷ cs) 0 (low b c rest e) (has_not is_sign (λ b. b == 46) b (low b c rest e) (sign b c rest e) refl) (enters b c rest e) (omega arith) (omega arith)
    (before_byte p c cs (ap (λ (v : Bool). v && ends_before p c) (next b c rest e) ∙ is.ends c)))
    (is.of (take 1 (b ∷ c ∷ cs)))

-- a sign before a byte of the class
pub sign_found : (b c n : ℕ) (kind : TokenKind) (f : ℕ → Bool) → b ≡ n → c < 128 → f c ≡ true → all_below (λ c. not (f c) || is_single n c) 128 ≡ true → sign_kind n ≡ kind → IsSign b c kind
sign_found b c n kind f is next h ok of =
    subst (λ n. IsSign n c kind) (sym is) (subst (IsSign n c) of (single_found n c (has f (is_single n) c next h ok)))

-- a sign with which nothing longer begins
pub lone_found : (b c n : ℕ) (kind : TokenKind) → b ≡ n → c < 128 → all_below (is_single n) 128 ≡ true → sign_kind n ≡ kind → IsSign b c kind
lone_found b c n kind is next ok of = sign_found b c n kind (λ c. true) is next refl ok of

-- a sign with which, before one byte or before two, something longer begins
pub but_one_found : (b c n m : ℕ) (kind : TokenKind) → b ≡ n → c < 128 → c ≢ m → all_below (λ c. not (is_but m c) || is_single n c) 128 ≡ true → sign_kind n ≡ kind → IsSign b c kind
but_one_found b c n m kind is next other ok of = sign_found b c n kind (is_but m) is next (but m c other) ok of

pub but_two_found : (b c n m o : ℕ) (kind : TokenKind) → b ≡ n → c < 128 → c ≢ m → c ≢ o
    → all_below (λ c. not (is_but m c && is_but o c) || is_single n c) 128 ≡ true → sign_kind n ≡ kind → IsSign b c kind
but_two_found b c n m o kind is next first second ok of =
    sign_found b c n kind (λ c. is_but m c && is_but o c) is next (ap (λ (v : Bool). v && is_but o c) (but m c first) ∙ but o c second) ok of

-- the bar, with which something longer begins before more bytes
pub bar_found : (b c : ℕ) → b ≡ 124 → c < 128 → is_alone c ≡ true → c ≢ 93 → IsSign b c kinds.MathText
bar_found b c is next alone other =
    sign_found b c 124 kinds.MathText (λ c. is_alone c && is_but 93 c) is next (ap (λ (v : Bool). v && is_but 93 c) alone ∙ but 93 c other) refl refl

-- what is quickly found of the first two bytes
pub signs_found : (bytes : List ℕ) (kind : TokenKind) → 2 ≤ length bytes → IsSign (slice_index bytes 0) (slice_index bytes 1) kind
    → (k : Behind) → IsQuick modes.Math k bytes (record { kind = kind; len = 1 })
signs_found [] kind two is = absurd (omega (arith, two))
signs_found (b ∷ []) kind two is = absurd (omega (arith, two))
signs_found (b ∷ c ∷ cs) kind two is = λ k. is k cs
