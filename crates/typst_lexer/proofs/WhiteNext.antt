-- A token is white space or a comment exactly if the text begins as such a token does.
use Rattle.std.proofs.Common.{◌≡◌, ℕ, ◌<◌, Bool, true, false, List, [], ◌∷◌, take, refl, sym, ap, ◌∙◌, arith}
use Rattle.std.specs.Prelude.{◌||◌, ◌&&◌, eqb, not, slice_index, codes, Some, None, if◌then◌else◌}
use Rattle.std.specs.Char.{is_whitespace}
use Rattle.std.proofs.lemmas.Bool.Decides.{nat_tests}
use Rattle.typst_lexer.specs.declared.mode.Mode.{Mode}
use Rattle.typst_lexer.specs.declared.mode.Mode.TheVariants as modes
use Rattle.typst_lexer.specs.declared.place.Behind.{Behind}
use Rattle.typst_lexer.specs.declared.place.Place.{Place}
use Rattle.typst_lexer.specs.declared.place.Place.TheVariants as place
use Rattle.typst_lexer.specs.declared.token.TokenKind.TheVariants as kinds
use Rattle.typst_lexer.specs.Arguments.{is_spread}
use Rattle.typst_lexer.specs.Characters.{begins_with}
use Rattle.typst_lexer.specs.Classes.{begins_char, ends_line, first_char, is_blank}
use Rattle.typst_lexer.specs.Machine.{enter}
use Rattle.typst_lexer.specs.Markup.{enter_content, is_start}
use Rattle.typst_lexer.specs.White.{begins_white, is_solid, is_white, is_white_next}
use Rattle.typst_lexer.specs.Spaces.{is_markup}
use Rattle.typst_lexer.proofs.Ascii.{all_below, begins_is, has_not}
use Rattle.typst_lexer.proofs.MachineLaws.{content_fresh, expression_fresh, formula_fresh, operation_fresh, value_fresh}
use Rattle.typst_lexer.proofs.WhiteRuns.{line_is_blank, nothing_begins}

never : true ≡ false → ⊥
never e = cc

-- what a comment or another token is inside of, by the tests
abbrev comment_or : Bool → Bool → Bool → Place → Place
comment_or c d e x =
    elim (if c then Some place.LineComment else (if d then Some (place.CommentMark 1) else (if e then Some (place.Rest kinds.UnexpectedCommentEnd 1) else None)))
    as (λ _. Place) [ None ↦ x | Some p ↦ p ]

comment_by : (c d e : Bool) (x : Place) → is_white x ≡ false → is_white (comment_or c d e x) ≡ (c || d)
comment_by true d e x h = refl
comment_by false true e x h = refl
comment_by false false true x h = refl
comment_by false false false x h = h

-- the tests in code and math
space_by : (v c d e : Bool) (x : Place) → is_white x ≡ false
    → is_white (if v then place.Blank else comment_or c d e x) ≡ (v || c || d || false)
space_by true c d e x h = any c d
  where
    any : (c d : Bool) → true ≡ (true || c || d || false)
    any true d = refl
    any false true = refl
    any false false = refl
space_by false true d e x h = refl
space_by false false true e x h = refl
space_by false false false true x h = refl
space_by false false false false x h = h

-- the tests in markup, where a newline is a blank
markup_by : (l v s c d e : Bool) (x : Place) → (l ≡ true → v ≡ true) → is_white x ≡ false
    → is_white (if l then place.Line else (if v then place.Space else (if s then place.Shebang else comment_or c d e x))) ≡ (v || c || d || s)
markup_by true true s c d e x f h = refl
markup_by true false s c d e x f h = absurd (never (sym (f refl)))
markup_by false true s c d e x f h = refl
markup_by false false s true d e x f h = any s
  where
    any : (s : Bool) → is_white (if s then place.Shebang else place.LineComment) ≡ true
    any true = refl
    any false = refl
markup_by false false s false true e x f h = any s
  where
    any : (s : Bool) → is_white (if s then place.Shebang else place.CommentMark 1) ≡ true
    any true = refl
    any false = refl
markup_by false false true false false e x f h = refl
markup_by false false false false false true x f h = refl
markup_by false false false false false false x f h = h

-- the tests at the beginning of an argument, where no comment begins as a spread does
argument_by : (v s c d e : Bool) (x : Place) → (s ≡ true → (c || d) ≡ false) → is_white x ≡ false
    → is_white (if v then place.Blank else (if s then place.Rest kinds.Dots 1 else comment_or c d e x)) ≡ (v || c || d || false)
argument_by true s c d e x f h = space_by true c d e x h
argument_by false true true d e x f h = absurd (never (f refl))
argument_by false true false true e x f h = absurd (never (f refl))
argument_by false true false false e x f h = refl
argument_by false false c d e x f h = space_by false c d e x h

no_comment : (b : ℕ) (u v : Bool) → eqb 46 b ≡ true → ((eqb 47 b && u) || (eqb 47 b && v)) ≡ false
no_comment b u v e = by_slash (eqb 47 b) u v (apart b e)
  where
    apart : (b : ℕ) → eqb 46 b ≡ true → eqb 47 b ≡ false
    apart b e = grind (arith, nat_tests)

    by_slash : (s u v : Bool) → s ≡ false → ((s && u) || (s && v)) ≡ false
    by_slash true u v e = cc
    by_slash false u v e = refl

spread_dot : (s u v : Bool) → ((s && u) && v) ≡ true → s ≡ true
spread_dot true u v e = refl
spread_dot false u v e = cc

spread_apart : (w : List ℕ) → is_spread w ≡ true → (begins_with (codes "//") w || begins_with (codes "/*") w) ≡ false
spread_apart [] e = refl
spread_apart (b ∷ bs) e = no_comment b _ _ (spread_dot (eqb 46 b) _ _ e)

no_start : (k : Behind) (w : List ℕ)
    → (begins_char is_whitespace w || begins_with (codes "//") w || begins_with (codes "/*") w || false)
    ≡ (begins_char is_whitespace w || begins_with (codes "//") w || begins_with (codes "/*") w || (is_start k && false && begins_with (codes "#!") w))
no_start k w = ap (λ (s : Bool). begins_char is_whitespace w || begins_with (codes "//") w || begins_with (codes "/*") w || s) (is_false (is_start k))
  where
    is_false : (u : Bool) → false ≡ (u && false && begins_with (codes "#!") w)
    is_false true = refl
    is_false false = refl

next_is : (m : Mode) (k : Behind) (w : List ℕ) → is_white (enter m k w) ≡ is_white_next m k w
next_is modes.Markup k w =
    markup_by (ends_line w) (begins_char is_blank w) (is_start k && begins_with (codes "#!") w) (begins_with (codes "//") w) (begins_with (codes "/*") w)
    (begins_with (codes "*/") w) (enter_content k w) (line_is_blank (first_char w) _) (content_fresh k w).2
    ∙ ap (λ (s : Bool). begins_char is_blank w || begins_with (codes "//") w || begins_with (codes "/*") w || s) (with_true (is_start k) (begins_with (codes "#!") w))
  where
    with_true : (u v : Bool) → (u && v) ≡ (u && true && v)
    with_true true v = refl
    with_true false v = refl
next_is modes.Math k w = space_by _ _ _ _ _ (formula_fresh w).2 ∙ no_start k w
next_is modes.Argument k w = argument_by _ _ _ _ _ _ (spread_apart w) (value_fresh w).2 ∙ no_start k w
next_is modes.Code k w = space_by _ _ _ _ _ (expression_fresh k w).2 ∙ no_start k w
next_is modes.Operator k w = space_by _ _ _ _ _ (operation_fresh k w).2 ∙ no_start k w

nothing : (k : Behind) → (begins_char is_whitespace [] || false || false || (is_start k && false && false)) ≡ false
nothing k = ap (λ (v : Bool). v || false || false || (is_start k && false && false)) (nothing_begins is_whitespace) ∙ none (is_start k)
  where
    none : (u : Bool) → (false || false || false || (u && false && false)) ≡ false
    none true = refl
    none false = refl

pub white_is : (m : Mode) (k : Behind) (text : List ℕ) → is_white_next m k (take 10 text) ≡ begins_white m k text
white_is m k (b ∷ bs) = sym (next_is m k (take 10 (b ∷ bs)))
white_is modes.Markup k [] = ap (λ (v : Bool). v || false || false || (is_start k && true && false)) (nothing_begins is_blank) ∙ none (is_start k)
  where
    none : (u : Bool) → (false || false || false || (u && true && false)) ≡ false
    none true = refl
    none false = refl
white_is modes.Math k [] = nothing k
white_is modes.Argument k [] = nothing k
white_is modes.Code k [] = nothing k
white_is modes.Operator k [] = nothing k

-- no white space and no comment
pub solid_is : (m : Mode) (k : Behind) (text : List ℕ) → is_solid (slice_index text 0) ≡ true → begins_white m k text ≡ false
solid_is m k [] e = refl
solid_is m k (b ∷ bs) e =
    sym (white_is m k (b ∷ bs))
    ∙ none _ _ _ _ (no_space (is_markup m)) (no (λ c. begins_with (codes "//") (c ∷ rest)) refl) (no (λ c. begins_with (codes "/*") (c ∷ rest)) refl)
    (never_both (is_start k) (is_markup m) _ (no (λ c. begins_with (codes "#!") (c ∷ rest)) refl))
  where
    rest : List ℕ
    rest = take 9 bs

    low : (c : ℕ) → is_solid c ≡ true → c < 128
    low c h = grind (arith, nat_tests)

    no : (p : ℕ → Bool) → all_below (λ c. not (is_solid c) || not (p c)) 128 ≡ true → p b ≡ false
    no p ok = has_not is_solid p b (low b e) e ok

    no_space : (v : Bool) → (if v then begins_char is_blank (b ∷ rest) else begins_char is_whitespace (b ∷ rest)) ≡ false
    no_space true = begins_is b rest (low b e) is_blank ∙ no is_blank refl
    no_space false = begins_is b rest (low b e) is_whitespace ∙ no is_whitespace refl

    none : (u v w x : Bool) → u ≡ false → v ≡ false → w ≡ false → x ≡ false → (u || v || w || x) ≡ false
    none false false false x a b c d = d
    none true v w x a b c d = cc
    none false true w x a b c d = cc
    none false false true x a b c d = cc

    never_both : (u v w : Bool) → w ≡ false → (u && v && w) ≡ false
    never_both true true w h = h
    never_both true false w h = refl
    never_both false v w h = refl
