-- Where raw text ends.
use Rattle.std.proofs.Common.{◌≡◌, ℕ, suc, zero, ◌+◌, ◌<◌, ◌≤◌, ◌⊎◌, inl, inr, nat_lt, Bool, true, false, List, [], ◌∷◌, ◌++◌, length, get_or, take, refl, sym, ap, subst, ◌∙◌, arith, IsUtf8}
use Rattle.std.specs.Prelude.{◌&&◌, ◌==◌, eqb, codes, Option, Some, None, if◌then◌else◌}
use Rattle.std.specs.Char.{is_whitespace}
use Rattle.std.proofs.lemmas.Bool.{cases_lt, eqb-true}
use Rattle.std.proofs.lemmas.Bool.Decides.{nat_tests}
use Rattle.std.proofs.lemmas.Str.{lead_after_ascii}
use Rattle.typst_lexer.specs.declared.mode.Mode.{Mode}
use Rattle.typst_lexer.specs.declared.mode.Mode.TheVariants as modes
use Rattle.typst_lexer.specs.declared.place.Behind.{Behind}
use Rattle.typst_lexer.specs.declared.place.Place.{Place}
use Rattle.typst_lexer.specs.declared.place.Place.TheVariants as place
use Rattle.typst_lexer.specs.declared.token.TokenKind.TheVariants as kinds
use Rattle.typst_lexer.specs.Characters.{begins, begins_with, goes_on}
use Rattle.typst_lexer.specs.Classes.{is_blank, is_newline}
use Rattle.typst_lexer.specs.FirstToken.{first}
use Rattle.typst_lexer.specs.Machine.{enter, kind_of, may_end, stay_inside}
use Rattle.typst_lexer.specs.Markup.{is_start}
use Rattle.typst_lexer.specs.RawTexts.{body_len, has_raw, has_ticks, raw_kind, raw_len, ticks}
use Rattle.typst_lexer.proofs.Steps.{EachRun, and_false, ended, first_kind, first_len, if_false, markup_by, step, tick_begins}
use Rattle.typst_lexer.proofs.WhiteRuns.{at}

-- fewer than n backticks, and then another byte or the end
few : (n r b : ℕ) (bs : List ℕ) → r < n → eqb 96 b ≡ false → begins_with (ticks n) (ticks r ++ b ∷ bs) ≡ false
few zero r b bs less other = absurd (omega arith)
few (suc n) zero b bs less other = ap (λ (v : Bool). v && begins_with (ticks n) bs) other
few (suc n) (suc r) b bs less other = few n r b bs (omega arith) other

few_end : (n r : ℕ) → r < n → begins_with (ticks n) (ticks r ++ []) ≡ false
few_end zero r less = absurd (omega arith)
few_end (suc n) zero less = refl
few_end (suc n) (suc r) less = few_end n r (omega arith)

full : (n : ℕ) (bs : List ℕ) → begins_with (ticks n) (ticks n ++ bs) ≡ true
full zero bs = refl
full (suc n) bs = full n bs

length_ticks : (r : ℕ) (t : List ℕ) → length (ticks r ++ t) ≡ r + length t
length_ticks zero t = omega arith
length_ticks (suc r) t = omega (arith, length_ticks r t)

shift : (r : ℕ) (bs : List ℕ) → ticks r ++ 96 ∷ bs ≡ ticks (suc r) ++ bs
shift zero bs = refl
shift (suc r) bs = ap (λ l. 96 ∷ l) (shift r bs)

-- the first n backticks are not among fewer ones
past : (n r b : ℕ) (bs : List ℕ) → r < n → eqb 96 b ≡ false → body_len n (ticks r ++ b ∷ bs) ≡ r + suc (body_len n bs)
past n zero b bs less other =
    let here : body_len n (b ∷ bs) ≡ suc (body_len n bs) = ap (λ (v : Bool). if v then 0 else suc (body_len n bs)) (few n 0 b bs less other) in
    omega arith
past n (suc r) b bs less other =
    let here : body_len n (ticks (suc r) ++ b ∷ bs) ≡ suc (body_len n (ticks r ++ b ∷ bs)) =
    ap (λ (v : Bool). if v then 0 else suc (body_len n (ticks r ++ b ∷ bs))) (few n (suc r) b bs less other) in
    omega (arith, here, past n r b bs (omega arith) other)

past_end : (n r : ℕ) → r < n → body_len n (ticks r ++ []) ≡ length (ticks r ++ [])
past_end n zero less = refl
past_end n (suc r) less =
    ap (λ (v : Bool). if v then 0 else suc (body_len n (ticks r ++ []))) (few_end n (suc r) less) ∙ ap suc (past_end n r (omega arith))

at_once : (n : ℕ) (bs : List ℕ) → 0 < n → body_len n (ticks n ++ bs) ≡ 0
at_once zero bs some = absurd (omega arith)
at_once (suc n) bs some = ap (λ (v : Bool). if v then 0 else suc (body_len (suc n) (ticks n ++ bs))) (full (suc n) bs)

-- no byte that continues a character comes directly after a backtick
abbrev AreWhole : List ℕ → Type 0
AreWhole [] = Unit {0}
AreWhole (a ∷ bs) = (a ≡ 96 → begins goes_on bs ≡ false) × AreWhole bs

-- raw text with r backticks directly before the place
abbrev Closed : ℕ → ℕ → List ℕ → Type 0
Closed n r t = (len : ℕ) × (len + r ≡ body_len n (ticks r ++ t) + n) × (body_len n (ticks r ++ t) < length (ticks r ++ t))
    × EachRun len (place.Rest kinds.Raw 0) (place.RawText n r) t

abbrev Opened : ℕ → ℕ → List ℕ → Type 0
Opened n r t = (last : ℕ) × (body_len n (ticks r ++ t) ≡ length (ticks r ++ t)) × EachRun (length t) (place.RawText n last) (place.RawText n r) t

abbrev Found : ℕ → ℕ → List ℕ → Type 0
Found n r t = Closed n r t ⊎ Opened n r t

over : (bs : List ℕ) → begins goes_on bs ≡ false → EachRun 0 (place.Rest kinds.Raw 0) (place.Rest kinds.Raw 0) bs
over [] whole k = (refl, refl)
over (b ∷ bs) whole k = ended (place.Rest kinds.Raw 0) b bs k (by (goes_on b) whole)
  where
    by : (g : Bool) → g ≡ false → (let o : Option Place = if g then Some (place.Rest kinds.Raw 0) else None in o) ≡ None
    by true e = cc
    by false e = refl

some_place : (p q : Place) → p ≡ q → (let o : Option Place = Some p in o) ≡ Some q
some_place p q e = ap (λ (p : Place). (let o : Option Place = Some p in o)) e

-- one backtick more
tick_place : (n r : ℕ) (k : Behind) (bs : List ℕ) (v : Bool) → (r + 1 == n) ≡ v
    → stay_inside (at (place.RawText n r) k) (take 10 (96 ∷ bs)) ≡ Some (if v then place.Rest kinds.Raw 0 else place.RawText n (r + 1))
tick_place n r k bs v e = some_place _ _ (ap (λ (v : Bool). if v then place.Rest kinds.Raw 0 else place.RawText n (r + 1)) e)

tick_last : (n r : ℕ) (bs : List ℕ) → (r + 1 == n) ≡ true → begins goes_on bs ≡ false → Found n r (96 ∷ bs)
tick_last n r bs e whole =
    let same : suc r ≡ n = grind (arith, nat_tests) in
    let some : 0 < n = omega arith in
    let none : body_len n (ticks r ++ 96 ∷ bs) ≡ 0 = ap (body_len n) (shift r bs ∙ ap (λ m. ticks m ++ bs) same) ∙ at_once n bs some in
    inl (
      1,
      omega (arith, none),
      omega (arith, none, length_ticks r (96 ∷ bs)),
      λ k.
          step (place.RawText n r) (place.Rest kinds.Raw 0) (place.Rest kinds.Raw 0) 0 96 bs k (tick_place n r k bs true e) refl (over bs whole),
    )

tick_more : (n r : ℕ) (bs : List ℕ) → (r + 1 == n) ≡ false → Found n (suc r) bs → Found n r (96 ∷ bs)
tick_more n r bs e (inl c) =
    let one : suc r ≡ r + 1 = omega arith in
    let same : body_len n (ticks r ++ 96 ∷ bs) ≡ body_len n (ticks (suc r) ++ bs) = ap (body_len n) (shift r bs) in
    let long : length (ticks r ++ 96 ∷ bs) ≡ length (ticks (suc r) ++ bs) = ap length (shift r bs) in
    inl (
      suc c.0,
      omega (arith, c.1, same),
      omega (arith, c.2, same, long),
      λ k.
          step (place.RawText n r) (place.RawText n (r + 1)) (place.Rest kinds.Raw 0) c.0 96 bs k (tick_place n r k bs false e) refl
          (subst (λ (m : ℕ). EachRun c.0 (place.Rest kinds.Raw 0) (place.RawText n m) bs) one c.3),
    )
tick_more n r bs e (inr o) =
    let one : suc r ≡ r + 1 = omega arith in
    inr (
      o.0,
      ap (body_len n) (shift r bs) ∙ o.1 ∙ ap length (sym (shift r bs)),
      λ k.
          step (place.RawText n r) (place.RawText n (r + 1)) (place.RawText n o.0) (length bs) 96 bs k (tick_place n r k bs false e) refl
          (subst (λ (m : ℕ). EachRun (length bs) (place.RawText n o.0) (place.RawText n m) bs) one o.2),
    )

less_or_last : (n r : ℕ) → r < n → (r + 1 == n) ≡ false → suc r < n
less_or_last n r less e = grind (arith, nat_tests)

-- another byte
other_by : (n r : ℕ) (g v : Bool) → v ≡ false → (r ≡ 0) ⊎ (g ≡ false)
    → (if g then Some (place.RawText n r) else Some (if v then (if r + 1 == n then place.Rest kinds.Raw 0 else place.RawText n (r + 1)) else place.RawText n 0)) ≡ Some (place.RawText n 0)
other_by n r g true e h = cc
other_by n r false false e h = refl
other_by n r true false e (inl zero_r) = some_place _ _ (ap (place.RawText n) zero_r)
other_by n r true false e (inr whole) = cc

tick_test : (b : ℕ) (w : List ℕ) → eqb 96 b ≡ false → begins_with (codes "`") (b ∷ w) ≡ false
tick_test b w e = ap (λ (v : Bool). v && true) e

other_more : (n r b : ℕ) (bs : List ℕ) → r < n → eqb 96 b ≡ false → (r ≡ 0) ⊎ (goes_on b ≡ false) → Found n 0 bs → Found n r (b ∷ bs)
other_more n r b bs less e h (inl c) =
    let long = length_ticks r (b ∷ bs) in
    let here = past n r b bs less e in
    inl (
      suc c.0,
      omega (arith, c.1, here),
      omega (arith, c.2, here, long),
      λ k.
          step (place.RawText n r) (place.RawText n 0) (place.Rest kinds.Raw 0) c.0 b bs k
          (other_by n r (goes_on b) (begins_with (codes "`") (take 10 (b ∷ bs))) (tick_test b (take 9 bs) e) h) refl c.3,
    )
other_more n r b bs less e h (inr o) =
    inr (
      o.0,
      omega (arith, o.1, past n r b bs less e, length_ticks r (b ∷ bs)),
      λ k.
          step (place.RawText n r) (place.RawText n 0) (place.RawText n o.0) (length bs) b bs k
          (other_by n r (goes_on b) (begins_with (codes "`") (take 10 (b ∷ bs))) (tick_test b (take 9 bs) e) h) refl o.2,
    )

found_by : (n r b : ℕ) (bs : List ℕ) (v : Bool) → eqb 96 b ≡ v → r < n → AreWhole (b ∷ bs) → (r ≡ 0) ⊎ (goes_on b ≡ false)
    → ((m : ℕ) → m < n → (m ≡ 0) ⊎ (begins goes_on bs ≡ false) → Found n m bs) → Found n r (b ∷ bs)
found_by n r b bs false e less whole h found = other_more n r b bs less e h (found 0 (omega arith) (inl refl))
found_by n r b bs true e less whole h found =
    let is : 96 ≡ b = eqb-true 96 b e in
    let next : begins goes_on bs ≡ false = whole.0 (sym is) in
    subst (λ (x : ℕ). Found n r (x ∷ bs)) is (by (r + 1 == n) refl next)
  where
    by : (v : Bool) → (r + 1 == n) ≡ v → begins goes_on bs ≡ false → Found n r (96 ∷ bs)
    by true e next = tick_last n r bs e next
    by false e next = tick_more n r bs e (found (suc r) (less_or_last n r less e) (inr next))

found_in : (t : List ℕ) (n r : ℕ) → r < n → AreWhole t → (r ≡ 0) ⊎ (begins goes_on t ≡ false) → Found n r t
found_in [] n r less whole h = inr (r, past_end n r less, λ k. (refl, refl))
found_in (b ∷ bs) n r less whole h = found_by n r b bs (eqb 96 b) refl less whole h (λ m low g. found_in bs n m low whole.1 g)

-- all backticks that open
abbrev up : ℕ → ℕ → ℕ
up zero m = m
up (suc j) m = up j (m + 1)

abbrev more : ℕ → ℕ → ℕ
more zero n = n
more (suc j) n = suc (more j n)

up_is : (j m : ℕ) → up j m ≡ m + j
up_is zero m = omega arith
up_is (suc j) m = omega (arith, up_is j (m + 1))

more_is : (j n : ℕ) → more j n ≡ j + n
more_is zero n = omega arith
more_is (suc j) n = omega (arith, more_is j n)

opening : (j m n : ℕ) (rest : List ℕ) (end : Place) → may_end end ≡ true → EachRun n end (place.RawOpening (up j m)) rest
    → EachRun (more j n) end (place.RawOpening m) (ticks j ++ rest)
opening zero m n rest end may each = each
opening (suc j) m n rest end may each = λ k.
    step (place.RawOpening m) (place.RawOpening (m + 1)) end (more j n) 96 (ticks j ++ rest) k refl may (opening j (m + 1) n rest end may each)

raw_enters : (how : Mode) (k : Behind) (w : List ℕ) → has_raw how ≡ true → enter how k (96 ∷ w) ≡ place.RawOpening 1
raw_enters modes.Markup k w has =
    markup_by _ _ _ _ _ (tick_begins is_newline w) (tick_begins is_blank w) (and_false (is_start k) (begins_with (codes "#!") (96 ∷ w)) refl)
raw_enters modes.Math k w has = cc
raw_enters modes.Argument k w has = cc
raw_enters modes.Code k w has = if_false _ _ _ (tick_begins is_whitespace w)
raw_enters modes.Operator k w has = cc

-- no byte that continues a character comes directly after an ASCII one
below : (x : ℕ) → x < 128 → goes_on x ≡ false
below x low = grind (arith, nat_tests)

above : (x : ℕ) → 192 ≤ x → goes_on x ≡ false
above x high = grind (arith, nat_tests)

no_middle : (x : ℕ) → (128 ≤ x → 192 ≤ x) → goes_on x ≡ false
no_middle x h = elim (cases_lt x 128) as (λ _. goes_on x ≡ false) [ inl low ↦ below x low | inr ge ↦ above x (h ge) ]

abbrev NextBegins : List ℕ → Type 0
NextBegins bs = (i : ℕ) → i < length bs → get_or bs i 0 ≡ 96 → suc i < length bs → goes_on (get_or bs (suc i) 0) ≡ false

whole_from : (bs : List ℕ) → NextBegins bs → AreWhole bs
whole_from [] each = tt
whole_from (a ∷ []) each = (λ e. refl, tt)
whole_from (a ∷ b ∷ bs) each = (λ e. each 0 (omega arith) e (omega arith), whole_from (b ∷ bs) (λ i l e m. each (suc i) (omega arith) e (omega arith)))

utf8_whole : (bs : List ℕ) → IsUtf8 bs → AreWhole bs
utf8_whole bs u = whole_from bs next
  where
    next : NextBegins bs
    next i l e m =
        let one : i + 1 ≡ suc i = omega arith in
        no_middle (get_or bs (suc i) 0)
        (subst (λ j. 128 ≤ get_or bs j 0 → 192 ≤ get_or bs j 0) one (lead_after_ascii bs i u (omega arith) (omega arith)))

rest_whole : (j : ℕ) (rest : List ℕ) → AreWhole (96 ∷ ticks j ++ rest) → (begins goes_on rest ≡ false) × AreWhole rest
rest_whole zero rest w = (w.0 refl, w.1)
rest_whole (suc j) rest w = rest_whole j rest w.1

raw_at : (how : Mode) (k : Behind) (j n : ℕ) (rest : List ℕ) (end : Place) → has_raw how ≡ true → may_end end ≡ true
    → EachRun n end (place.RawOpening (suc j)) rest
    → ((first how k (ticks (suc j) ++ rest)).kind ≡ kind_of end (take (first how k (ticks (suc j) ++ rest)).len (ticks (suc j) ++ rest)))
    × ((first how k (ticks (suc j) ++ rest)).len ≡ suc j + n)
raw_at how k j n rest end has may each =
    let bs : List ℕ = ticks j ++ rest in
    let same : suc j ≡ up j 1 = omega (arith, up_is j 1) in
    let run = opening j 1 n rest end may (subst (λ m. EachRun n end (place.RawOpening m) rest) same each) in
    let inside = raw_enters how k (take 9 bs) has in
    let len = first_len how k 96 bs (place.RawOpening 1) end (more j n) inside run in
    (first_kind how k 96 bs (place.RawOpening 1) end (more j n) inside run, omega (arith, len, more_is j n))

-- two backticks alone
two_by : (g v : Bool) → g ≡ false → v ≡ false
    → (if g then Some (place.RawOpening 2) else (if v then Some (place.RawOpening 3) else None)) ≡ None
two_by true v e f = cc
two_by false true e f = cc
two_by false false e f = refl

two_end : (rest : List ℕ) → begins goes_on rest ≡ false → begins_with (codes "`") rest ≡ false → EachRun 0 (place.RawOpening 2) (place.RawOpening 2) rest
two_end [] whole other k = (refl, refl)
two_end (b ∷ bs) whole other k = ended (place.RawOpening 2) b bs k (two_by (goes_on b) (begins_with (codes "`") (take 10 (b ∷ bs))) whole other)

pub two_are_raw : (how : Mode) (k : Behind) (rest : List ℕ) → has_raw how ≡ true → IsUtf8 (ticks 2 ++ rest) → begins_with (codes "`") rest ≡ false
    → ((first how k (ticks 2 ++ rest)).kind ≡ kinds.Raw) × ((first how k (ticks 2 ++ rest)).len ≡ 2)
two_are_raw how k rest has utf other =
    let whole = rest_whole 1 rest (utf8_whole (ticks 2 ++ rest) utf) in
    raw_at how k 1 0 rest (place.RawOpening 2) has refl (two_end rest whole.0 other)

-- after any other number of backticks
text_by : (n : ℕ) (g v w : Bool) → g ≡ false → v ≡ false → w ≡ false
    → (if g then Some (place.RawOpening n) else (if v then Some (place.RawOpening (n + 1)) else (if w then None else Some (place.RawText n 0)))) ≡ Some (place.RawText n 0)
text_by n true v w e f g = cc
text_by n false true w e f g = cc
text_by n false false true e f g = cc
text_by n false false false e f g = refl

is_less : (a b : ℕ) → a < b → nat_lt a b ≡ true
is_less a b h = grind (arith, nat_tests)

not_less : (a b : ℕ) → a ≡ b → nat_lt a b ≡ false
not_less a b h = grind (arith, nat_tests)

pub raw_ends : (how : Mode) (k : Behind) (n : ℕ) (rest : List ℕ) → has_raw how ≡ true → IsUtf8 (ticks n ++ rest) → 0 < n → (n == 2) ≡ false
    → begins_with (codes "`") rest ≡ false
    → ((first how k (ticks n ++ rest)).kind ≡ raw_kind n rest) × ((first how k (ticks n ++ rest)).len ≡ raw_len n rest)
raw_ends how k zero rest has utf some two other = absurd (omega arith)
raw_ends how k (suc j) [] has utf some two other =
    let found = raw_at how k j 0 [] (place.RawOpening (suc j)) has refl (λ h. (refl, refl)) in
    (found.0 ∙ ap (λ (v : Bool). if v then kinds.Raw else kinds.UnclosedRaw) two, found.1)
raw_ends how k (suc j) (b ∷ bs) has utf some two other =
    let n : ℕ = suc j in
    let whole = rest_whole j (b ∷ bs) (utf8_whole (ticks n ++ b ∷ bs) utf) in
    by whole.0 (found_in bs n 0 some whole.1.1 (inl refl))
  where
    test : (u : Bool) → (u && true) ≡ false → u ≡ false
    test true e = cc
    test false e = refl

    here : body_len (suc j) (b ∷ bs) ≡ suc (body_len (suc j) bs)
    here = omega (arith, past (suc j) 0 b bs some (test (eqb 96 b) other))

    by : goes_on b ≡ false → Found (suc j) 0 bs
        → ((first how k (ticks (suc j) ++ b ∷ bs)).kind ≡ raw_kind (suc j) (b ∷ bs)) × ((first how k (ticks (suc j) ++ b ∷ bs)).len ≡ raw_len (suc j) (b ∷ bs))
    by g (inl c) =
        let n : ℕ = suc j in
        let closes : has_ticks n (b ∷ bs) ≡ true = is_less (body_len n (b ∷ bs)) (length (b ∷ bs)) (omega (arith, here, c.2)) in
        let found = raw_at how k j (suc c.0) (b ∷ bs) (place.Rest kinds.Raw 0) has refl (λ h.
        step (place.RawOpening n) (place.RawText n 0) (place.Rest kinds.Raw 0) c.0 b bs h
        (text_by n (goes_on b) (begins_with (codes "`") (take 10 (b ∷ bs))) (n == 2) g other two) refl c.3) in
        let len : (first how k (ticks n ++ b ∷ bs)).len ≡ n + body_len n (b ∷ bs) + n = omega (arith, found.1, c.1, here) in (
          found.0 ∙ ap (λ (v : Bool). if v then kinds.Raw else kinds.UnclosedRaw) (sym closes),
          len ∙ ap (λ (v : Bool). if v then n + body_len n (b ∷ bs) + n else n + length (b ∷ bs)) (sym closes),
        )
    by g (inr o) =
        let n : ℕ = suc j in
        let opens : has_ticks n (b ∷ bs) ≡ false = not_less (body_len n (b ∷ bs)) (length (b ∷ bs)) (here ∙ ap suc o.1) in
        let found = raw_at how k j (suc (length bs)) (b ∷ bs) (place.RawText n o.0) has refl (λ h.
        step (place.RawOpening n) (place.RawText n 0) (place.RawText n o.0) (length bs) b bs h
        (text_by n (goes_on b) (begins_with (codes "`") (take 10 (b ∷ bs))) (n == 2) g other two) refl o.2) in (
          found.0 ∙ ap (λ (v : Bool). if v then kinds.Raw else kinds.UnclosedRaw) (sym opens),
          found.1 ∙ ap (λ (v : Bool). if v then n + body_len n (b ∷ bs) + n else n + length (b ∷ bs)) (sym opens),
        )
