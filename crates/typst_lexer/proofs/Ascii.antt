-- A byte of ASCII is a character by itself, and what a test says of it shows by trying all 128.
use Rattle.std.proofs.Common.{◌≡◌, ℕ, zero, suc, ◌<◌, ◌⊎◌, inl, inr, nat_lt, Bool, true, false, List, [], ◌∷◌, refl, sym, ap, ◌∙◌, arith}
use Rattle.std.specs.Prelude.{◌&&◌, ◌||◌, ◌==◌, not, codes, Option, Some, None, if◌then◌else◌}
use Rattle.std.specs.Char.{is_ascii_alphanumeric}
use Rattle.std.specs.Option.{option_map_or}
use Rattle.std.specs.Char.Unicode.Rows.{in_ranges}
use Rattle.std.specs.Char.Unicode.Alphabetic.{alphabetic_ranges, is_alphabetic}
use Rattle.std.specs.Char.Unicode.Numeric.{is_numeric, numeric_ranges}
use Rattle.std.proofs.lemmas.Bool.{cases_lt}
use Rattle.std.proofs.lemmas.Bool.Decides.{nat_tests}
use Rattle.typst_lexer.specs.declared.place.Behind.{Behind}
use Rattle.typst_lexer.specs.declared.place.Behind.TheVariants as behind
use Rattle.typst_lexer.specs.declared.place.Place.{Place}
use Rattle.typst_lexer.specs.declared.place.Reading.{Reading}
use Rattle.typst_lexer.specs.Bytes.{behind_byte, behind_first, is_undotted}
use Rattle.typst_lexer.specs.Characters.{goes_on, is_code, begins, begins_with}
use Rattle.typst_lexer.specs.Classes.{begins_char, char_of, first_char, is_alphanumeric, is_wordy}
use Rattle.typst_lexer.specs.FirstCodes.{code_of_two}
use Rattle.typst_lexer.specs.Letters as letters
use Rattle.typst_lexer.specs.Machine.{behind_char, stay, stay_at}
use Rattle.typst_lexer.proofs.FirstCodes.{first_code_is}
use Rattle.typst_lexer.proofs.WhiteRuns.{at}

abbrev pub all_below : (ℕ → Bool) → ℕ → Bool
all_below test zero = true
all_below test (suc n) = test n && all_below test n

pub both : (u v : Bool) → (u && v) ≡ true → (u ≡ true) × (v ≡ true)
both true true e = (refl, refl)
both true false e = cc
both false v e = cc

last_or_less : (c n : ℕ) → c < suc n → (c < n) ⊎ (c ≡ n)
last_or_less c n low = elim (cases_lt c n) as (λ _. (c < n) ⊎ (c ≡ n)) [ inl less ↦ inl less | inr ge ↦ inr (omega arith) ]

-- a test that all numbers below n pass
pub below_at : (test : ℕ → Bool) (n c : ℕ) → all_below test n ≡ true → c < n → test c ≡ true
below_at test zero c ok low = absurd (omega arith)
below_at test (suc n) c ok low = elim (last_or_less c n low) as (λ _. test c ≡ true) [
  | inl less ↦ below_at test n c (both (test n) (all_below test n) ok).1 less
  | inr same ↦ ap test same ∙ (both (test n) (all_below test n) ok).0
]

implied : (u v : Bool) → (not u || v) ≡ true → u ≡ true → v ≡ true
implied true v e h = e
implied false v e h = cc

abbrev same_bool : Bool → Bool → Bool
same_bool true v = v
same_bool false v = not v

same_if : (u v : Bool) → same_bool u v ≡ true → u ≡ v
same_if true true e = refl
same_if true false e = cc
same_if false true e = cc
same_if false false e = refl

pub not_true : (v : Bool) → not v ≡ true → v ≡ false
not_true true e = cc
not_true false e = refl

pub skip : {X : Type 0} (v : Bool) (x y : X) → v ≡ false → (if v then x else y) ≡ y
skip true x y e = cc
skip false x y e = refl

pub pick : {X : Type 0} (v : Bool) (x y : X) → v ≡ true → (if v then x else y) ≡ x
pick true x y e = refl
pick false x y e = cc

-- what each byte of ASCII that passes the first test also passes
pub has : (f p : ℕ → Bool) (b : ℕ) → b < 128 → f b ≡ true → all_below (λ c. not (f c) || p c) 128 ≡ true → p b ≡ true
has f p b low h ok = implied (f b) (p b) (below_at (λ c. not (f c) || p c) 128 b ok low) h

pub has_not : (f p : ℕ → Bool) (b : ℕ) → b < 128 → f b ≡ true → all_below (λ c. not (f c) || not (p c)) 128 ≡ true → p b ≡ false
has_not f p b low h ok = not_true (p b) (has f (λ c. not (p c)) b low h ok)

-- two tests that say the same of each byte of ASCII
pub same : (f g : ℕ → Bool) (b : ℕ) → b < 128 → all_below (λ c. same_bool (f c) (g c)) 128 ≡ true → f b ≡ g b
same f g b low ok = same_if (f b) (g b) (below_at (λ c. same_bool (f c) (g c)) 128 b ok low)

wordy_is : (b : ℕ) → b < 128 → is_alphanumeric b ≡ is_ascii_alphanumeric b
unfolding in_ranges alphabetic_ranges is_alphabetic numeric_ranges is_numeric
wordy_is b low = same is_alphanumeric is_ascii_alphanumeric b low refl

module _ (b : ℕ) (bs : List ℕ) (low : b < 128) where
  is_low : nat_lt b 128 ≡ true
  is_low = below_at (λ c. nat_lt c 128) 128 b refl low

  no_middle : goes_on b ≡ false
  no_middle = not_true (goes_on b) (below_at (λ c. not (goes_on c)) 128 b refl low)

  pub first_is : first_char (b ∷ bs) ≡ Some b
  first_is =
      ap (λ (o : Option ℕ). elim o as (λ _. Option ℕ) [ None ↦ None | Some c ↦ char_of c ])
      (sym (first_code_is (b ∷ bs)) ∙ pick (nat_lt b 128) (Some b) (code_of_two b bs) is_low)
      ∙ ap (λ (v : Bool). if v then Some b else None) (below_at is_code 128 b refl low)

  pub begins_is : (p : ℕ → Bool) → begins_char p (b ∷ bs) ≡ p b
  begins_is p = ap (λ (o : Option ℕ). option_map_or p o false) first_is

  pub wordy : is_wordy b ≡ is_ascii_alphanumeric b
  wordy = ap (λ (v : Bool). is_alphanumeric b && v) (or_left (nat_lt b 128) _ is_low) ∙ and_true (is_alphanumeric b) ∙ wordy_is b low
    where
      or_left : (u v : Bool) → u ≡ true → (u || v) ≡ true
      or_left true v e = refl
      or_left false v e = cc

      and_true : (u : Bool) → (u && true) ≡ u
      and_true true = refl
      and_true false = refl

  pub behind_is : (k : Behind) → (b == 46) ≡ false → behind_char k (b ∷ bs) ≡ behind_byte b
  behind_is k dot =
      skip _ _ _ (same (λ c. begins_with (codes ".") (c ∷ bs)) (λ c. c == 46) b low refl ∙ dot)
      ∙ ap (λ (v : Bool). if v then behind.At else (if begins_char is_wordy (b ∷ bs) then behind.Word else behind.Other)) (same (λ c. begins_with (codes "@") (c ∷ bs)) (λ c. c == 64) b low refl)
      ∙ ap (λ (v : Bool). if b == 64 then behind.At else (if v then behind.Word else behind.Other)) (begins_is is_wordy ∙ wordy)

  abbrev after : Option Place → Behind → Option Reading
  after o k = elim o as (λ _. Option Reading) [ None ↦ None | Some now ↦ Some (record { place = now; behind = if goes_on b then k else behind_char k (b ∷ bs) }) ]

  -- a token goes on over the byte, and is inside of this after it
  pub moves : (p q : Place) (k : Behind) → stay_at p (b ∷ bs) ≡ Some q → (b == 46) ≡ false → stay (at p k) (b ∷ bs) ≡ Some (at q (behind_byte b))
  moves p q k e dot =
      ap (λ (v : Bool). after (if v then Some p else stay_at p (b ∷ bs)) k) no_middle
      ∙ ap (λ (o : Option Place). after o k) e
      ∙ ap (λ (v : Bool). (let o : Option Reading = Some (record { place = q; behind = if v then k else behind_char k (b ∷ bs) }) in o)) no_middle
      ∙ ap (λ (h : Behind). (let o : Option Reading = Some (record { place = q; behind = h }) in o)) (behind_is k dot)

  -- a token ends before the byte
  pub ends : (p : Place) (k : Behind) → stay_at p (b ∷ bs) ≡ None → stay (at p k) (b ∷ bs) ≡ None
  ends p k e = ap (λ (v : Bool). after (if v then Some p else stay_at p (b ∷ bs)) k) no_middle ∙ ap (λ (o : Option Place). after o k) e

pub behind_is_first : (k : Behind) (w : List ℕ) → begins is_undotted w ≡ true → behind_char k w ≡ behind_first w
behind_is_first k [] h = cc
behind_is_first k (b ∷ bs) h = let is = both (nat_lt b 128) (not (b == 46)) h in behind_is b bs (low b is.0) k (not_true (b == 46) is.1)
  where
    low : (b : ℕ) → nat_lt b 128 ≡ true → b < 128
    low b e = grind (arith, nat_tests)

-- a class of characters, tried on a byte of ASCII
pub low_begins : (p : ℕ → Bool) (w : List ℕ) → begins letters.is_low w ≡ true → begins p w ≡ begins_char p w
low_begins p [] h = cc
low_begins p (b ∷ bs) h = sym (begins_is b bs (low b h) p)
  where
    low : (b : ℕ) → nat_lt b 128 ≡ true → b < 128
    low b e = grind (arith, nat_tests)
