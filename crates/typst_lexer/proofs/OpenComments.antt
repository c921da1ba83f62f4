-- A block comment that nothing closes is the rest of the text.
use Rattle.std.proofs.Common.{◌≡◌, ℕ, suc, zero, ◌+◌, ◌<◌, ◌⊎◌, inl, inr, Bool, true, false, List, [], ◌∷◌, length, take, refl, sym, ap, subst, ◌∙◌, arith}
use Rattle.std.specs.Prelude.{◌&&◌, ◌||◌, eqb, codes}
use Rattle.std.proofs.lemmas.Bool.{eqb-true}
use Rattle.typst_lexer.specs.declared.mode.Mode.{Mode}
use Rattle.typst_lexer.specs.declared.place.Behind.{Behind}
use Rattle.typst_lexer.specs.declared.place.Place.TheVariants as place
use Rattle.typst_lexer.specs.declared.token.TokenKind.TheVariants as kinds
use Rattle.typst_lexer.specs.Characters.{begins_with}
use Rattle.typst_lexer.specs.FirstToken.{first}
use Rattle.typst_lexer.specs.Nested.{IsClosedBefore, IsNested, begins_mark, byte, comment, nothing, written}
use Rattle.typst_lexer.proofs.BlockComments.{after_mark, byte_stays, closes, opens}
use Rattle.typst_lexer.proofs.Steps.{EachRun, block_enters, first_kind, first_len, step}

-- a text closes the comment in which it begins, and n comments around that
abbrev Closes : ℕ → List ℕ → Type 0
Closes zero t = (after : List ℕ) × IsClosedBefore after t
Closes (suc n) t = (after : List ℕ) × IsClosedBefore after t × Closes n after

-- the machine goes over all of a text in n comments and one more
abbrev Open : ℕ → List ℕ → Type 0
Open n t = (depth : ℕ) × EachRun (length t) (place.BlockComment depth) (place.BlockComment (suc n)) t

abbrev Found : ℕ → List ℕ → Type 0
Found n t = Closes n t ⊎ Open n t

closed_byte : (a : ℕ) (bs after : List ℕ) → begins_mark (a ∷ bs) ≡ false → IsClosedBefore after bs → IsClosedBefore after (a ∷ bs)
closed_byte a bs after plain c = (byte a c.0, (subst (λ (r : List ℕ). begins_mark (a ∷ r) ≡ false) c.2 plain, c.1), ap (λ r. a ∷ r) c.2)

closed_comment : (bs mid after : List ℕ) → IsClosedBefore mid bs → IsClosedBefore after mid → IsClosedBefore after (47 ∷ 42 ∷ bs)
closed_comment bs mid after c d = (
  comment c.0 d.0,
  (subst (λ (m : List ℕ). IsNested c.0 (42 ∷ 47 ∷ m)) d.2 c.1, d.1),
  ap (λ r. 47 ∷ 42 ∷ r) (c.2 ∙ ap (λ m. written c.0 (42 ∷ 47 ∷ m)) d.2),
)

byte_before : (n a : ℕ) (bs : List ℕ) → begins_mark (a ∷ bs) ≡ false → Closes n bs → Closes n (a ∷ bs)
byte_before zero a bs plain c = (c.0, closed_byte a bs c.0 plain c.1)
byte_before (suc n) a bs plain c = (c.0, closed_byte a bs c.0 plain c.1, c.2)

comment_before : (n : ℕ) (bs mid : List ℕ) → IsClosedBefore mid bs → Closes n mid → Closes n (47 ∷ 42 ∷ bs)
comment_before zero bs mid c d = (d.0, closed_comment bs mid d.0 c d.1)
comment_before (suc n) bs mid c d = (d.0, closed_comment bs mid d.0 c d.1, d.2)

found_byte : (n a : ℕ) (bs : List ℕ) → begins_mark (a ∷ bs) ≡ false → Found n bs → Found n (a ∷ bs)
found_byte n a bs plain (inl c) = inl (byte_before n a bs plain c)
found_byte n a bs plain (inr o) = inr (
  o.0,
  λ k.
      step (place.BlockComment (suc n)) (place.BlockComment (suc n)) (place.BlockComment o.0) (length bs) a bs k (byte_stays (suc n) a bs k plain) refl o.1,
)

one_more : (n : ℕ) → suc n ≡ n + 1
one_more n = omega arith

found_open : (n : ℕ) (bs : List ℕ) → Found (suc n) bs → Found n (47 ∷ 42 ∷ bs)
found_open n bs (inl c) = inl (comment_before n bs c.0 c.1 c.2)
found_open n bs (inr o) = inr (
  o.0,
  opens (suc n) (length bs) (place.BlockComment o.0) bs refl
      (subst (λ (m : ℕ). EachRun (length bs) (place.BlockComment o.0) (place.BlockComment m) bs) (one_more (suc n)) o.1),
)

found_close : (n : ℕ) (bs : List ℕ) → ((m : ℕ) → Found m bs) → Found n (42 ∷ 47 ∷ bs)
found_close zero bs found = inl (bs, (nothing, tt, refl))
found_close (suc n) bs found = by (found n)
  where
    by : Found n bs → Found (suc n) (42 ∷ 47 ∷ bs)
    by (inl c) = inl (bs, (nothing, tt, refl), c)
    by (inr o) =
        let deep : 0 < suc n = omega arith in
        inr (
          o.0,
          subst (λ (m : ℕ). EachRun (suc (suc (length bs))) (place.BlockComment o.0) (place.BlockComment m) (42 ∷ 47 ∷ bs)) (sym (one_more (suc n)))
              (closes (suc n) (length bs) (place.BlockComment o.0) bs deep refl o.1),
        )

both : (u v : Bool) → (u && v) ≡ true → (u ≡ true) × (v ≡ true)
both true v e = (refl, e)
both false v e = cc

-- o: the two bytes open a comment; c: they close one
found_by : (n a b : ℕ) (bs : List ℕ) (o c : Bool) → begins_with (codes "/*") (a ∷ b ∷ bs) ≡ o → begins_with (codes "*/") (a ∷ b ∷ bs) ≡ c
    → ((m : ℕ) → Found m bs) → Found n (b ∷ bs) → Found n (a ∷ b ∷ bs)
found_by n a b bs true c e f found next =
    let parts = both (eqb 47 a) (eqb 42 b && true) e in
    subst (λ (x : ℕ). Found n (x ∷ b ∷ bs)) (eqb-true 47 a parts.0)
    (subst (λ (y : ℕ). Found n (47 ∷ y ∷ bs)) (eqb-true 42 b (both (eqb 42 b) true parts.1).0) (found_open n bs (found (suc n))))
found_by n a b bs false true e f found next =
    let parts = both (eqb 42 a) (eqb 47 b && true) f in
    subst (λ (x : ℕ). Found n (x ∷ b ∷ bs)) (eqb-true 42 a parts.0)
    (subst (λ (y : ℕ). Found n (42 ∷ y ∷ bs)) (eqb-true 47 b (both (eqb 47 b) true parts.1).0) (found_close n bs found))
found_by n a b bs false false e f found next =
    found_byte n a (b ∷ bs) (ap (λ (v : Bool). v || begins_with (codes "*/") (a ∷ b ∷ bs)) e ∙ f) next

and_none : (u : Bool) → (u && false) ≡ false
and_none true = refl
and_none false = refl

no_mark : (u v : Bool) → u ≡ false → v ≡ false → (u || v) ≡ false
no_mark true v e f = cc
no_mark false v e f = f

lone : (a : ℕ) → begins_mark (a ∷ []) ≡ false
lone a = no_mark (begins_with (codes "/*") (a ∷ [])) (begins_with (codes "*/") (a ∷ [])) (and_none (eqb 47 a)) (and_none (eqb 42 a))

found_in : (t : List ℕ) (n : ℕ) → Found n t
found_in [] n = inr (suc n, λ k. (refl, refl))
found_in (a ∷ []) n = found_byte n a [] (lone a) (found_in [] n)
found_in (a ∷ b ∷ bs) n =
    found_by n a b bs (begins_with (codes "/*") (a ∷ b ∷ bs)) (begins_with (codes "*/") (a ∷ b ∷ bs)) refl refl (λ m. found_in bs m) (found_in (b ∷ bs) n)

pub comment_open : (how : Mode) (k : Behind) (rest : List ℕ) → ((after : List ℕ) → IsClosedBefore after rest → ⊥)
    → ((first how k (47 ∷ 42 ∷ rest)).kind ≡ kinds.BlockComment) × ((first how k (47 ∷ 42 ∷ rest)).len ≡ 2 + length rest)
comment_open how k rest never = by (found_in rest 0)
  where
    by : Found 0 rest → ((first how k (47 ∷ 42 ∷ rest)).kind ≡ kinds.BlockComment) × ((first how k (47 ∷ 42 ∷ rest)).len ≡ 2 + length rest)
    by (inl c) = absurd (never c.0 c.1)
    by (inr o) =
        let inside = block_enters how k (take 8 rest) in
        let deep : 0 < 1 = omega arith in
        let each = after_mark 1 42 (length rest) (place.BlockComment o.0) rest deep refl refl o.1 in
        let len = first_len how k 47 (42 ∷ rest) (place.CommentMark 1) (place.BlockComment o.0) (suc (length rest)) inside each in (
          first_kind how k 47 (42 ∷ rest) (place.CommentMark 1) (place.BlockComment o.0) (suc (length rest)) inside each,
          omega (arith, len),
        )
