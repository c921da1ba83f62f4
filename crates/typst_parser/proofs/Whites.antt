-- A blank or a line feed that is all white space before a token.
use Rattle.std.proofs.Common.{◌≡◌, ℕ, zero, suc, ◌+◌, ◌<◌, Bool, true, false, List, [], ◌∷◌, length, take, drop, refl, sym, ap, ◌∙◌, arith}
use Rattle.std.proofs.lemmas.List.{drop-drop}
use Rattle.std.specs.Prelude.{◌||◌, Option, Some, None, if◌then◌else◌}
use Rattle.typst_lexer.specs.FirstToken.{first}
use Rattle.typst_lexer.specs.LoneBlank.{IsLone, lone_blank}
use Rattle.typst_lexer.specs.White.{begins_white}
use Rattle.typst_lexer.specs.declared.head.FirstToken.{FirstToken}
use Rattle.typst_lexer.specs.declared.mode.Mode.{Mode}
use Rattle.typst_lexer.specs.declared.place.Behind.{Behind}
use Rattle.typst_parser.specs.Reads.{is_white_at, part, skipped, token_at, token_of, whitened, whitened_by}
use Rattle.typst_parser.specs.Stack.{Stack}

-- at the end there is none
some_left : (xs : List ℕ) (byte : ℕ) → take 1 xs ≡ byte ∷ [] → 0 < length xs
some_left [] byte e = cc
some_left (x ∷ xs) byte e = omega arith

none_left : (at : ℕ) (xs : List ℕ) → length xs ≡ 0 → length (drop at xs) ≡ 0
none_left zero xs e = e
none_left (suc n) [] e = refl
none_left (suc n) (x ∷ xs) e = absurd (omega (arith, e))

token_is : (mode : Mode) (behind : Behind) (xs : List ℕ) (byte : ℕ) → take 1 xs ≡ byte ∷ [] → token_of mode behind xs ≡ Some (first mode behind xs)
token_is m behind [] byte e = cc
token_is m behind (x ∷ xs) byte e = refl

stop : (n : ℕ) (mode : Mode) (text : List ℕ) (s : Stack) → is_white_at mode s.next.place text ≡ false → skipped n mode text s ≡ s
stop zero m text s e = refl
stop (suc n) m text s e = ap (λ (v : Bool). if v then skipped n m text (whitened text (token_at m s.next.place text) s) else s) e

pub lone_skipped : (mode : Mode) (text : List ℕ) (s : Stack) (byte : ℕ) → IsLone (drop s.next.place.at text) → take 1 (drop s.next.place.at text) ≡ byte ∷ []
    → skipped (length text) mode text s ≡ whitened_by (byte ∷ []) lone_blank s
lone_skipped mode text s byte lone is = by (length text) refl
  where
    rest : List ℕ
    rest = drop s.next.place.at text

    after : Stack
    after = whitened_by (byte ∷ []) lone_blank s

    more : (n : ℕ) → skipped (suc n) mode text s ≡ after
    more n =
        ap (λ (v : Bool). if v then skipped n mode text (whitened text (token_at mode s.next.place text) s) else s) (lone mode s.next.place.behind).0
        ∙ ap (λ (o : Option FirstToken). skipped n mode text (whitened text o s)) (token_is mode s.next.place.behind rest byte is ∙ ap Some (lone mode s.next.place.behind).1)
        ∙ ap (λ (bs : List ℕ). skipped n mode text (whitened_by bs lone_blank s)) is
        ∙ stop n mode text after (ap (begins_white mode lone_blank.behind) (sym (drop-drop 1 s.next.place.at text)) ∙ (lone mode s.next.place.behind).2)

    by : (n : ℕ) → length text ≡ n → skipped n mode text s ≡ after
    by zero e = absurd (omega (arith, some_left rest byte is, none_left s.next.place.at text e))
    by (suc n) e = more n

pub none_more : (v : Bool) → v ≡ (v || false)
none_more true = refl
none_more false = refl
