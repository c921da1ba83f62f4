-- Runs over bytes that a token goes on over without a change.
use Rattle.std.proofs.Common.{◌≡◌, ℕ, zero, suc, get_or, ◌∷◌, ◌+◌, ◌-◌, ◌<◌, ◌≤◌, Bool, true, false, List, [], length, take, drop, refl, sym, ap, ◌∙◌, arith}
use Rattle.std.specs.Prelude.{◌&&◌, ◌==◌, Some, None, if◌then◌else◌}
use Rattle.std.specs.List.{take_while}
use Rattle.std.proofs.lemmas.List.{drop-drop, drop_more}
use Rattle.std.proofs.lemmas.List.Folds.{length-prefix_len}
use Rattle.std.proofs.lemmas.List.Sums.{prefix_len-le-length, prefix_len_passes}
use Rattle.typst_lexer.specs.declared.head.Run.{Run}
use Rattle.typst_lexer.specs.declared.place.Behind.{Behind}
use Rattle.typst_lexer.specs.declared.place.Place.{Place}
use Rattle.typst_lexer.specs.declared.place.Place.TheVariants as place
use Rattle.typst_lexer.specs.declared.place.Reading.{Reading}
use Rattle.typst_lexer.specs.Bytes.{behind_byte, easy_len, ends_at, goes_over, goes_over_text, is_commented, is_quoted, is_raw, text_len}
use Rattle.typst_lexer.specs.Characters.{begins, is_name, is_white}
use Rattle.typst_lexer.specs.Machine.{accepts, may_end, stay}
use Rattle.typst_lexer.specs.Runs.{run, grown, leapt}
use Rattle.typst_lexer.proofs.Easy.{ends_stays, over_ends, over_stays, over_window}
use Rattle.typst_lexer.proofs.Runs.{Ends, joined_run, run_goes_on}
use Rattle.typst_lexer.proofs.WhiteRuns.{at}

-- each byte that is counted passes the test
passes : (f : ℕ → Bool) (bytes : List ℕ) (j : ℕ) → j < length (take_while f bytes) → begins f (drop j bytes) ≡ true
passes f bytes j h =
    let inside : j < length bytes = omega (arith, h, length-prefix_len f bytes, prefix_len-le-length f bytes) in
    ap (begins f) (drop_more bytes j 0 inside) ∙ prefix_len_passes f bytes j 0 (omega (arith, h, length-prefix_len f bytes))

text_at : (bytes : List ℕ) (j : ℕ) → j < text_len bytes → goes_over_text (drop j bytes) ≡ true
text_at [] j h = absurd (omega (arith, h))
text_at (b ∷ bs) j h = by_test (goes_over_text (b ∷ bs)) refl j h (λ i. text_at bs i)
  where
    by_test : (v : Bool) → goes_over_text (b ∷ bs) ≡ v → (j : ℕ) → j < (if v then suc (text_len bs) else 0)
        → ((i : ℕ) → i < text_len bs → goes_over_text (drop i bs) ≡ true) → goes_over_text (drop j (b ∷ bs)) ≡ true
    by_test true e zero h ih = e
    by_test true e (suc j) h ih = ih j (omega (arith, h))
    by_test false e j h ih = absurd (omega (arith, h))

easy_at : (p : Place) (bytes : List ℕ) (j : ℕ) → j < easy_len p bytes → goes_over p (drop j bytes) ≡ true
easy_at place.Text bytes j h = text_at bytes j h
easy_at place.Blank bytes j h = passes is_white bytes j h
easy_at place.Name bytes j h = passes is_name bytes j h
easy_at place.FieldName bytes j h = passes is_name bytes j h
easy_at place.Str bytes j h = passes is_quoted bytes j h
easy_at place.LineComment bytes j h = passes is_commented bytes j h
easy_at (place.RawText n m) bytes j h = by_run (m == 0) h
  where
    by_run : (v : Bool) → j < (if v then length (take_while is_raw bytes) else 0) → (v && begins is_raw (drop j bytes)) ≡ true
    by_run true h = passes is_raw bytes j h
    by_run false h = absurd (omega (arith, h))
easy_at _ bytes j h = absurd (omega (arith, h))

-- the run with one byte more
abbrev stepped : Place → List ℕ → Run → Run
stepped p xs q = record { passed = q.passed + 1; len = q.passed + 1; last = at p (behind_byte (get_or xs q.passed 0)) }

-- what the run so far makes of the rest
abbrev made : List ℕ → Run → Reading → Run
made xs q s = joined_run stay accepts q (run stay accepts 10 s (drop q.passed xs))

one_step : (p : Place) (k : Behind) (xs : List ℕ) (q : Run) → q.passed < length xs → goes_over p (drop q.passed xs) ≡ true → Ends stay accepts q (at p k)
    → made xs (stepped p xs q) (at p (behind_byte (get_or xs q.passed 0))) ≡ made xs q (at p k)
one_step p k xs q h over ends =
    let b : ℕ = get_or xs q.passed 0 in
    let t : Reading = at p (behind_byte b) in
    let rest : List ℕ = drop (q.passed + 1) xs in
    let here : goes_over p (b ∷ rest) ≡ true = sym (ap (goes_over p) (drop_more xs q.passed 0 h)) ∙ over in
    let is : stay (at p k) (take 10 (drop q.passed xs)) ≡ Some t =
    ap (λ (l : List ℕ). stay (at p k) (take 10 l)) (drop_more xs q.passed 0 h) ∙ over_stays p k b (take 9 rest) (over_window p b rest ∙ here) in
    run_goes_on stay accepts 10 q (stepped p xs q) (at p k) t xs h is ends (sym (grown_is q t (over_ends p b rest here)))
  where
    grown_is : (q : Run) (t : Reading) → may_end t.place ≡ true → grown accepts q t ≡ (let r : Run = record { passed = q.passed + 1; len = q.passed + 1; last = t } in r)
    grown_is q t may = ap (λ (v : Bool). (let r : Run = if v then record { passed = q.passed + 1; len = q.passed + 1; last = t } else record { passed = q.passed + 1; len = q.len; last = q.last } in r)) may

-- the run with bytes more, one after the other
abbrev walked : Place → List ℕ → Run → ℕ → Run
walked p xs q zero = q
walked p xs q (suc n) = stepped p xs (walked p xs q n)

walked_passed : (p : Place) (xs : List ℕ) (q : Run) (n : ℕ) → (walked p xs q n).passed ≡ q.passed + n
walked_passed p xs q zero = omega arith
walked_passed p xs q (suc n) = omega (arith, walked_passed p xs q n)

-- all of the bytes are such that the token goes on over them
abbrev AreOver : Place → List ℕ → ℕ → ℕ → Type 0
AreOver p xs at n = (i : ℕ) → at ≤ i → i < at + n → (i < length xs) × (goes_over p (drop i xs) ≡ true)

steps : (p : Place) (k : Behind) (xs : List ℕ) (q : Run) (n : ℕ) → AreOver p xs q.passed (suc n) → Ends stay accepts q (at p k)
    → made xs (walked p xs q (suc n)) (walked p xs q (suc n)).last ≡ made xs q (at p k)
steps p k xs q zero over ends = let here = over q.passed (omega arith) (omega arith) in one_step p k xs q here.0 here.1 ends
steps p k xs q (suc n) over ends =
    let r : Run = walked p xs q (suc n) in
    let passed : r.passed ≡ q.passed + suc n = walked_passed p xs q (suc n) in
    let here = over r.passed (omega (arith, passed)) (omega (arith, passed)) in
    one_step p r.last.behind xs r here.0 here.1 (λ _. (refl, refl))
    ∙ steps p k xs q n (λ i from below. over i from (omega (arith, below))) ends

same_end : (p : Place) (xs : List ℕ) (m n : ℕ) → m ≡ n → (i j : ℕ) → i ≡ j
    → (let r : Run = record { passed = m; len = m; last = at p (behind_byte (get_or xs i 0)) } in r) ≡ (let r : Run = record { passed = n; len = n; last = at p (behind_byte (get_or xs j 0)) } in r)
same_end p xs m n e i j f = λ x. record { passed = e x; len = e x; last = at p (behind_byte (get_or xs (f x) 0)) }

walked_is : (p : Place) (xs : List ℕ) (q : Run) (n : ℕ)
    → walked p xs q (suc n) ≡ (let r : Run = record { passed = q.passed + suc n; len = q.passed + suc n; last = at p (behind_byte (get_or xs (q.passed + suc n - 1) 0)) } in r)
walked_is p xs q n =
    let passed = walked_passed p xs q n in
    same_end p xs ((walked p xs q n).passed + 1) (q.passed + suc n) (omega (arith, passed)) (walked p xs q n).passed (q.passed + suc n - 1) (omega (arith, passed))

-- the run so far, with what it makes of the rest, is the same after all bytes that the token goes over
pub leaps : (p : Place) (k : Behind) (xs : List ℕ) (q r : Run) (n : ℕ) → 0 < n → n ≤ easy_len p (drop q.passed xs) → q.passed + n ≤ length xs → Ends stay accepts q (at p k)
    → r ≡ leapt (q.passed + n) p xs
    → joined_run stay accepts r (run stay accepts 10 r.last (drop r.passed xs)) ≡ joined_run stay accepts q (run stay accepts 10 (at p k) (drop q.passed xs))
leaps p k xs q r zero some easy within ends is = absurd (omega arith)
leaps p k xs q r (suc n) some easy within ends is =
    ap (λ (r : Run). made xs r r.last) (is ∙ sym (walked_is p xs q n))
    ∙ steps p k xs q n (λ i from below. (omega (arith, below, within), over i from below)) ends
  where
    over : (i : ℕ) → q.passed ≤ i → i < q.passed + suc n → goes_over p (drop i xs) ≡ true
    over i from below =
        let there : q.passed + (i - q.passed) ≡ i = omega (arith, from) in
        ap (λ (j : ℕ). goes_over p (drop j xs)) (sym there)
        ∙ ap (goes_over p) (sym (drop-drop (i - q.passed) q.passed xs))
        ∙ easy_at p (drop q.passed xs) (i - q.passed) (omega (arith, from, below, easy))

-- the token ends here
pub stops : (p : Place) (k : Behind) (xs : List ℕ) (i : ℕ) → i < length xs → ends_at p (get_or xs i 0) ≡ true → stay (at p k) (take 10 (drop i xs)) ≡ None
stops p k xs i h is =
    ap (λ (l : List ℕ). stay (at p k) (take 10 l)) (drop_more xs i 0 h)
    ∙ ends_stays p k (get_or xs i 0) (take 9 (drop (i + 1) xs)) is
