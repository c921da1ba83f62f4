-- Lists in a row, and where each begins.
use Rattle.std.proofs.Common.{◌≡◌, ℕ, zero, suc, ◌+◌, ◌-◌, ◌<◌, List, [], ◌∷◌, ◌++◌, length, get_or, take, drop, refl, ap, sym, ◌∙◌, arith, length-append}
use Rattle.std.specs.List.{concat, slice_range}
use Rattle.std.proofs.lemmas.List.{take_at, drop_at, drop-drop, append-nil}

-- where each list of a row begins, if the first one begins here
abbrev pub offsets : ℕ → List (List ℕ) → List ℕ
offsets at [] = []
offsets at (l ∷ ls) = at ∷ offsets (at + length l) ls

pub length-offsets : (at : ℕ) (ls : List (List ℕ)) → length (offsets at ls) ≡ length ls
length-offsets at [] = refl
length-offsets at (l ∷ ls) = ap suc (length-offsets (at + length l) ls)

-- it begins after those before it
pub get_or-offsets : (at : ℕ) (ls : List (List ℕ)) (k : ℕ) → k < length ls → get_or (offsets at ls) k 0 ≡ at + length (concat (take k ls))
get_or-offsets at [] k less = absurd (omega arith)
get_or-offsets at (l ∷ ls) zero less = omega arith
get_or-offsets at (l ∷ ls) (suc k) less =
    let within : k < length ls = omega arith in
    omega (arith, get_or-offsets (at + length l) ls k within, length-append l (concat (take k ls)))

-- and is the part from there up to the next one
pub piece : (ls : List (List ℕ)) (k : ℕ) → k < length ls → slice_range (concat ls) (length (concat (take k ls))) (length (concat (take (suc k) ls))) ≡ get_or ls k []
piece [] k less = absurd (omega arith)
piece (l ∷ ls) zero less =
    let e : length (l ++ []) ≡ length l = ap (λ x. length x) (append-nil l) in
    let n : length (l ++ []) - 0 ≡ length l = omega arith in
    ap (λ m. take m (l ++ concat ls)) n ∙ take_at l (concat ls) (length l) refl
piece (l ∷ ls) (suc k) less =
    let within : k < length ls = omega arith in
    let x = concat (take k ls) in
    let y = concat (take (suc k) ls) in
    let ex = length-append l (concat (take k ls)) in
    let ey = length-append l (concat (take (suc k) ls)) in
    let n : length (l ++ concat (take (suc k) ls)) - length (l ++ concat (take k ls)) ≡ length (concat (take (suc k) ls)) - length (concat (take k ls)) = omega arith in
    ap (λ m. take m (drop (length (l ++ concat (take k ls))) (l ++ concat ls))) n
    ∙ ap (λ m. take (length y - length x) (drop m (l ++ concat ls))) ex
    ∙ ap (λ z. take (length y - length x) z) (sym (drop-drop (length x) (length l) (l ++ concat ls)) ∙ ap (drop (length x)) (drop_at l (concat ls) (length l) refl))
    ∙ piece ls k within
