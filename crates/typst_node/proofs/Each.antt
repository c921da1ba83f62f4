-- Loops that change each item of a list in turn.
use Rattle.std.proofs.Common.{◌≡◌, ℕ, zero, suc, ◌+◌, ◌<◌, ◌≤◌, List, [], ◌∷◌, ◌++◌, length, map, take, drop, reverse, get_or, refl, sym, ap, ◌∙◌, arith, add-one}
use Rattle.std.proofs.Math.ListN.{set}
use Rattle.std.proofs.lemmas.List.{map-append, reverse-append}

-- what is seen of the items before a place, and what is to be seen of those from it on
abbrev pub each : {X Y : Type 0} → (X → Y) → (X → Y) → ℕ → List X → List Y
each seen wanted i ys = map seen (take i ys) ++ map wanted (drop i ys)

next : {X Y : Type 0} (seen wanted : X → Y) (ys : List X) (i : ℕ) (w d : X) → i < length ys → seen w ≡ wanted (get_or ys i d)
    → each seen wanted (suc i) (set ys i w) ≡ each seen wanted i ys
next seen wanted [] i w d h e = absurd (omega arith)
next seen wanted (y ∷ ys) zero w d h e = ap (λ v. v ∷ map wanted ys) e
next seen wanted (y ∷ ys) (suc i) w d h e = ap (λ vs. seen y ∷ vs) (next seen wanted ys i w d (omega arith) e)

-- one more item is changed
pub each_next : {X Y : Type 0} (seen wanted : X → Y) (ys : List X) (i : ℕ) (w d : X) → i < length ys → seen w ≡ wanted (get_or ys i d)
    → each seen wanted (i + 1) (set ys i w) ≡ each seen wanted i ys
each_next seen wanted ys i w d h e = rw add-one (next seen wanted ys i w d h e)

-- all items are changed
pub each_all : {X Y : Type 0} (seen wanted : X → Y) (ys : List X) (i : ℕ) → length ys ≤ i → each seen wanted i ys ≡ map seen ys
each_all seen wanted [] zero h = refl
each_all seen wanted [] (suc i) h = refl
each_all seen wanted (y ∷ ys) zero h = absurd (omega arith)
each_all seen wanted (y ∷ ys) (suc i) h = ap (λ vs. seen y ∷ vs) (each_all seen wanted ys i (omega arith))

pub map_same : {X : Type 0} (xs : List X) → map (λ x. x) xs ≡ xs
map_same [] = refl
map_same (x ∷ xs) = ap (λ ys. x ∷ ys) (map_same xs)

pub map_after_map : {X Y Z : Type 0} (f : Y → Z) (g : X → Y) (xs : List X) → map (λ x. f (g x)) xs ≡ map f (map g xs)
map_after_map f g [] = refl
map_after_map f g (x ∷ xs) = ap (λ ys. f (g x) ∷ ys) (map_after_map f g xs)

pub map-reverse : {X Y : Type 0} (f : X → Y) (xs : List X) → map f (reverse xs) ≡ reverse (map f xs)
map-reverse f [] = refl
map-reverse f (x ∷ xs) =
    ap (map f) (reverse-append (x ∷ []) xs) ∙ map-append f (reverse xs) (x ∷ []) ∙ ap (λ ys. ys ++ (f x ∷ [])) (map-reverse f xs) ∙ sym (reverse-append (f x ∷ []) (map f xs))
