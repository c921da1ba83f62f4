-- What searches find in a list, by the classes of its elements.
use Rattle.std.proofs.Common.{◌≡◌, ℕ, ◌+◌, ◌-◌, Bool, true, false, cond, List, [], ◌∷◌, Option, Some, None, drop, take, filter, reverse, length, refl, sym, ap, ◌∙◌, arith}
use Rattle.std.proofs.lemmas.Grind.{common_steps, reverse_onto}
use Rattle.std.proofs.lemmas.List.Folds.{find-append}
use Rattle.std.specs.List.{find, last_or, position, position_or_len}
use Rattle.std.specs.Option.{option_or}
use Rattle.typst_node.specs.Children.{behind_first, first_of, last_of}
use Rattle.typst_node.specs.Tree.{Tree}
use Rattle.typst_node.specs.Views.{Class, node_kind}

pub find_is_first : {X : Type 0} (p : X → Bool) (xs : List X) → find p xs ≡ first_of (filter p xs)
find_is_first p [] = refl
find_is_first p (x ∷ xs) =
    elim (p x) as (λ v. cond v (Some x) (find p xs) ≡ first_of (cond v (x ∷ filter p xs) (filter p xs))) [
      | true ↦ refl
      | false ↦ find_is_first p xs
    ]

some_or : {X : Type 0} (r : Option X) (x : X) (o : Option X) → option_or r (Some x) ≡ option_or (option_or r (Some x)) o
some_or None x o = refl
some_or (Some y) x o = refl

last_or_option : {X : Type 0} (o : Option X) (xs : List X) → last_or o xs ≡ option_or (last_of xs) o
last_or_option None [] = refl
last_or_option (Some y) [] = refl
last_or_option o (x ∷ xs) =
    last_or_option (Some x) xs ∙ some_or (last_of xs) x o ∙ ap (λ r. option_or r o) (sym (last_or_option (Some x) xs))

-- the first from the back is the last
pub find_back_is_last : {X : Type 0} (p : X → Bool) (xs : List X) → find p (reverse xs) ≡ last_of (filter p xs)
find_back_is_last p [] = refl
find_back_is_last p (x ∷ xs) =
    let h = find_back_is_last p xs in
    let onto = reverse_onto xs x [] in
    let joined = find-append p (reverse xs) (x ∷ []) in
    let after = last_or_option (Some x) (filter p xs) in
    grind (arith, common_steps, h, onto, joined, after)

-- the nodes behind the first of a class, by its place
behind_is_drop : (c : Class) (ts : List Tree) → behind_first c ts ≡ drop (position_or_len (λ t. c (node_kind t)) ts + 1) ts
behind_is_drop c [] = grind (arith, common_steps)
behind_is_drop c (t ∷ ts) = let h = behind_is_drop c ts in grind (arith, common_steps, h)

pub behind_position : (c : Class) (ts : List Tree) (i : ℕ) → position (λ t. c (node_kind t)) ts ≡ Some i → take (length ts - (i + 1)) (drop (i + 1) ts) ≡ behind_first c ts
behind_position c ts i e = let h = behind_is_drop c ts in grind (arith, common_steps, h, e)

pub behind_none : (c : Class) (ts : List Tree) → position (λ t. c (node_kind t)) ts ≡ None → [] ≡ behind_first c ts
behind_none c ts e = let h = behind_is_drop c ts in grind (arith, common_steps, h, e)
