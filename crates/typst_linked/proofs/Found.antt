-- What a search of the list of paths finds.
use Rattle.std.proofs.Common.{◌≡◌, ℕ, suc, zero, ◌<◌, ◌≤◌, ◌⊎◌, inl, inr, List, [], ◌∷◌, length, map, reverse, get_or, Bool, true, false, cond, ◌||◌, Option, None, Some, refl, sym, ◌∙◌, ap, subst, arith}
use Rattle.std.specs.List.{find, list_any, AllByRecursion}
use Rattle.std.specs.Option.{option_or}
use Rattle.std.proofs.lemmas.Simd.{map-map}
use Rattle.std.proofs.lemmas.List.{reverse-append}
use Rattle.std.proofs.lemmas.List.Folds.{find-append, list_any-from_Any}
use Rattle.typst_node.specs.Tree.{Tree}
use Rattle.typst_node.specs.Preorder.{nodes, paths, subtrees, at}
use Rattle.typst_node.specs.Labels.{number}
use Rattle.typst_node.specs.Numbered.{Rise, IsNumbered}
use Rattle.typst_node.proofs.PathsInPreorder.{at-paths, labels-subtrees, path-in-paths}
use Rattle.typst_linked.specs.Search.{is_there, has_number_up_to, first_path, floor_path}
use Rattle.typst_node.proofs.FirstThatPasses.{bool_cases}

-- ---- lists

pub find_none : {X : Type 0} (p : X → Bool) (xs : List X) → ((x : X) → p x ≡ false) → find p xs ≡ None
find_none p [] h = refl
find_none p (x ∷ xs) h = rw (h x) (find_none p xs h)

pub find_passes : {X : Type 0} (p : X → Bool) (xs : List X) (y : X) → find p xs ≡ Some y → p y ≡ true
find_passes p [] y h = absurd (let h : None ≡ Some y = h in cc)
find_passes p (x ∷ xs) y h = elim (bool_cases (p x)) [
  | inl e ↦
      let k : Some x ≡ Some y = sym (ap (λ b. cond b (Some x) (find p xs)) e) ∙ h in
      let same : x ≡ y = cc in
      sym (ap p same) ∙ e
  | inr e ↦ find_passes p xs y (sym (ap (λ b. cond b (Some x) (find p xs)) e) ∙ h)
]

-- where nothing else passes
pub find_only : {X : Type 0} (p : X → Bool) (xs : List X) (y : X) → list_any p xs ≡ true → ((x : X) → p x ≡ true → x ≡ y) → find p xs ≡ Some y
find_only p [] y h only = absurd (cc)
find_only p (x ∷ xs) y h only = elim (bool_cases (p x)) [
  | inl e ↦ rw e (ap Some (only x e))
  | inr e ↦ rw e (find_only p xs y (sym (ap (λ b. b || list_any p xs) e) ∙ h) only)
]

-- the last one of a list with one more in front
pub find_last-cons : {X : Type 0} (p : X → Bool) (x : X) (xs : List X) → find p (reverse (x ∷ xs)) ≡ option_or (find p (reverse xs)) (find p (x ∷ []))
find_last-cons p x xs = ap (find p) (reverse-append (x ∷ []) xs) ∙ find-append p (reverse xs) (x ∷ [])

find_one : {X : Type 0} (p : X → Bool) (x : X) → p x ≡ true → find p (x ∷ []) ≡ Some x
find_one p x e = rw e refl

pub option_cases : {X : Type 0} (o : Option X) → (o ≡ None) ⊎ ((x : X) × (o ≡ Some x))
option_cases None = inl refl
option_cases (Some x) = inr (x, refl)

some_or : {X : Type 0} (p : X → Bool) (x : X) (xs : List X) (y : X) → find p (reverse xs) ≡ Some y → find p (reverse (x ∷ xs)) ≡ None → ⊥
some_or p x xs y e none =
    let bad : None ≡ Some y = sym none ∙ find_last-cons p x xs ∙ ap (λ o. option_or o (find p (x ∷ []))) e in
    cc

-- the answer is that of the rest, if it has one, and else the first
rest_last : {X : Type 0} (p : X → Bool) (x : X) (xs : List X) (z y : X) → find p (reverse xs) ≡ Some z → find p (reverse (x ∷ xs)) ≡ Some y → z ≡ y
rest_last p x xs z y there last =
    let same : Some z ≡ Some y = sym (ap (λ o. option_or o (find p (x ∷ []))) there) ∙ sym (find_last-cons p x xs) ∙ last in
    cc

first_last : {X : Type 0} (p : X → Bool) (x : X) (xs : List X) (y : X) → find p (reverse xs) ≡ None → find p (reverse (x ∷ xs)) ≡ Some y → find p (x ∷ []) ≡ Some y
first_last p x xs y none last = sym (ap (λ o. option_or o (find p (x ∷ []))) none) ∙ sym (find_last-cons p x xs) ∙ last

-- the last one is there if one passes
pub last_there : {X : Type 0} (p : X → Bool) (xs : List X) (k : ℕ) (d : X) → k < length xs → get_or xs k d ≡ d → p d ≡ true → find p (reverse xs) ≡ None → ⊥
last_there p [] k d l e h none = absurd (omega arith)
last_there p (x ∷ xs) zero d l e h none =
    let e : x ≡ d = e in
    let one = find_one p x (ap p e ∙ h) in
    elim (option_cases (find p (reverse xs))) [
      | inr y ↦ absurd (some_or p x xs y.0 y.1 none)
      | inl empty ↦
          let bad : None ≡ Some x = sym none ∙ find_last-cons p x xs ∙ ap (λ o. option_or o (find p (x ∷ []))) empty ∙ one in
          absurd (cc)
    ]
last_there p (x ∷ xs) (suc k) d l e h none = elim (option_cases (find p (reverse xs))) [
  | inr y ↦ some_or p x xs y.0 y.1 none
  | inl empty ↦ last_there p xs k d (omega arith) e h empty
]

all_last : {X : Type 0} (f : X → ℕ) (n : ℕ) (p : X → Bool) (xs : List X) (y : X) → AllByRecursion (λ m. n < m) (map f xs) → find p (reverse xs) ≡ Some y → n < f y
all_last f n p [] y h e = absurd (let e : None ≡ Some y = e in cc)
all_last f n p (x ∷ xs) y h e = elim (option_cases (find p (reverse xs))) [
  | inr z ↦
      let here : f z.0 ≡ f y = ap f (rest_last p x xs z.0 y z.1 e) in
      omega (arith, all_last f n p xs z.0 h.1 z.1)
  | inl none ↦ elim (bool_cases (p x)) [
    | inl t ↦
        let same : Some x ≡ Some y = sym (find_one p x t) ∙ first_last p x xs y none e in
        let one : x ≡ y = cc in
        let here : f x ≡ f y = ap f one in
        omega (arith, h.0)
    | inr t ↦
        let bad : None ≡ Some y = sym (ap (λ b. cond b (Some x) None) t) ∙ first_last p x xs y none e in
        absurd (cc)
  ]
]

-- where numbers rise along a list, the last one that passes has the largest number of those that pass
pub rise_last : {X : Type 0} (f : X → ℕ) (p : X → Bool) (xs : List X) → Rise (map f xs) → (k : ℕ) (d : X) → k < length xs → get_or xs k d ≡ d → p d ≡ true → (y : X) → find p (reverse xs) ≡ Some y → f d ≤ f y
rise_last f p [] rise k d l e h y last = absurd (omega arith)
rise_last f p (x ∷ xs) rise zero d l e h y last =
    let e : x ≡ d = e in
    let start : f x ≡ f d = ap f e in
    elim (option_cases (find p (reverse xs))) [
      | inr z ↦
          let here : f z.0 ≡ f y = ap f (rest_last p x xs z.0 y z.1 last) in
          omega (arith, all_last f (f x) p xs z.0 rise.0 z.1)
      | inl none ↦
          let same : Some x ≡ Some y = sym (find_one p x (ap p e ∙ h)) ∙ first_last p x xs y none last in
          let one : x ≡ y = cc in
          let here : f x ≡ f y = ap f one in
          omega arith
    ]
rise_last f p (x ∷ xs) rise (suc k) d l e h y last = elim (option_cases (find p (reverse xs))) [
  | inr z ↦
      let here : f z.0 ≡ f y = ap f (rest_last p x xs z.0 y z.1 last) in
      omega (arith, rise_last f p xs rise.1 k d (omega arith) e h z.0 z.1)
  | inl none ↦ absurd (last_there p xs k d (omega arith) e h none)
]

-- ---- paths

abbrev number_there : Option Tree → ℕ
number_there None = 0
number_there (Some t) = number t.label

-- the numbers along the paths
numbers-paths : (t : Tree) → map (λ p. number_there (at p t)) (paths t) ≡ map number (nodes t)
numbers-paths t =
    sym (map-map number_there (λ p. at p t) (paths t)) ∙ ap (map number_there) (at-paths t) ∙ map-map number_there Some (subtrees t)
    ∙ sym (map-map number (λ (s : Tree). s.label) (subtrees t)) ∙ ap (map number) (labels-subtrees t)

-- a node that passes a test is there
pub is_there_value : (test : Tree → Bool) (o : Option Tree) → is_there test o ≡ true → (m : Tree) × (o ≡ Some m) × (test m ≡ true)
is_there_value test None h = absurd (cc)
is_there_value test (Some m) h = (m, refl, h)

pub any_path : (test : Tree → Bool) (t m : Tree) (q : List ℕ) → at q t ≡ Some m → test m ≡ true → list_any (λ path. is_there test (at path t)) (paths t) ≡ true
any_path test t m q e h =
    let c = path-in-paths t q m e in
    list_any-from_Any (λ path. is_there test (at path t)) (paths t) (c.0, q, c.1, c.2, ap (is_there test) e ∙ h)

there_false : (test : Tree → Bool) (o : Option Tree) → ((m : Tree) → o ≡ Some m → test m ≡ false) → is_there test o ≡ false
there_false test None h = refl
there_false test (Some m) h = h m refl

-- no node passes
pub first_path_none : (test : Tree → Bool) (t : Tree) → ((q : List ℕ) (m : Tree) → at q t ≡ Some m → test m ≡ false) → first_path test t ≡ None
first_path_none test t h = find_none (λ path. is_there test (at path t)) (paths t) (λ q. there_false test (at q t) (λ m e. h q m e))

-- one node alone passes
pub first_path_only : (test : Tree → Bool) (t m : Tree) (q : List ℕ) → at q t ≡ Some m → test m ≡ true → ((p : List ℕ) (k : Tree) → at p t ≡ Some k → test k ≡ true → p ≡ q) → first_path test t ≡ Some q
first_path_only test t m q e h only =
    find_only (λ path. is_there test (at path t)) (paths t) q (any_path test t m q e h)
    (λ p there. let k = is_there_value test (at p t) there in only p k.0 k.1 k.2)

-- the floor node's number is the largest of those that are at most the wanted one
pub floor_largest : (n : ℕ) (t : Tree) → IsNumbered t → (d : List ℕ) (m : Tree) → at d t ≡ Some m → has_number_up_to n m ≡ true → (q : List ℕ) → floor_path n t ≡ Some q →
    (k : Tree) × (at q t ≡ Some k) × (has_number_up_to n k ≡ true) × (number m.label ≤ number k.label)
floor_largest n t num d m e h q floor =
    let test : List ℕ → Bool = λ path. is_there (has_number_up_to n) (at path t) in
    let k = is_there_value (has_number_up_to n) (at q t) (find_passes test (reverse (paths t)) q floor) in
    let c = path-in-paths t d m e in
    let rise = subst Rise (sym (numbers-paths t)) num.2.in_order in
    let le : number_there (at d t) ≤ number_there (at q t) = rise_last (λ p. number_there (at p t)) test (paths t) rise c.0 d c.1 c.2 (ap (is_there (has_number_up_to n)) e ∙ h) q floor in
    let here : number_there (at d t) ≡ number m.label = ap number_there e in
    let there : number_there (at q t) ≡ number k.0.label = ap number_there k.1 in
    (k.0, k.1, k.2, omega arith)

-- no floor node: the root's number is above the wanted one
pub no_floor : (n : ℕ) (t : Tree) → floor_path n t ≡ None → has_number_up_to n t ≡ false
no_floor n t none = elim (bool_cases (has_number_up_to n t)) [
  | inr e ↦ e
  | inl e ↦
      let c = path-in-paths t [] t refl in
      absurd (last_there (λ path. is_there (has_number_up_to n) (at path t)) (paths t) c.0 [] c.1 c.2 e none)
]
