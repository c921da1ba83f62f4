-- The preorder of paths and that of nodes are one.
use Rattle.std.proofs.Common.{◌≡◌, ℕ, suc, zero, ◌+◌, List, [], ◌∷◌, ◌++◌, length, map, refl, sym, ap, subst, ◌∙◌, arith, Option, Some, slice_get}
use Rattle.std.specs.List.{Contains}
use Rattle.std.proofs.lemmas.List.{map-append, length-map, get_or-map}
use Rattle.std.proofs.lemmas.List.Elements.{Contains-append_left, Contains-append_right}
use Rattle.typst_node.specs.Tree.{Label, Forest, none, tree, Tree, trees}
use Rattle.typst_node.specs.Preorder.{preorder, nodes, paths_from, paths, subtrees_of, subtrees, at, if_some}
use Rattle.typst_node.specs.Count.{count}

map_map : {A B C : Type 0} (f : B → C) (g : A → B) (xs : List A) → map f (map g xs) ≡ map (λ x. f (g x)) xs
map_map f g [] = refl
map_map f g (x ∷ xs) = ap (λ ys. f (g x) ∷ ys) (map_map f g xs)

map_same : {A B : Type 0} (f g : A → B) → ((x : A) → f x ≡ g x) → (xs : List A) → map f xs ≡ map g xs
map_same f g same [] = refl
map_same f g same (x ∷ xs) = λ i. same x i ∷ map_same f g same xs i

-- the labels of the subtrees are the nodes
pub labels_below : (f : Forest) → map (λ (s : Tree). s.label) (subtrees_of f) ≡ preorder f
labels_below none = refl
labels_below (tree l c r) =
    ap (λ ls. l ∷ ls) (map-append (λ (s : Tree). s.label) (subtrees_of c) (subtrees_of r) ∙ (λ i. labels_below c i ++ labels_below r i))

pub labels-subtrees : (t : Tree) → map (λ (s : Tree). s.label) (subtrees t) ≡ nodes t
labels-subtrees t = ap (λ ls. t.label ∷ ls) (labels_below t.children)

-- what a path leads to among trees side by side; the empty path leads to `d`
abbrev pub at_among : Option Tree → List Tree → List ℕ → Option Tree
at_among d ts [] = d
at_among d ts (i ∷ path) = if_some (at path) (slice_get ts i)

pub at-among : (t : Tree) (path : List ℕ) → at path t ≡ at_among (Some t) (trees t.children) path
at-among t [] = refl
at-among t (i ∷ path) = refl

-- trees side by side that are in a list from a place on
abbrev pub StandFrom : List Tree → ℕ → Forest → Type 0
StandFrom ts i f = (j : ℕ) → slice_get ts (i + j) ≡ slice_get (trees f) j

pub stand_first : (ts : List Tree) (i : ℕ) (l : Label) (c r : Forest) → StandFrom ts i (tree l c r) → slice_get ts i ≡ Some (record { label = l; children = c })
stand_first ts i l c r h = ap (slice_get ts) (let e : i ≡ i + 0 = omega arith in e) ∙ h 0

pub stand_rest : (ts : List Tree) (i : ℕ) (l : Label) (c r : Forest) → StandFrom ts i (tree l c r) → StandFrom ts (i + 1) r
stand_rest ts i l c r h j = ap (slice_get ts) (let e : i + 1 + j ≡ i + suc j = omega arith in e) ∙ h (suc j)

-- the paths lead to the subtrees, in order
pub at_paths_from : (d : Option Tree) (ts : List Tree) (i : ℕ) (f : Forest) → StandFrom ts i f → map (at_among d ts) (paths_from i f) ≡ map Some (subtrees_of f)
at_paths_from d ts i none h = refl
at_paths_from d ts i (tree l c r) h =
    let t : Tree = record { label = l; children = c } in
    let there : (p : List ℕ) → at_among d ts (i ∷ p) ≡ at_among (Some t) (trees c) p = λ p. ap (if_some (at p)) (stand_first ts i l c r h) ∙ at-among t p in
    let below : map (at_among d ts) (map (λ p. i ∷ p) (paths_from 0 c)) ≡ map Some (subtrees_of c) =
    map_map (at_among d ts) (λ p. i ∷ p) (paths_from 0 c) ∙ (map_same (λ p. at_among d ts (i ∷ p)) (at_among (Some t) (trees c)) there (paths_from 0 c) ∙ at_paths_from (Some t) (trees c) 0 c (λ j. ap (slice_get (trees c)) (let e : 0 + j ≡ j = omega arith in e))) in
    map-append (at_among d ts) (map (λ p. i ∷ p) ([] ∷ paths_from 0 c)) (paths_from (i + 1) r)
    ∙ ((λ k. (there [] k ∷ below k) ++ at_paths_from d ts (i + 1) r (stand_rest ts i l c r h) k) ∙ ap (λ ss. Some t ∷ ss) (sym (map-append Some (subtrees_of c) (subtrees_of r))))

pub at-paths : (t : Tree) → map (λ path. at path t) (paths t) ≡ map Some (subtrees t)
at-paths t =
    map_same (λ path. at path t) (at_among (Some t) (trees t.children)) (at-among t) (paths t)
    ∙ ap (λ ss. Some t ∷ ss) (at_paths_from (Some t) (trees t.children) 0 t.children (λ j. ap (slice_get (trees t.children)) (let e : 0 + j ≡ j = omega arith in e)))

-- as many paths as nodes
pub length-paths : (t : Tree) → length (paths t) ≡ count t
length-paths t =
    sym (length-map (paths t) (λ path. at path t))
    ∙ (ap length (at-paths t) ∙ (length-map (subtrees t) Some ∙ (sym (length-map (subtrees t) (λ (s : Tree). s.label)) ∙ ap length (labels-subtrees t))))

pub contains_map : {A B : Type 0} (f : A → B) (xs : List A) (x : A) → Contains xs x → Contains (map f xs) (f x)
contains_map f xs x h = (h.0, omega (arith, h.1, length-map xs f), get_or-map f xs h.0 x (f x) h.1 ∙ ap f h.2)

-- a path that leads to a node is in the list
pub path_among : (i j : ℕ) (f : Forest) (path : List ℕ) (s : Tree) → if_some (at path) (slice_get (trees f) j) ≡ Some s → Contains (paths_from i f) ((i + j) ∷ path)
path_among i j none path s h = cc
path_among i zero (tree l c r) [] s h =
    let place : i ≡ i + zero = omega arith in
    subst (λ k. Contains (paths_from i (tree l c r)) (k ∷ [])) place (0, omega arith, refl)
path_among i zero (tree l c r) (k ∷ path) s h =
    let place : i ≡ i + zero = omega arith in
    let below : Contains (paths_from 0 c) (k ∷ path) = subst (λ n. Contains (paths_from 0 c) (n ∷ path)) (let e : 0 + k ≡ k = omega arith in e) (path_among 0 k c path s h) in
    let there : Contains (map (λ p. i ∷ p) ([] ∷ paths_from 0 c)) (i ∷ k ∷ path) = contains_map (λ p. i ∷ p) ([] ∷ paths_from 0 c) (k ∷ path) (Contains-append_right ([] ∷ []) (paths_from 0 c) (k ∷ path) below) in
    subst (λ n. Contains (paths_from i (tree l c r)) (n ∷ k ∷ path)) place (Contains-append_left (map (λ p. i ∷ p) ([] ∷ paths_from 0 c)) (paths_from (i + 1) r) (i ∷ k ∷ path) there)
path_among i (suc j) (tree l c r) path s h =
    let place : (i + 1) + j ≡ i + suc j = omega arith in
    Contains-append_right (map (λ p. i ∷ p) ([] ∷ paths_from 0 c)) (paths_from (i + 1) r) ((i + suc j) ∷ path) (subst (λ k. Contains (paths_from (i + 1) r) (k ∷ path)) place (path_among (i + 1) j r path s h))

pub path-in-paths : (t : Tree) (path : List ℕ) (s : Tree) → at path t ≡ Some s → Contains (paths t) path
path-in-paths t [] s h = (0, omega arith, refl)
path-in-paths t (k ∷ path) s h =
    Contains-append_right ([] ∷ []) (paths_from 0 t.children) (k ∷ path) (subst (λ n. Contains (paths_from 0 t.children) (n ∷ path)) (let e : 0 + k ≡ k = omega arith in e) (path_among 0 k t.children path s h))
