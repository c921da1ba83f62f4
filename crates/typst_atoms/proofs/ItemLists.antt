-- The items of the arguments of a function call in math, read from the end, and the semicolons after arguments.
use Rattle.std.proofs.Common.{◌≡◌, ◌<◌, ℕ, ◌+◌, Bool, true, false, not, ◌&&◌, ◌||◌, cond, map, filter, take, Option, None, Some, List, [], ◌∷◌, ◌++◌, length, refl, sym, ap, subst, ◌∙◌, append-nil, append_assoc, length-append, arith}
use Rattle.std.proofs.Math.Seq.{take-append_seam}
use Rattle.std.specs.List.{enumerate_from, last_or, list_all}
use Rattle.std.specs.Option.{option_map_or}
use Rattle.typst_atoms.proofs.Ends.{last_in_append}
use Rattle.typst_node.specs.Children.{all_in, last_of}
use Rattle.typst_atoms.specs.Classes.{is_arg_kind}
use Rattle.typst_atoms.specs.HashEnds.{ends_behind_hash}
use Rattle.typst_atoms.specs.Kinds.{is_kind}
use Rattle.typst_atoms.specs.MathItems.{content_items, ends_in_semicolon, is_behind_hash, is_content_item, is_hash_last, is_item, is_separator_kind, item_alone, items_in}
use Rattle.typst_atoms.specs.Missing.{is_of_kind}
use Rattle.typst_base.specs.contracts.kind.SyntaxKind.{the_type}
use Rattle.typst_base.specs.declared.kind.SyntaxKind.{SyntaxKind}
use Rattle.typst_base.specs.declared.kind.SyntaxKind.TheVariants as kinds
use Rattle.typst_node.specs.Tree.{Tree}
use Rattle.typst_node.specs.Views.{node_kind}
use denote.Enum.Bare.{same_true}

-- the last node that is not an argument decides
ends_after : (b : Bool) (o : Option Tree) (ts : List Tree) → ends_behind_hash (option_map_or (λ t. is_kind kinds.Hash (node_kind t)) o b) ts ≡ option_map_or (λ t. is_kind kinds.Hash (node_kind t)) (last_or o (all_in (λ k. not (is_arg_kind k)) ts)) b
ends_after b o [] = refl
ends_after b o (t ∷ ts) =
    let others = all_in (λ k. not (is_arg_kind k)) ts in
    elim (is_arg_kind (node_kind t)) as
    (λ v. ends_behind_hash (cond v (option_map_or (λ s. is_kind kinds.Hash (node_kind s)) o b) (is_kind kinds.Hash (node_kind t))) ts ≡ option_map_or (λ s. is_kind kinds.Hash (node_kind s)) (last_or o (cond (not v) (t ∷ others) others)) b) [
      | true ↦ ends_after b o ts
      | false ↦ ends_after b (Some t) ts
    ]

pub ends_by_last : (b : Bool) (ts : List Tree) → ends_behind_hash b ts ≡ option_map_or (λ t. is_kind kinds.Hash (node_kind t)) (last_of (all_in (λ k. not (is_arg_kind k)) ts)) b
ends_by_last b ts = ends_after b None ts

pub items_in_append : (b : Bool) (ts : List Tree) (t : Tree) → items_in b (ts ++ t ∷ []) ≡ items_in b ts ++ item_alone (ends_behind_hash b ts) t
items_in_append b [] t = append-nil (item_alone b t)
items_in_append b (s ∷ ts) t =
    ap (λ x. item_alone b s ++ x) (items_in_append (is_behind_hash b s) ts t)
    ∙ sym (append_assoc (item_alone b s) (items_in (is_behind_hash b s) ts) (item_alone (ends_behind_hash (is_behind_hash b s) ts) t))

-- what a step from the back tells
back_step : (b item v : Bool) (all front : List Tree) (t : Tree) → all ≡ front ++ t ∷ [] → item ≡ is_item (ends_behind_hash b front) (node_kind t) → item ≡ v → items_in b all ≡ items_in b front ++ cond v (t ∷ []) []
back_step b item v all front t e f h =
    ap (items_in b) e
    ∙ items_in_append b front t
    ∙ ap (λ w. items_in b front ++ cond w (t ∷ []) []) (sym f ∙ h)

pub items_back_none : (b item : Bool) (all front start : List Tree) (t : Tree) → items_in b all ≡ start → all ≡ front ++ t ∷ [] → item ≡ is_item (ends_behind_hash b front) (node_kind t) → item ≡ false → items_in b front ≡ start
items_back_none b item all front start t i e f h = sym (append-nil (items_in b front)) ∙ sym (back_step b item false all front t e f h) ∙ i

pub items_back_some : (b item : Bool) (all front start : List Tree) (t : Tree) → items_in b all ≡ start → all ≡ front ++ t ∷ [] → item ≡ is_item (ends_behind_hash b front) (node_kind t) → item ≡ true → start ≡ items_in b front ++ t ∷ []
items_back_some b item all front start t i e f h = sym i ∙ back_step b item true all front t e f h

pub items_back_shorter : (b item : Bool) (all front start : List Tree) (t : Tree) → items_in b all ≡ start → all ≡ front ++ t ∷ [] → item ≡ is_item (ends_behind_hash b front) (node_kind t) → item ≡ true → length (items_in b front) < length start
items_back_shorter b item all front start t i e f h =
    let j = simp length-append at (ap length (items_back_some b item all front start t i e f h)) in
    omega arith

-- an argument is no semicolon
not_semicolon : (k : SyntaxKind) → is_arg_kind k ≡ true → is_kind kinds.Semicolon k ≡ false
not_semicolon k h =
    elim (is_kind kinds.Semicolon k) as (λ v. is_kind kinds.Semicolon k ≡ v → v ≡ false) [
      | true ↦ λ q.
          let is_arg : is_arg_kind kinds.Semicolon ≡ true = subst (λ x. is_arg_kind x ≡ true) (same_true the_type tt k kinds.Semicolon q) h in
          cc
      | false ↦ λ q. refl
    ] refl

or_true : (v w : Bool) → w ≡ true → (v || w) ≡ true
or_true true w h = refl
or_true false w h = h

-- so it is an item
arg_is_item : (b : Bool) (k : SyntaxKind) → is_arg_kind k ≡ true → is_item b k ≡ true
arg_is_item b k h =
    ap (λ v. cond v (not b) (is_separator_kind k || is_arg_kind k)) (not_semicolon k h) ∙ or_true (is_separator_kind k) (is_arg_kind k) h

items_in-arg : (b : Bool) (t : Tree) (ts : List Tree) → is_arg_kind (node_kind t) ≡ true → items_in b (t ∷ ts) ≡ t ∷ items_in b ts
items_in-arg b t ts h =
    ap (λ v. cond v (t ∷ []) [] ++ items_in (is_behind_hash b t) ts) (arg_is_item b (node_kind t) h)
    ∙ ap (λ v. t ∷ items_in (cond v b (is_kind kinds.Hash (node_kind t))) ts) h

items_in-other : (b : Bool) (t : Tree) (ts : List Tree) → is_arg_kind (node_kind t) ≡ false → items_in b (t ∷ ts) ≡ item_alone b t ++ items_in (is_kind kinds.Hash (node_kind t)) ts
items_in-other b t ts h = ap (λ v. item_alone b t ++ items_in (cond v b (is_kind kinds.Hash (node_kind t))) ts) h

-- what a step over a node tells of the semicolon that ends an argument
pub ends_in_semicolon-arg : (b : Bool) (t : Tree) (ts : List Tree) → is_arg_kind (node_kind t) ≡ true → ends_in_semicolon (items_in b (t ∷ ts)) ≡ false
ends_in_semicolon-arg b t ts h =
    ap ends_in_semicolon (items_in-arg b t ts h)
    ∙ ap (λ v. cond v false (is_kind kinds.Semicolon (node_kind t) || ends_in_semicolon (items_in b ts))) h

here : (b : Bool) (t : Tree) (xs : List Tree) → is_arg_kind (node_kind t) ≡ false → is_kind kinds.Semicolon (node_kind t) ≡ true → b ≡ false → ends_in_semicolon (item_alone b t ++ xs) ≡ true
here b t xs h e q =
    ap (λ v. ends_in_semicolon (cond (cond v (not b) (is_separator_kind (node_kind t) || is_arg_kind (node_kind t))) (t ∷ []) [] ++ xs)) e
    ∙ (ap (λ v. ends_in_semicolon (cond (not v) (t ∷ []) [] ++ xs)) q
    ∙ (ap (λ v. cond v false (is_kind kinds.Semicolon (node_kind t) || ends_in_semicolon xs)) h
    ∙ ap (λ v. v || ends_in_semicolon xs) e))

pub ends_in_semicolon-here : (b : Bool) (t : Tree) (ts : List Tree) → is_arg_kind (node_kind t) ≡ false → is_kind kinds.Semicolon (node_kind t) ≡ true → b ≡ false → ends_in_semicolon (items_in b (t ∷ ts)) ≡ true
ends_in_semicolon-here b t ts h e q =
    ap ends_in_semicolon (items_in-other b t ts h) ∙ here b t (items_in (is_kind kinds.Hash (node_kind t)) ts) h e q

later : (b : Bool) (t : Tree) (xs : List Tree) → is_arg_kind (node_kind t) ≡ false → (is_kind kinds.Semicolon (node_kind t) && not b) ≡ false → ends_in_semicolon (item_alone b t ++ xs) ≡ ends_in_semicolon xs
later b t xs h q =
    elim (is_kind kinds.Semicolon (node_kind t)) as (λ v. is_kind kinds.Semicolon (node_kind t) ≡ v → (v && not b) ≡ false → ends_in_semicolon (cond (cond v (not b) (is_separator_kind (node_kind t) || is_arg_kind (node_kind t))) (t ∷ []) [] ++ xs) ≡ ends_in_semicolon xs) [
      | true ↦ λ e p. ap (λ v. ends_in_semicolon (cond v (t ∷ []) [] ++ xs)) p
      | false ↦ λ e p.
          elim (is_separator_kind (node_kind t) || is_arg_kind (node_kind t)) as (λ v. ends_in_semicolon (cond v (t ∷ []) [] ++ xs) ≡ ends_in_semicolon xs) [
            | true ↦ ap (λ v. cond v false (is_kind kinds.Semicolon (node_kind t) || ends_in_semicolon xs)) h ∙ ap (λ v. v || ends_in_semicolon xs) e
            | false ↦ refl
          ]
    ] refl q

pub ends_in_semicolon-later : (b : Bool) (t : Tree) (ts : List Tree) → is_arg_kind (node_kind t) ≡ false → (is_kind kinds.Semicolon (node_kind t) && not b) ≡ false → ends_in_semicolon (items_in b (t ∷ ts)) ≡ ends_in_semicolon (items_in (is_kind kinds.Hash (node_kind t)) ts)
ends_in_semicolon-later b t ts h q =
    ap ends_in_semicolon (items_in-other b t ts h) ∙ later b t (items_in (is_kind kinds.Hash (node_kind t)) ts) h q

-- what a step over a list of nodes tells of a semicolon after an argument
and_true : (v w : Bool) → (v && w) ≡ true → (v ≡ true) × (w ≡ true)
and_true true w h = (refl, h)
and_true false w h = cc

not_true : (b : Bool) → not b ≡ true → b ≡ false
not_true true h = cc
not_true false h = refl

pub step_to_arg : (b arg start : Bool) (all ts : List Tree) (t : Tree) → all ≡ t ∷ ts → arg ≡ is_arg_kind (node_kind t) → arg ≡ true → ends_in_semicolon (items_in b all) ≡ start → false ≡ start
step_to_arg b arg start all ts t e a v i =
    sym (sym i ∙ (ap (λ xs. ends_in_semicolon (items_in b xs)) e ∙ ends_in_semicolon-arg b t ts (sym a ∙ v)))

pub step_to_semicolon : (b arg semi start : Bool) (all ts : List Tree) (t : Tree) → all ≡ t ∷ ts → arg ≡ is_arg_kind (node_kind t) → arg ≡ false → semi ≡ (is_kind kinds.Semicolon (node_kind t) && not b) → semi ≡ true → ends_in_semicolon (items_in b all) ≡ start → true ≡ start
step_to_semicolon b arg semi start all ts t e a v s w i =
    let both = and_true (is_kind kinds.Semicolon (node_kind t)) (not b) (sym s ∙ w) in
    sym (sym i ∙ (ap (λ xs. ends_in_semicolon (items_in b xs)) e ∙ ends_in_semicolon-here b t ts (sym a ∙ v) both.0 (not_true b both.1)))

pub step_past : (b arg semi hash start : Bool) (all ts : List Tree) (t : Tree) → all ≡ t ∷ ts → arg ≡ is_arg_kind (node_kind t) → arg ≡ false → semi ≡ (is_kind kinds.Semicolon (node_kind t) && not b) → semi ≡ false → hash ≡ is_kind kinds.Hash (node_kind t) → ends_in_semicolon (items_in b all) ≡ start → ends_in_semicolon (items_in hash ts) ≡ start
step_past b arg semi hash start all ts t e a v s w h i =
    ap (λ x. ends_in_semicolon (items_in x ts)) h
    ∙ (sym (ends_in_semicolon-later b t ts (sym a ∙ v) (sym s ∙ w)) ∙ (ap (λ xs. ends_in_semicolon (items_in b xs)) (sym e) ∙ i))

-- each of them is an item even if no hash comes before it
item_behind_none : (b : Bool) (k : SyntaxKind) → is_item b k ≡ true → is_item false k ≡ true
item_behind_none b k h =
    elim (is_kind kinds.Semicolon k) as (λ v. cond v (not b) (is_separator_kind k || is_arg_kind k) ≡ true → cond v true (is_separator_kind k || is_arg_kind k) ≡ true) [
      | true ↦ λ q. refl
      | false ↦ λ q. q
    ] h

are_items : (b : Bool) (ts : List Tree) → list_all (λ t. is_item false (node_kind t)) (items_in b ts) ≡ true
are_items b [] = refl
are_items b (t ∷ ts) =
    elim (is_item b (node_kind t)) as (λ v. is_item b (node_kind t) ≡ v → list_all (λ t. is_item false (node_kind t)) (cond v (t ∷ []) [] ++ items_in (is_behind_hash b t) ts) ≡ true) [
      | true ↦ λ q. ap (λ v. v && list_all (λ t. is_item false (node_kind t)) (items_in (is_behind_hash b t) ts)) (item_behind_none b (node_kind t) q) ∙ are_items (is_behind_hash b t) ts
      | false ↦ λ q. are_items (is_behind_hash b t) ts
    ] refl

all_but_one : (test : Tree → Bool) (us : List Tree) (t : Tree) → list_all test (us ++ t ∷ []) ≡ true → test t ≡ true
all_but_one test [] t h = (and_true (test t) true h).0
all_but_one test (u ∷ us) t h = all_but_one test us t (and_true (test u) (list_all test (us ++ t ∷ [])) h).1

pub first_is_item : (b : Bool) (ts us : List Tree) (t : Tree) → items_in b ts ≡ t ∷ us → is_item false (node_kind t) ≡ true
first_is_item b ts us t e =
    (and_true (is_item false (node_kind t)) (list_all (λ u. is_item false (node_kind u)) us)
    (sym (ap (list_all (λ u. is_item false (node_kind u))) e) ∙ are_items b ts)).0

pub last_is_item : (b : Bool) (ts us : List Tree) (t : Tree) → items_in b ts ≡ us ++ t ∷ [] → is_item false (node_kind t) ≡ true
last_is_item b ts us t e =
    all_but_one (λ u. is_item false (node_kind u)) us t (sym (ap (list_all (λ u. is_item false (node_kind u))) e) ∙ are_items b ts)

-- after nothing they are the items of the whole list
is_hash_last_append : (ts : List Tree) (t : Tree) → is_hash_last (ts ++ t ∷ []) ≡ is_behind_hash (is_hash_last ts) t
is_hash_last_append ts t =
    let last = last_of (all_in (λ k. not (is_arg_kind k)) ts) in
    let is_hash = is_kind kinds.Hash (node_kind t) in
    ap (is_of_kind kinds.Hash) (last_in_append (λ k. not (is_arg_kind k)) ts t)
    ∙ elim (is_arg_kind (node_kind t)) as
    (λ v. is_of_kind kinds.Hash (cond (not v) (Some t) last) ≡ cond v (is_of_kind kinds.Hash last) is_hash) [
      | true ↦ refl
      | false ↦ refl
    ]

node_alone : (v : Bool) (p : List Tree × Tree) (ps : List (List Tree × Tree)) →
    map (λ q. q.1) (cond v (p ∷ ps) ps) ≡ cond v (p.1 ∷ []) [] ++ map (λ q. q.1) ps
node_alone true p ps = refl
node_alone false p ps = refl

-- the items among the last nodes of a list, whose first has this number
abbrev items_from : List Tree → ℕ → List Tree → List Tree
items_from all n ts =
    map (λ p. p.1) (filter is_content_item (map (λ p. (take p.0 all, p.1)) (enumerate_from n ts)))

items_from_is_in : (front ts : List Tree) →
    items_from (front ++ ts) (length front) ts ≡ items_in (is_hash_last front) ts
items_from_is_in front [] = refl
items_from_is_in front (t ∷ ts) =
    let all : List Tree = front ++ t ∷ ts in
    let more : List Tree = front ++ t ∷ [] in
    let is_here : Bool = is_content_item (take (length front) all, t) in
    let later = filter is_content_item (map (λ p. (take p.0 all, p.1)) (enumerate_from (length front + 1) ts)) in
    node_alone is_here (take (length front) all, t) later
    ∙ ap (λ us. cond (is_content_item (us, t)) (t ∷ []) [] ++ items_from all (length front + 1) ts)
    (take-append_seam front (t ∷ ts))
    ∙ ap (λ us. item_alone (is_hash_last front) t ++ items_from us (length front + 1) ts) (sym (append_assoc front (t ∷ []) ts))
    ∙ ap (λ n. item_alone (is_hash_last front) t ++ items_from (more ++ ts) n ts) (sym (length-append front (t ∷ [])))
    ∙ ap (λ us. item_alone (is_hash_last front) t ++ us)
    (items_from_is_in more ts ∙ ap (λ b. items_in b ts) (is_hash_last_append front t))

pub items_in_content : (ts : List Tree) → items_in false ts ≡ content_items ts
items_in_content ts = sym (items_from_is_in [] ts)
