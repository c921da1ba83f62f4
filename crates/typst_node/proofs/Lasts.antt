-- The last of a list of nodes, from what an iterator over their views tells from the back.
use Rattle.std.proofs.Common.{◌≡◌, ◌≢◌, List, [], ◌∷◌, ◌++◌, map, Bool, true, Option, Some, None, MatchOption, refl, sym, ap, subst}
use Rattle.std.specs.List.{last_or}
use Rattle.typst_base.specs.declared.kind.SyntaxKind.{SyntaxKind}
use Rattle.typst_node.specs.Tree.{Tree}
use Rattle.typst_node.specs.Views.{kind_or, told, told_of, IsOptionalViewOf}
use Rattle.typst_node.specs.Children.{last_of}

-- what is told is that of the node
record Tells (told : Option Tree × SyntaxKind × Bool) (blank : SyntaxKind) (last : Option Tree) : Type 0 where
  there : last ≢ None
  node : told.0 ≡ last
  kind : told.1 ≡ kind_or blank last
  is_proper : told.2 ≡ true

-- an item told from the back is that of the last node
tells_last : (blank : SyntaxKind) (o : Option Tree) (xs : List Tree) (ys : List (Option Tree × SyntaxKind × Bool)) (item : Option Tree × SyntaxKind × Bool) → map told_of xs ≡ ys ++ item ∷ [] → Tells item blank (last_or o xs)
tells_last blank o [] [] item e = cc
tells_last blank o [] (y ∷ ys) item e = cc
tells_last blank o (x ∷ []) [] item e =
    let h : told_of x ≡ item = cc in
    record { there = λ absent. cc; node = sym (ap (λ p. p.0) h); kind = sym (ap (λ p. p.1) h); is_proper = sym (ap (λ p. p.2) h) }
tells_last blank o (x ∷ []) (y ∷ []) item e = cc
tells_last blank o (x ∷ []) (y ∷ (z ∷ ys)) item e = cc
tells_last blank o (x ∷ (w ∷ xs)) [] item e = cc
tells_last blank o (x ∷ (w ∷ xs)) (y ∷ ys) item e = tells_last blank (Some x) (w ∷ xs) ys item (cc)

module _ {V : Type 0} (node_of : V → Option Tree) (view_kind : V → SyntaxKind) (proper : V → Bool) where
  -- what a call for an item from the back tells of the last node
  pub optional_last : (blank : SyntaxKind) (xs from to : List Tree) (r : Option V) → from ≡ xs → MatchOption r ((map told_of from ≡ []) × (map told_of to ≡ [])) (λ v. map told_of from ≡ map told_of to ++ told node_of view_kind proper v ∷ []) → IsOptionalViewOf node_of view_kind proper blank (last_of xs) r
  optional_last blank [] from to None same e = refl
  optional_last blank (x ∷ xs) from to None same e = let h : map told_of (x ∷ xs) ≡ [] = subst (λ zs. map told_of zs ≡ []) same e.0 in cc
  optional_last blank xs from to (Some v) same e =
      let h = tells_last blank None xs (map told_of to) (told node_of view_kind proper v) (subst (λ zs. map told_of zs ≡ map told_of to ++ told node_of view_kind proper v ∷ []) same e) in
      (h.there, record { node = h.node; kind = h.kind; is_proper = h.is_proper })
