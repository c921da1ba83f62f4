-- The node of the view with an index that an iterator over views gives.
use Rattle.std.proofs.Common.{◌≡◌, ℕ, List, map, slice_get, refl, sym, ap, subst, ◌∙◌, Option, Some, None, Bool}
use Rattle.std.specs.Prelude.{MatchOption}
use Rattle.std.specs.Iterator.{SkipsThenYields, YieldsFirstBy}
use Rattle.std.specs.Option.{option_map}
use Rattle.std.proofs.lemmas.Iterator.Consumers.{YieldsList-from_first, nth_from_yields_List}
use Rattle.std.proofs.lemmas.List.{map-id}
use Rattle.std.proofs.lemmas.Option.{none-some, same_Some, slice_get-map}
use Rattle.typst_base.specs.declared.kind.SyntaxKind.{SyntaxKind}
use Rattle.typst_node.specs.Tree.{Tree}
use Rattle.typst_node.specs.Views.{told_of}

-- what is said about a view
abbrev pub Told : Type 0
Told = Option Tree × SyntaxKind × Bool

module _ {V X : Type 0} (view : V → Told) (tell : X → Told) (node : X → Tree) (is_node : (x : X) → (tell x).0 ≡ Some (node x)) where
  -- the node of a view that is told as an element of a list
  picked : (r : Option V) (o : Option X) → option_map view r ≡ option_map tell o
      → MatchOption r (option_map node o ≡ None) (λ v. (view v).0 ≡ option_map node o)
  picked None None e = refl
  picked None (Some x) e = absurd (none-some (tell x) e)
  picked (Some v) None e = absurd (none-some (view v) (sym e))
  picked (Some v) (Some x) e = ap (λ p. p.0) (same_Some (view v) (tell x) e) ∙ is_node x

  -- the view with an index has the node of the element with the index, and there are as many views as elements
  pub nth_told : {S : Type 0} (left : S → List X) (s u : S) (n : ℕ) (r : Option V)
      → SkipsThenYields (YieldsFirstBy view (λ t. map tell (left t))) s n r u
      → MatchOption r (slice_get (map node (left s)) n ≡ None) (λ v. (view v).0 ≡ slice_get (map node (left s)) n)
  nth_told left s u n r ran =
      let at : option_map view r ≡ option_map tell (slice_get (left s) n) =
      nth_from_yields_List r u n ran (YieldsList-from_first view (λ t. map tell (left t)) (map tell (left s)) refl)
      ∙ slice_get-map tell (left s) n in
      subst (λ o. MatchOption r (o ≡ None) (λ v. (view v).0 ≡ o)) (sym (slice_get-map node (left s) n)) (picked r (slice_get (left s) n) at)

-- the same where the elements are the nodes
pub nth_view : {V S : Type 0} {view : V → Told} (left : S → List Tree) (s u : S) (n : ℕ) (r : Option V)
    → SkipsThenYields (YieldsFirstBy view (λ t. map told_of (left t))) s n r u
    → MatchOption r (slice_get (left s) n ≡ None) (λ v. (view v).0 ≡ slice_get (left s) n)
nth_view {view = view} left s u n r ran =
    subst (λ xs. MatchOption r (slice_get xs n ≡ None) (λ v. (view v).0 ≡ slice_get xs n)) (map-id (left s))
    (nth_told view told_of (λ t. t) (λ t. refl) left s u n r ran)
