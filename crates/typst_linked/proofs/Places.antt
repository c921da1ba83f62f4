-- Places, and the last steps to them.
use Rattle.std.proofs.Common.{◌≡◌, ℕ, ◌<◌, false, true, List, [], ◌∷◌, ◌++◌, length, Option, None, Some, refl, sym, ◌∙◌}
use Rattle.std.specs.Prelude.{IsSome}
use Rattle.std.proofs.lemmas.Option.{slice_get_within}
use Rattle.typst_node.specs.Tree.{Tree, trees}
use Rattle.typst_node.proofs.PathSteps.{pushed}
use Rattle.typst_linked.specs.Place.{Place, subtree, child_place, last_step}

-- the tree that there is
pub some_of : (o : Option Tree) → IsSome o → (t : Tree) × (o ≡ Some t)
some_of (Some t) is = (t, refl)
some_of None is = let no : false ≡ true = is in cc

-- one node is at a place
pub same_node : (s n : Tree) (p : Place) → subtree p ≡ Some s → subtree p ≡ Some n → s ≡ n
same_node s n p hs hn = let e : Some s ≡ Some n = sym hs ∙ hn in cc

last_step-cons : (i j : ℕ) (p : List ℕ) → last_step (i ∷ (p ++ j ∷ [])) ≡ last_step (p ++ j ∷ [])
last_step-cons i j [] = refl
last_step-cons i j (k ∷ p) = refl

pub last_step-push : (p : List ℕ) (i : ℕ) → last_step (p ++ i ∷ []) ≡ i
last_step-push [] i = refl
last_step-push (j ∷ p) i = last_step-cons j i p ∙ last_step-push p i

-- the index of a child is below the number of its parent's children
pub child_within : (p : Place) (i : ℕ) (m c : Tree) → subtree p ≡ Some m → subtree (child_place p i) ≡ Some c → i < length (trees m.children)
child_within p i m c hm hc = slice_get_within (trees m.children) i c (pushed p.path i p.root m c hm hc)
