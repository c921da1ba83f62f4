-- Paths, one step after the other.
use Rattle.std.proofs.Common.{◌≡◌, ℕ, List, [], ◌∷◌, ◌++◌, Option, None, Some, refl, sym, ◌∙◌, ap}
use Rattle.std.specs.Prelude.{slice_get}
use Rattle.typst_node.specs.Tree.{Tree, trees}
use Rattle.typst_node.specs.Preorder.{if_some, at}

-- a value is there if something came of it
pub if_some_value : {A B : Type 0} (f : A → Option B) (o : Option A) (m : B) → if_some f o ≡ Some m → (c : A) × (o ≡ Some c) × (f c ≡ Some m)
if_some_value f None m h = absurd (let h : None ≡ Some m = h in cc)
if_some_value f (Some c) m h = (c, refl, h)

pub at-append : (p q : List ℕ) (n m : Tree) → at p n ≡ Some m → at (p ++ q) n ≡ at q m
at-append [] q n m h = ap (if_some (at q)) h
at-append (i ∷ p) q n m h =
    let s = if_some_value (at p) (slice_get (trees n.children) i) m h in
    ap (if_some (at (p ++ q))) s.1 ∙ at-append p q s.0 m s.2

-- one step more
pub at-push : (p : List ℕ) (i : ℕ) (n m c : Tree) → at p n ≡ Some m → slice_get (trees m.children) i ≡ Some c → at (p ++ i ∷ []) n ≡ Some c
at-push p i n m c h s = at-append p (i ∷ []) n m h ∙ ap (if_some (at [])) s

-- the child to which one step more leads
pub pushed : (p : List ℕ) (i : ℕ) (n m c : Tree) → at p n ≡ Some m → at (p ++ i ∷ []) n ≡ Some c → slice_get (trees m.children) i ≡ Some c
pushed p i n m c h k =
    let x = if_some_value (at []) (slice_get (trees m.children) i) c (sym (at-append p (i ∷ []) n m h) ∙ k) in
    x.1 ∙ x.2
