-- Trees with one plain tree have the same paths and edits, and at each path nodes with one plain tree.
use Rattle.std.proofs.Common.{◌≡◌, ℕ, zero, suc, ◌<◌, ◌≤◌, ◌↔◌, List, [], ◌∷◌, length, map, refl, sym, ap, subst, ◌∙◌, get_or}
use Rattle.std.proofs.lemmas.List.{length-map}
use Rattle.typst_node.specs.Tree.{Content, AsLeaf, AsError, AsInner, IsInner, Tree, trees}
use Rattle.typst_node.specs.Plain.{unbounded, plain}
use Rattle.typst_node.specs.Paths.{IsPath, tree_at, no_tree}
use Rattle.typst_node.specs.PlainEdit.{RangeFits, EditFits}
use Rattle.typst_node.specs.Numbering.{IsNumbering}
use Rattle.typst_node.proofs.EditStep.{kids_plain}

pub many_alike : (ts us : List Tree) → map plain ts ≡ map plain us → length ts ≡ length us
many_alike ts us same = sym (length-map ts plain) ∙ (ap length same ∙ length-map us plain)

pub one_alike : (ts us : List Tree) (i : ℕ) → map plain ts ≡ map plain us → plain (get_or ts i no_tree) ≡ plain (get_or us i no_tree)
one_alike ts us i same = sym (get_plain ts i) ∙ (ap (λ vs. get_or vs i (plain no_tree)) same ∙ get_plain us i)
  where
    get_plain : (ts : List Tree) (i : ℕ) → get_or (map plain ts) i (plain no_tree) ≡ plain (get_or ts i no_tree)
    get_plain [] i = refl
    get_plain (t ∷ ts) zero = refl
    get_plain (t ∷ ts) (suc i) = get_plain ts i

-- a path that leads to a node of one leads to a node of the other
pub path_alike : (path : List ℕ) (t u : Tree) → plain t ≡ plain u → IsPath path t → IsPath path u
path_alike [] t u same p = tt
path_alike (i ∷ path) t u same p =
    let kids = kids_plain t u same in (
      subst (λ n. i < n) (many_alike (trees t.children) (trees u.children) kids) p.0,
      path_alike path _ _ (one_alike (trees t.children) (trees u.children) i kids) p.1,
    )

-- the nodes there have one plain tree
pub alike_at : (path : List ℕ) (t u : Tree) → plain t ≡ plain u → plain (tree_at path t) ≡ plain (tree_at path u)
alike_at [] t u same = same
alike_at (i ∷ path) t u same = alike_at path _ _ (one_alike (trees t.children) (trees u.children) i (kids_plain t u same))

inner_unbounded : (c : Content) → IsInner (unbounded c) ≡ IsInner c
inner_unbounded (AsLeaf kind text) = refl
inner_unbounded (AsError text message hints) = refl
inner_unbounded (AsInner kind bound) = refl

inner_alike : (t u : Tree) → plain t ≡ plain u → IsInner t.label.content ≡ IsInner u.label.content
inner_alike t u same = sym (inner_unbounded t.label.content) ∙ (ap (λ v. IsInner v.label.content) same ∙ inner_unbounded u.label.content)

range_alike : (from to : ℕ) (t u : Tree) → plain t ≡ plain u → RangeFits from to t → RangeFits from to u
range_alike from to t u same fits inner =
    let many = many_alike (trees t.children) (trees u.children) (kids_plain t u same) in
    let within = fits (subst (λ A. A) (sym (inner_alike t u same)) inner) in
    (within.0, subst (λ n. to ≤ n) many within.1)

-- an edit that fits one fits the other
pub fits_alike : (path : List ℕ) (from to : ℕ) (t u : Tree) → plain t ≡ plain u → EditFits path from to t → EditFits path from to u
fits_alike path from to t u same fits = (path_alike path t u same fits.0, range_alike from to (tree_at path t) (tree_at path u) (alike_at path t u same) fits.1)

-- an edit fits after a numbering exactly if it fitted before
pub fits_numbered : (id start end : ℕ) (before after : Tree) → IsNumbering id start end before after → (path : List ℕ) (from to : ℕ) → EditFits path from to after ↔ EditFits path from to before
fits_numbered id start end before after made path from to = (
  fits_alike path from to after before made.plain,
  fits_alike path from to before after (sym made.plain),
)
