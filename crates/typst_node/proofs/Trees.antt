-- Lists of trees, and trees side by side.
use Rattle.std.proofs.Common.{◌≡◌, ◌%◌, ◌^◌, ℕ, suc, zero, ◌+◌, ◌<◌, ◌≤◌, List, [], ◌∷◌, ◌++◌, length, take, drop, get_or, refl, sym, ap, ◌∙◌, arith, length-append, append_assoc, add-one, drop-cons}
use Rattle.typst_node.specs.Tree.{Label, Forest, none, tree, Tree, trees, forest}
use Rattle.typst_node.specs.Preorder.{preorder, nodes}
use Rattle.typst_node.specs.Text.{own_text, joined, text, text_of_all}
use Rattle.typst_node.specs.Count.{count, count_of_all}
use Rattle.std.specs.Prelude.{Option, Some, None, IfSome, MatchOption, slice_index}
use Rattle.typst_node.specs.ChildEnds.{ends_from, AreEnds}

pub trees_of_forest : (ts : List Tree) → trees (forest ts) ≡ ts
trees_of_forest [] = refl
trees_of_forest (t ∷ ts) = ap (λ us. t ∷ us) (trees_of_forest ts)

pub forest-trees : (f : Forest) → forest (trees f) ≡ f
forest-trees none = refl
forest-trees (tree l c r) = ap (λ s. tree l c s) (forest-trees r)

pub joined-append : (xs ys : List Label) → joined (xs ++ ys) ≡ joined xs ++ joined ys
joined-append [] ys = refl
joined-append (x ∷ xs) ys = ap (λ s. own_text x ++ s) (joined-append xs ys) ∙ sym (append_assoc (own_text x) (joined xs) (joined ys))

-- the text and the nodes of one more tree
pub text_of_all-cons : (t : Tree) (ts : List Tree) → text_of_all (t ∷ ts) ≡ text t ++ text_of_all ts
text_of_all-cons t ts = joined-append (nodes t) (preorder (forest ts))

pub length-text_of_all-cons : (t : Tree) (ts : List Tree) → length (text_of_all (t ∷ ts)) ≡ length (text t) + length (text_of_all ts)
length-text_of_all-cons t ts = ap length (text_of_all-cons t ts) ∙ length-append (text t) (text_of_all ts)

pub count_of_all-cons : (t : Tree) (ts : List Tree) → count_of_all (t ∷ ts) ≡ count t + count_of_all ts
count_of_all-cons t ts = length-append (nodes t) (preorder (forest ts))

pub length_of_ends : (at : ℕ) (ts : List Tree) → length (ends_from at ts) ≡ length ts
length_of_ends at [] = refl
length_of_ends at (t ∷ ts) = ap suc (length_of_ends (at + length (text t)) ts)

-- what is kept of ends is the same where they are
pub ends_alike : (kept : Option (List ℕ)) (ts us : List Tree) → ends_from 0 ts ≡ ends_from 0 us → AreEnds kept ts → AreEnds kept us
ends_alike None ts us same h = omega (arith, length_of_ends 0 ts, length_of_ends 0 us, ap length same)
ends_alike (Some ends) ts us same h = h ∙ same

-- a child has a place among the ends that are kept
pub within_ends : (kept : Option (List ℕ)) (ts : List Tree) (i : ℕ) → i < length ts → AreEnds kept ts → IfSome kept (λ ends. i < length ends)
within_ends None ts i h few = tt
within_ends (Some ends) ts i h same = omega (arith, ap length same, length_of_ends 0 ts)

end_at_any : (at : ℕ) (ts : List Tree) (i d : ℕ) → i < length ts → get_or (ends_from at ts) i d ≡ (at + length (text_of_all (take (suc i) ts))) % 2 ^ 32
end_at_any at [] i d h = absurd (omega arith)
end_at_any at (t ∷ ts) zero d h = omega (arith, length-text_of_all-cons t [])
end_at_any at (t ∷ ts) (suc i) d h = omega (arith, length-text_of_all-cons t (take (suc i) ts), end_at_any (at + length (text t)) ts i d (omega arith))

-- where a child's text ends
pub child_end_is : (ts : List Tree) (i d : ℕ) → i < length ts → get_or (ends_from 0 ts) i d ≡ length (text_of_all (take (i + 1) ts)) % 2 ^ 32
child_end_is ts i d h = rw add-one (omega (arith, end_at_any 0 ts i d h))

-- it is what is read of the ends that are kept
pub kept_end_is : (kept : Option (List ℕ)) (ts : List Tree) (i end : ℕ) → i < length ts → AreEnds kept ts → MatchOption kept (Some end ≡ None) (λ ends. Some end ≡ Some (slice_index ends i)) → end ≡ length (text_of_all (take (i + 1) ts)) % 2 ^ 32
kept_end_is None ts i end h few read = cc
kept_end_is (Some ends) ts i end h same read = let is : end ≡ slice_index ends i = cc in is ∙ (ap (λ es. slice_index es i) same ∙ child_end_is ts i 0 h)

pub drop_next : (ts : List Tree) (i : ℕ) (d : Tree) → i < length ts → drop i ts ≡ get_or ts i d ∷ drop (i + 1) ts
drop_next ts i d h = rw add-one (drop-cons ts i d h)

-- the tree at a place, and those after it
pub count_drop : (ts : List Tree) (i : ℕ) (d : Tree) → i < length ts → count_of_all (drop i ts) ≡ count (get_or ts i d) + count_of_all (drop (i + 1) ts)
count_drop ts i d h = ap count_of_all (drop_next ts i d h) ∙ count_of_all-cons (get_or ts i d) (drop (i + 1) ts)

pub count_at : (ts : List Tree) (i : ℕ) (d : Tree) → i < length ts → count (get_or ts i d) ≤ count_of_all ts
count_at [] i d h = absurd (omega arith)
count_at (t ∷ ts) zero d h = omega (arith, count_of_all-cons t ts)
count_at (t ∷ ts) (suc i) d h = omega (arith, count_of_all-cons t ts, count_at ts i d (omega arith))

pub count_of_trees : (f : Forest) → count_of_all (trees f) ≡ length (preorder f)
count_of_trees f = ap (λ g. length (preorder g)) (forest-trees f)
