-- Trees that are numbered one after the other.
use Rattle.std.proofs.Common.{ℕ, ◌+◌, ◌≤◌, List, [], ◌∷◌, ◌++◌, arith}
use Rattle.typst_node.specs.Tree.{Forest, none, tree, Tree, forest}
use Rattle.typst_node.specs.Labels.{number, bound}
use Rattle.typst_node.specs.Interval.{IsWithin, IsTreeWithin}
use Rattle.typst_node.specs.OpenNumbers.{open_from, open_to}

pub within_le : (file start end : ℕ) (f : Forest) → IsWithin file start end f → start ≤ end
within_le file start end none h = h
within_le file start end (tree l c r) h = omega (arith, within_le file (number l + 1) (bound l) c h.2, within_le file (bound l) end r h.3)

pub within_wider : (file a b a' b' : ℕ) (f : Forest) → IsWithin file a b f → a' ≤ a → b ≤ b' → IsWithin file a' b' f
within_wider file a b a' b' none h low high = omega arith
within_wider file a b a' b' (tree l c r) h low high = (h.0, omega (arith, h.1), h.2, within_wider file (bound l) b (bound l) b' r h.3 (omega arith) high)

pub within_append : (file a b c : ℕ) (xs ys : List Tree) → IsWithin file a b (forest xs) → IsWithin file b c (forest ys) → IsWithin file a c (forest (xs ++ ys))
within_append file a b c [] ys h k = within_wider file b c a c (forest ys) k h (omega arith)
within_append file a b c (x ∷ xs) ys h k = (h.0, h.1, h.2, within_append file (bound x.label) b c xs ys h.3 k)

pub first_within : (file a b : ℕ) (x : Tree) (xs : List Tree) → IsWithin file a b (forest (x ∷ xs)) → IsTreeWithin file a b x
first_within file a b x xs h = (h.0, h.1, h.2, within_le file (bound x.label) b (forest xs) h.3)

pub within_front : (file a b : ℕ) (xs ys : List Tree) → IsWithin file a b (forest (xs ++ ys)) → IsWithin file a (open_from a xs) (forest xs)
within_front file a b [] ys h = omega arith
within_front file a b (x ∷ xs) ys h = (h.0, h.1, h.2, within_front file (bound x.label) b xs ys h.3)

pub within_back : (file a b : ℕ) (xs ys : List Tree) → IsWithin file a b (forest (xs ++ ys)) → IsWithin file (open_from a xs) b (forest ys)
within_back file a b [] ys h = h
within_back file a b (x ∷ xs) ys h = within_back file (bound x.label) b xs ys h.3

pub within_first : (file a b : ℕ) (ys : List Tree) → IsWithin file a b (forest ys) → IsWithin file (open_to b ys) b (forest ys)
within_first file a b [] h = omega arith
within_first file a b (y ∷ ys) h = (h.0, omega arith, h.2, h.3)

-- other trees in a window, numbered within its open numbers
pub within_window : (file a b x y : ℕ) (before old new behind : List Tree) → IsWithin file a b (forest (before ++ (old ++ behind))) → IsWithin file x y (forest new) → open_from a before ≤ x → y ≤ open_to b behind → IsWithin file a b (forest (before ++ (new ++ behind)))
within_window file a b x y before old new behind h window low high =
    within_append file a (open_from a before) b before (new ++ behind) (within_front file a b before (old ++ behind) h)
    (within_append file (open_from a before) (open_to b behind) b new behind (within_wider file x y (open_from a before) (open_to b behind) (forest new) window low high)
    (within_first file _ b behind (within_back file _ b old behind (within_back file a b before (old ++ behind) h))))
