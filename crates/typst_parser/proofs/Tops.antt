-- The levels of the trees that events make, the last tree first, and those of the trees of open frames.
use Rattle.std.proofs.Common.{◌≡◌, ℕ, zero, suc, ◌+◌, ◌≤◌, ◌<◌, max, List, [], ◌∷◌, ◌++◌, take, drop, reverse, refl, sym, ap, subst, ◌∙◌, arith}
use Rattle.std.proofs.lemmas.List.{reverse-reverse}
use Rattle.typst_parser.proofs.Heights.{after-reverse, height_after, high_take, high-reverse, NoHigher, reverse-cons}
use Rattle.typst_base.specs.declared.kind.SyntaxKind.{SyntaxKind}
use Rattle.typst_parser.specs.Actions.{as_kind, as_unclosed}
use Rattle.typst_parser.specs.Events.{greatest, levels, levels_onto}
use Rattle.typst_parser.specs.Frames.{grown}
use Rattle.typst_parser.specs.Lists.{changed_at}
use Rattle.typst_parser.specs.declared.event.Event.{Event}
use Rattle.typst_parser.specs.declared.event.Event.TheVariants.{Error, Leaf, Node}
use Rattle.typst_parser.specs.declared.stack.Frame.{Frame}

abbrev pub tops_onto : List ℕ → List Event → List ℕ
tops_onto hs [] = hs
tops_onto hs (e ∷ es) = tops_onto (height_after e hs) es

abbrev pub tops : List Event → List ℕ
tops es = tops_onto [] es

pub tops-append : (hs : List ℕ) (es fs : List Event) → tops_onto hs (es ++ fs) ≡ tops_onto (tops_onto hs es) fs
tops-append hs [] fs = refl
tops-append hs (e ∷ es) fs = tops-append (height_after e hs) es fs

pub kind_tops : (kind : SyntaxKind) (i : ℕ) (hs : List ℕ) (es : List Event) → tops_onto hs (changed_at (as_kind kind) i es) ≡ tops_onto hs es
kind_tops kind i hs [] = refl
kind_tops kind zero hs (Leaf old len ∷ es) = refl
kind_tops kind zero hs (Error fault len ∷ es) = refl
kind_tops kind zero hs (Node old children ∷ es) = refl
kind_tops kind (suc i) hs (e ∷ es) = kind_tops kind i (height_after e hs) es

pub unclosed_tops : (i : ℕ) (hs : List ℕ) (es : List Event) → tops_onto hs (changed_at as_unclosed i es) ≡ tops_onto hs es
unclosed_tops i hs [] = refl
unclosed_tops zero hs (Leaf kind len ∷ es) = refl
unclosed_tops zero hs (Error fault len ∷ es) = refl
unclosed_tops zero hs (Node kind children ∷ es) = refl
unclosed_tops (suc i) hs (e ∷ es) = unclosed_tops i (height_after e hs) es

-- they are the levels, in the other order
tops_levels : (hs : List ℕ) (es : List Event) → levels_onto (reverse hs) es ≡ reverse (tops_onto hs es)
tops_levels hs [] = refl
tops_levels hs (e ∷ es) = ap (λ (ns : List ℕ). levels_onto ns es) (after-reverse e hs) ∙ tops_levels (height_after e hs) es

pub levels_are : (es : List Event) → reverse (levels es) ≡ tops es
levels_are es = ap reverse (tops_levels [] es) ∙ reverse-reverse (tops es)

pub high_tops : (es fs : List Event) → NoHigher (levels es) (levels fs) → (n : ℕ) → greatest (take n (tops es)) ≤ greatest (take n (tops fs))
high_tops es fs h n =
    high_take n (tops es) (tops fs)
    (subst (λ (ks : List ℕ). NoHigher ks (tops fs)) (levels_are es)
    (subst (λ (ks : List ℕ). NoHigher (reverse (levels es)) ks) (levels_are fs) (high-reverse (levels es) (levels fs) h)))

greatest-append : (ns ms : List ℕ) → greatest (ns ++ ms) ≡ max (greatest ns) (greatest ms)
greatest-append [] ms = omega arith
greatest-append (n ∷ ns) ms = omega (arith, greatest-append ns ms)

greatest-reverse : (ns : List ℕ) → greatest (reverse ns) ≡ greatest ns
greatest-reverse [] = refl
greatest-reverse (n ∷ ns) = ap greatest (reverse-cons n ns) ∙ (omega (arith, greatest-append (reverse ns) (n ∷ []), greatest-reverse ns))

pub greatest_levels : (es : List Event) → greatest (levels es) ≡ greatest (tops es)
greatest_levels es = sym (greatest-reverse (levels es)) ∙ ap greatest (levels_are es)

-- events that are one tree
pub one_top : (k : ℕ) (hs : List ℕ) (es : List Event) → ((ns : List ℕ) → levels_onto ns es ≡ ns ++ k ∷ []) → tops_onto hs es ≡ k ∷ hs
one_top k hs es one =
    sym (reverse-reverse (tops_onto hs es))
    ∙ ap reverse (sym (tops_levels hs es) ∙ one (reverse hs) ∙ sym (reverse-cons k hs))
    ∙ reverse-reverse (k ∷ hs)

-- the greatest of the first ones

pub first_fewer : (n m : ℕ) (hs : List ℕ) → n ≤ m → greatest (take n hs) ≤ greatest (take m hs)
first_fewer zero m hs h = omega arith
first_fewer (suc n) zero hs h = absurd (omega arith)
first_fewer (suc n) (suc m) [] h = omega arith
first_fewer (suc n) (suc m) (k ∷ hs) h = omega (arith, first_fewer n m hs (omega arith))

first_all : (n : ℕ) (hs : List ℕ) → greatest (take n hs) ≤ greatest hs
first_all zero hs = omega arith
first_all (suc n) [] = omega arith
first_all (suc n) (k ∷ hs) = omega (arith, first_all n hs)

behind_first : (t r : ℕ) (hs : List ℕ) → greatest (take r (drop t hs)) ≤ greatest (take (r + t) hs)
behind_first zero r hs = first_fewer r (r + zero) hs (omega arith)
behind_first (suc t) zero hs = omega arith
behind_first (suc t) (suc r) [] = omega arith
behind_first (suc t) (suc r) (k ∷ hs) =
    let more : suc r + suc t ≡ suc (suc r + t) = omega arith in
    subst (λ n. greatest (take (suc r) (drop t hs)) ≤ greatest (take n (k ∷ hs))) (sym more) (omega (arith, behind_first t (suc r) hs))

behind_all : (t : ℕ) (hs : List ℕ) → greatest (drop t hs) ≤ greatest hs
behind_all zero hs = omega arith
behind_all (suc t) [] = omega arith
behind_all (suc t) (k ∷ hs) = omega (arith, behind_all t hs)

-- so many ones in front
abbrev pub ones : ℕ → List ℕ → List ℕ
ones zero hs = hs
ones (suc n) hs = ones n (1 ∷ hs)

first_one : (n : ℕ) (hs : List ℕ) → greatest (take (suc n) (1 ∷ hs)) ≤ max 1 (greatest (take n hs))
first_one n hs = omega arith

-- the trees of frames are the last ones, and have no more levels than the frames say

abbrev pub sum_trees : List Frame → ℕ
sum_trees [] = 0
sum_trees (f ∷ fs) = f.trees + sum_trees fs

abbrev pub most_of : List Frame → ℕ → ℕ
most_of [] levels = levels
most_of (f ∷ fs) levels = max f.levels (most_of fs levels)

abbrev pub Tall : List ℕ → List Frame → ℕ → ℕ → Type 0
Tall hs [] trees levels = greatest (take trees hs) ≤ levels
Tall hs (f ∷ fs) trees levels = (greatest (take (sum_trees (f ∷ fs) + trees) hs) ≤ most_of (f ∷ fs) levels) × Tall hs fs trees levels

pub tall_top : (hs : List ℕ) (fs : List Frame) (trees levels : ℕ) → Tall hs fs trees levels → greatest (take trees hs) ≤ levels
tall_top hs [] trees levels h = h
tall_top hs (f ∷ fs) trees levels h = tall_top hs fs trees levels h.1

pub most_least : (fs : List Frame) (levels : ℕ) → levels ≤ most_of fs levels
most_least [] levels = omega arith
most_least (f ∷ fs) levels = omega (arith, most_least fs levels)

-- one more tree in the innermost frame
pub tall_push : (k : ℕ) (hs : List ℕ) (fs : List Frame) (trees more levels : ℕ) → k ≤ levels → more ≤ trees + 1 → Tall hs fs trees levels → Tall (k ∷ hs) fs more levels
tall_push k hs [] trees more levels low few h =
    let all : greatest (take more (k ∷ hs)) ≤ greatest (take (suc trees) (k ∷ hs)) = first_fewer more (suc trees) (k ∷ hs) (omega (arith, few)) in
    omega (arith, all, low, h)
tall_push k hs (f ∷ fs) trees more levels low few h =
    let n : ℕ = sum_trees (f ∷ fs) + trees in
    let all : greatest (take (sum_trees (f ∷ fs) + more) (k ∷ hs)) ≤ greatest (take (suc n) (k ∷ hs)) = first_fewer (sum_trees (f ∷ fs) + more) (suc n) (k ∷ hs) (omega (arith, few)) in
    (omega (arith, all, low, h.0, most_least (f ∷ fs) levels), tall_push k hs fs trees more levels low few h.1)

-- fewer trees, and no fewer levels
pub tall_less : (hs : List ℕ) (fs : List Frame) (trees fewer levels : ℕ) → fewer ≤ trees → Tall hs fs trees levels → Tall hs fs fewer levels
tall_less hs [] trees fewer levels few h = omega (arith, h, first_fewer fewer trees hs few)
tall_less hs (f ∷ fs) trees fewer levels few h =
    (omega (arith, h.0, first_fewer (sum_trees (f ∷ fs) + fewer) (sum_trees (f ∷ fs) + trees) hs (omega (arith, few))), tall_less hs fs trees fewer levels few h.1)

-- white space in front, which one of the frames gets
module _ (n j : ℕ) (hs : List ℕ) where
  first_ones : (m i : ℕ) (ks : List ℕ) → greatest (take m (ones i ks)) ≤ max 1 (greatest (take m ks))
  first_ones m zero ks = omega arith
  first_ones zero (suc i) ks = omega (arith, first_ones zero i (1 ∷ ks))
  first_ones (suc m) (suc i) ks =
      let one : greatest (take m ks) ≤ greatest (take (suc m) ks) = first_fewer m (suc m) ks (omega arith) in
      omega (arith, first_ones (suc m) i (1 ∷ ks), one)

  more_ones : (m i : ℕ) (ks : List ℕ) → greatest (take (m + i) (ones i ks)) ≤ max 1 (greatest (take m ks))
  more_ones m zero ks = omega (arith, ap (λ k. greatest (take k ks)) (by m))
    where
      by : (m : ℕ) → m + zero ≡ m
      by m = omega arith
  more_ones m (suc i) ks =
      let one : m + suc i ≡ suc m + i = omega arith in
      omega (arith, ap (λ k. greatest (take k (ones i (1 ∷ ks)))) one, more_ones (suc m) i (1 ∷ ks))

-- white space in the innermost frame
pub tall_white : (n : ℕ) (hs : List ℕ) (fs : List Frame) (trees more levels : ℕ) → 1 ≤ levels → more ≤ trees + n → Tall hs fs trees levels → Tall (ones n hs) fs more levels
tall_white n hs [] trees more levels low few h =
    let all : greatest (take more (ones n hs)) ≤ greatest (take (trees + n) (ones n hs)) = first_fewer more (trees + n) (ones n hs) few in
    omega (arith, all, low, h, more_ones n 0 hs trees n hs)
tall_white n hs (f ∷ fs) trees more levels low few h =
    let m : ℕ = sum_trees (f ∷ fs) + trees in
    let all : greatest (take (sum_trees (f ∷ fs) + more) (ones n hs)) ≤ greatest (take (m + n) (ones n hs)) = first_fewer (sum_trees (f ∷ fs) + more) (m + n) (ones n hs) (omega (arith, few)) in
    (omega (arith, all, low, h.0, most_least (f ∷ fs) levels, more_ones n 0 hs m n hs), tall_white n hs fs trees more levels low few h.1)

-- or in none of these frames
tall_before : (n : ℕ) (hs : List ℕ) (fs : List Frame) (trees levels : ℕ) → 1 ≤ levels → Tall hs fs trees levels → Tall (ones n hs) fs trees levels
tall_before n hs fs trees levels low h = tall_white n hs fs trees trees levels low (omega arith) h

grown_trees : (n : ℕ) (f : Frame) → (grown n f).trees ≤ f.trees + n
grown_trees n f = omega arith

sum_changed : (n j : ℕ) (fs : List Frame) → sum_trees (changed_at (grown n) j fs) ≤ sum_trees fs + n
sum_changed n j [] = omega arith
sum_changed n zero (f ∷ fs) = omega (arith, grown_trees n f)
sum_changed n (suc j) (f ∷ fs) = omega (arith, sum_changed n j fs)

most_changed : (n j : ℕ) (fs : List Frame) (levels : ℕ) → most_of (changed_at (grown n) j fs) levels ≡ most_of fs levels
most_changed n j [] levels = refl
most_changed n zero (f ∷ fs) levels = refl
most_changed n (suc j) (f ∷ fs) levels = ap (max f.levels) (most_changed n j fs levels)

-- or in one of those around it
pub tall_around : (n j : ℕ) (hs : List ℕ) (fs : List Frame) (trees levels : ℕ) → 1 ≤ levels → Tall hs fs trees levels → Tall (ones n hs) (changed_at (grown n) j fs) trees levels
tall_around n j hs [] trees levels low h = tall_before n hs [] trees levels low h
tall_around n zero hs (f ∷ fs) trees levels low h =
    let m : ℕ = sum_trees (f ∷ fs) + trees in
    let all : greatest (take ((grown n f).trees + sum_trees fs + trees) (ones n hs)) ≤ greatest (take (m + n) (ones n hs)) =
    first_fewer ((grown n f).trees + sum_trees fs + trees) (m + n) (ones n hs) (omega (arith, grown_trees n f)) in
    (omega (arith, all, low, h.0, most_least (f ∷ fs) levels, more_ones n 0 hs m n hs), tall_before n hs fs trees levels low h.1)
tall_around n (suc j) hs (f ∷ fs) trees levels low h =
    let m : ℕ = sum_trees (f ∷ fs) + trees in
    let all : greatest (take (f.trees + sum_trees (changed_at (grown n) j fs) + trees) (ones n hs)) ≤ greatest (take (m + n) (ones n hs)) =
    first_fewer (f.trees + sum_trees (changed_at (grown n) j fs) + trees) (m + n) (ones n hs) (omega (arith, sum_changed n j fs)) in (
      omega (arith, all, low, h.0, most_least (f ∷ fs) levels, more_ones n 0 hs m n hs, most_changed n j fs levels),
      tall_around n j hs fs trees levels low h.1,
    )

-- a frame opens, and takes over so many of the last trees of the one around it
pub tall_cover : (n : ℕ) (hs : List ℕ) (fs : List Frame) (f : Frame) (trees : ℕ) → greatest (take n hs) ≤ 2 → f.trees + n ≤ trees → Tall hs fs trees f.levels → Tall hs (fs ++ f ∷ []) n 2
tall_cover n hs [] f trees low is h = (omega (arith, h, first_fewer (f.trees + 0 + n) trees hs (omega (arith, is))), low)
tall_cover n hs (g ∷ fs) f trees low is h =
    let sums : (fs : List Frame) → sum_trees (fs ++ f ∷ []) ≡ sum_trees fs + f.trees = sum_push f in (
      omega (arith, h.0, most_push f fs, first_fewer (g.trees + sum_trees (fs ++ f ∷ []) + n) (g.trees + sum_trees fs + trees) hs (omega (arith, sums fs, is))),
      tall_cover n hs fs f trees low is h.1,
    )
  where
    sum_push : (f : Frame) (fs : List Frame) → sum_trees (fs ++ f ∷ []) ≡ sum_trees fs + f.trees
    sum_push f [] = omega arith
    sum_push f (g ∷ fs) = omega (arith, sum_push f fs)

    most_push : (f : Frame) (fs : List Frame) → most_of fs f.levels ≤ most_of (fs ++ f ∷ []) 2
    most_push f [] = omega arith
    most_push f (g ∷ fs) = omega (arith, most_push f fs)

-- a frame opens
pub tall_open : (hs : List ℕ) (fs : List Frame) (f : Frame) → Tall hs fs f.trees f.levels → Tall hs (fs ++ f ∷ []) 0 2
tall_open hs fs f h = tall_cover 0 hs fs f f.trees (omega arith) (omega arith) h

-- a frame ends
pub tall_return : (hs : List ℕ) (fs : List Frame) (f : Frame) (trees levels more : ℕ) → more ≤ f.trees + trees → Tall hs (fs ++ f ∷ []) trees levels → Tall hs fs more (max f.levels levels)
tall_return hs [] f trees levels more few h = omega (arith, h.0, first_fewer more (f.trees + 0 + trees) hs (omega (arith, few)))
tall_return hs (g ∷ fs) f trees levels more few h = (
  omega (arith, h.0, most_back fs f levels, first_fewer (g.trees + sum_trees fs + more) (g.trees + sum_trees (fs ++ f ∷ []) + trees) hs (omega (arith, few, sum_back fs f))),
  tall_return hs fs f trees levels more few h.1,
)
  where
    sum_back : (fs : List Frame) (f : Frame) → sum_trees (fs ++ f ∷ []) ≡ sum_trees fs + f.trees
    sum_back [] f = omega arith
    sum_back (g ∷ fs) f = omega (arith, sum_back fs f)

    most_back : (fs : List Frame) (f : Frame) (levels : ℕ) → most_of (fs ++ f ∷ []) levels ≤ most_of fs (max f.levels levels)
    most_back [] f levels = omega arith
    most_back (g ∷ fs) f levels = omega (arith, most_back fs f levels)

-- the trees of the innermost frame become one node
pub tall_join : (hs : List ℕ) (fs : List Frame) (trees levels : ℕ) → greatest (take trees hs) ≤ levels → Tall hs fs trees levels
    → Tall (suc (greatest (take trees hs)) ∷ drop trees hs) fs 1 (suc levels)
tall_join hs [] trees levels low h = omega (arith, low)
tall_join hs (f ∷ fs) trees levels low h =
    let r : ℕ = sum_trees (f ∷ fs) in
    let one : r + 1 ≡ suc r = omega arith in (
      omega (arith, ap (λ n. greatest (take n (suc (greatest (take trees hs)) ∷ drop trees hs))) one, behind_first trees r hs, h.0, low, most_least (f ∷ fs) (suc levels), most_more (f ∷ fs) levels),
      tall_join hs fs trees levels low h.1,
    )
  where
    most_more : (fs : List Frame) (levels : ℕ) → most_of fs levels ≤ most_of fs (suc levels)
    most_more [] levels = omega arith
    most_more (f ∷ fs) levels = omega (arith, most_more fs levels)

-- the trees have no more levels than before
pub tall_lower : (ks hs : List ℕ) (fs : List Frame) (trees levels : ℕ) → ((n : ℕ) → greatest (take n ks) ≤ greatest (take n hs)) → Tall hs fs trees levels → Tall ks fs trees levels
tall_lower ks hs [] trees levels low h = omega (arith, h, low trees)
tall_lower ks hs (f ∷ fs) trees levels low h = (omega (arith, h.0, low (sum_trees (f ∷ fs) + trees)), tall_lower ks hs fs trees levels low h.1)

-- the greatest of all

pub all_join : (trees most levels : ℕ) (hs : List ℕ) → greatest (take trees hs) ≤ levels → levels < most → greatest hs ≤ most → greatest (suc (greatest (take trees hs)) ∷ drop trees hs) ≤ most
all_join trees most levels hs low less all = omega (arith, low, less, all, behind_all trees hs)

pub all_ones : (n most : ℕ) (hs : List ℕ) → 1 ≤ most → greatest hs ≤ most → greatest (ones n hs) ≤ most
all_ones zero most hs one all = all
all_ones (suc n) most hs one all = all_ones n most (1 ∷ hs) one (omega (arith, one, all))
