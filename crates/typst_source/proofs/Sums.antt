-- Sums of extents.
use Rattle.std.proofs.Common.{◌≡◌, ℕ, zero, suc, max, ◌+◌, ◌-◌, ◌<◌, ◌≤◌, List, [], ◌∷◌, length, take, drop, get_or, refl, ap, arith, length-append, ◌∙◌}
use Rattle.std.specs.List.{AllByRecursion, take-map}
use Rattle.std.proofs.lemmas.List.{drop-drop}
use Rattle.typst_source.specs.Blocks.{Block, bytes_of, reach_of, trees_of}
use Rattle.typst_source.specs.Extents.{extent_of, extents_of, bytes_in, nodes_in, reach_in, AreSums}
use Rattle.typst_source.specs.declared.extents.Extent.{Extent}
use Rattle.typst_source.specs.declared.extents.Sums.{Sums}

pub bytes_more : (es : List Extent) (k : ℕ) (d : Extent) → k < length es → bytes_in (take (k + 1) es) ≡ bytes_in (take k es) + (get_or es k d).bytes
bytes_more [] k d h = absurd (omega arith)
bytes_more (e ∷ es) zero d h = omega arith
bytes_more (e ∷ es) (suc k) d h = let i : suc k + 1 ≡ suc (k + 1) = omega arith in omega (arith, bytes_more es k d (omega arith), ap (λ i. bytes_in (take i (e ∷ es))) i)

pub nodes_more : (es : List Extent) (k : ℕ) (d : Extent) → k < length es → nodes_in (take (k + 1) es) ≡ nodes_in (take k es) + (get_or es k d).nodes
nodes_more [] k d h = absurd (omega arith)
nodes_more (e ∷ es) zero d h = omega arith
nodes_more (e ∷ es) (suc k) d h = let i : suc k + 1 ≡ suc (k + 1) = omega arith in omega (arith, nodes_more es k d (omega arith), ap (λ i. nodes_in (take i (e ∷ es))) i)

pub bytes_parts : (es : List Extent) (k : ℕ) → bytes_in (take k es) + bytes_in (drop k es) ≡ bytes_in es
bytes_parts es zero = omega arith
bytes_parts [] (suc k) = refl
bytes_parts (e ∷ es) (suc k) = omega (arith, bytes_parts es k)

pub nodes_parts : (es : List Extent) (k : ℕ) → nodes_in (take k es) + nodes_in (drop k es) ≡ nodes_in es
nodes_parts es zero = omega arith
nodes_parts [] (suc k) = refl
nodes_parts (e ∷ es) (suc k) = omega (arith, nodes_parts es k)

pub looked_at : (es : List Extent) (k : ℕ) (d : Extent) → AllByRecursion (λ e. e.bytes ≤ e.reach) es → k < length es → (get_or es k d).bytes ≤ (get_or es k d).reach
looked_at [] k d all h = absurd (omega arith)
looked_at (e ∷ es) zero d all h = all.0
looked_at (e ∷ es) (suc k) d all h = looked_at es k d all.1 (omega arith)

pub reach_more : (es : List Extent) (k : ℕ) (d : Extent) → AllByRecursion (λ e. e.bytes ≤ e.reach) es → k < length es
    → reach_in (take (k + 1) es) ≡ max (reach_in (take k es)) (bytes_in (take k es) + (get_or es k d).reach)
reach_more [] k d all h = absurd (omega arith)
reach_more (e ∷ es) zero d all h = omega (arith, all.0)
reach_more (e ∷ es) (suc k) d all h = let i : suc k + 1 ≡ suc (k + 1) = omega arith in omega (arith, reach_more es k d all.1 (omega arith), ap (λ i. reach_in (take i (e ∷ es))) i)

pub bytes_reach : (es : List Extent) (k : ℕ) → AllByRecursion (λ e. e.bytes ≤ e.reach) es → bytes_in (take k es) ≤ reach_in (take k es)
bytes_reach es zero all = omega arith
bytes_reach [] (suc k) all = omega arith
bytes_reach (e ∷ es) (suc k) all = omega (arith, bytes_reach es k all.1, all.0)

pub bytes_extents : (bs : List Block) → bytes_in (extents_of bs) ≡ bytes_of bs
bytes_extents [] = refl
bytes_extents (b ∷ bs) = omega (arith, bytes_extents bs)

pub nodes_extents : (bs : List Block) → nodes_in (extents_of bs) ≡ length (trees_of bs)
nodes_extents [] = refl
nodes_extents (b ∷ bs) = omega (arith, nodes_extents bs, length-append b.trees (trees_of bs))

reach_extents : (bs : List Block) → reach_in (extents_of bs) ≡ reach_of bs
reach_extents [] = refl
reach_extents (b ∷ bs) = omega (arith, reach_extents bs)

-- the sums of the first blocks' extents
pub bytes_taken : (k : ℕ) (bs : List Block) → bytes_in (take k (extents_of bs)) ≡ bytes_of (take k bs)
bytes_taken k bs = ap bytes_in (take-map extent_of k bs) ∙ bytes_extents (take k bs)

pub nodes_taken : (k : ℕ) (bs : List Block) → nodes_in (take k (extents_of bs)) ≡ length (trees_of (take k bs))
nodes_taken k bs = ap nodes_in (take-map extent_of k bs) ∙ nodes_extents (take k bs)

pub reach_taken : (k : ℕ) (bs : List Block) → reach_in (take k (extents_of bs)) ≡ reach_of (take k bs)
reach_taken k bs = ap reach_in (take-map extent_of k bs) ∙ reach_extents (take k bs)

pub bytes_behind : (es : List Extent) (i j : ℕ) → i ≤ j → bytes_in (drop j es) ≤ bytes_in (drop i es)
bytes_behind es i j h =
    let parts : i + (j - i) ≡ j = omega arith in
    omega (arith, bytes_parts (drop i es) (j - i), ap bytes_in (drop-drop (j - i) i es), ap (λ k. bytes_in (drop k es)) parts)

pub some_left : (es : List Extent) (k : ℕ) → 0 < bytes_in (drop k es) → k < length es
some_left [] zero h = absurd (omega arith)
some_left [] (suc k) h = absurd (omega arith)
some_left (e ∷ es) zero h = omega arith
some_left (e ∷ es) (suc k) h = omega (arith, some_left es k h)

-- the sums of one extent more
pub sums_more : (es : List Extent) (now : Sums) (d : Extent) → AreSums es now → now.blocks < length es
    → AreSums es (record { blocks = now.blocks + 1; bytes = now.bytes + (get_or es now.blocks d).bytes; nodes = now.nodes + (get_or es now.blocks d).nodes })
sums_more es now d s some = record {
  within = omega arith;
  bytes = omega (arith, bytes_more es now.blocks d some, s.bytes);
  nodes = omega (arith, nodes_more es now.blocks d some, s.nodes);
}
