-- The children that were parsed anew, without those that both lists have alike.
use Rattle.std.proofs.Common.{◌≡◌, ℕ, ◌+◌, ◌-◌, ◌≤◌, List, length, take, drop, ap, ◌∙◌, arith, length-take, length-drop}
use Rattle.std.specs.Prelude.{slice_range}
use Rattle.std.proofs.lemmas.List.{drop-drop, drop-take, take_all}
use Rattle.typst_node.specs.Tree.{Tree}
use Rattle.typst_node.specs.ChangedChildren.{common_first, common_last, kept_first, kept_last}

-- a part without its first trees
drop_part : (ts part : List Tree) (from to first : ℕ) → part ≡ slice_range ts from to → first ≤ length part → drop first part ≡ slice_range ts (from + first) to
drop_part ts part from to first is within =
    let long : length part ≤ to - from = omega (arith, ap length is, length-take (to - from) (drop from ts)) in
    let split : to - from ≡ first + (to - (from + first)) = omega arith in
    ap (drop first) (is ∙ ap (λ n. take n (drop from ts)) split)
    ∙ (drop-take first (to - (from + first)) (drop from ts) ∙ ap (take (to - (from + first))) (drop-drop first from ts))

-- a slice up to the end
pub rest_of : (ts : List Tree) (first : ℕ) → take (length ts - first) (drop first ts) ≡ drop first ts
rest_of ts first = take_all (length ts - first) (drop first ts) (omega (arith, length-drop first ts))

pub first_kept : (olds news old_part new_part : List Tree) (from to old_to first : ℕ) → old_part ≡ slice_range olds from old_to → new_part ≡ slice_range news from to → first ≡ common_first old_part new_part
    → first ≡ kept_first from old_to (slice_range news from to) olds
first_kept olds news old_part new_part from to old_to first old_is new_is is =
    is ∙ (ap (λ us. common_first us new_part) old_is ∙ ap (common_first (slice_range olds from old_to)) new_is)

pub last_kept : (olds news old_part new_part : List Tree) (from to old_to first last : ℕ) → old_part ≡ slice_range olds from old_to → new_part ≡ slice_range news from to → first ≡ common_first old_part new_part
    → first ≤ length old_part → last ≡ common_last (take (length old_part - first) (drop first old_part)) (take (length new_part - first) (drop first new_part))
    → last ≡ kept_last from old_to (slice_range news from to) olds
last_kept olds news old_part new_part from to old_to first last old_is new_is first_is within is =
    let kept : first ≡ kept_first from old_to (slice_range news from to) olds = first_kept olds news old_part new_part from to old_to first old_is new_is first_is in
    is
    ∙ (ap (λ us. common_last us (take (length new_part - first) (drop first new_part))) (rest_of old_part first ∙ drop_part olds old_part from old_to first old_is within)
    ∙ (ap (common_last (slice_range olds (from + first) old_to)) (rest_of new_part first ∙ ap (drop first) new_is)
    ∙ ap (λ n. common_last (slice_range olds (from + n) old_to) (drop n (slice_range news from to))) kept))
