-- The replaced children that stay: those that the replacement has alike, at its beginning and at its end.
use Rattle.std.specs.Prelude.{ℕ, ◌≡◌, ◌+◌, ◌≤◌, List, length, map, take, drop, reverse, slice_range}
use Rattle.std.specs.List.{common_prefix_len}
use Rattle.typst_node.specs.Tree.{Tree}
use Rattle.typst_node.specs.Plain.{plain}
use Rattle.typst_node.specs.Equal.{tree_eq}

-- how many trees at the beginning of both lists have equal plain trees, one by one
abbrev pub common_first : List Tree → List Tree → ℕ
common_first ts us = common_prefix_len (λ t u. tree_eq (plain t) (plain u)) ts us

-- the first `n` trees of both lists have equal plain trees, and no longer beginnings have
pub record IsCommonBeginning (ts us : List Tree) (n : ℕ) : Type 0 where
  pub within : n ≤ length ts
  pub within_others : n ≤ length us
  pub alike : map plain (take n ts) ≡ map plain (take n us)
  pub longest : (m : ℕ) → m ≤ length ts → m ≤ length us → map plain (take m ts) ≡ map plain (take m us) → m ≤ n

-- how many trees at the end of both lists have equal plain trees
abbrev pub common_last : List Tree → List Tree → ℕ
common_last ts us = common_first (reverse ts) (reverse us)

-- how many of the children from one index up to another stay at their beginning when others replace them
abbrev pub kept_first : ℕ → ℕ → List Tree → List Tree → ℕ
kept_first from to others ts = common_first (slice_range ts from to) others

-- how many of them stay at their end, out of the rest of both lists
abbrev pub kept_last : ℕ → ℕ → List Tree → List Tree → ℕ
kept_last from to others ts =
    common_last (slice_range ts (from + kept_first from to others ts) to) (drop (kept_first from to others ts) others)

-- the children that stay are the longest common beginning, and the longest common ending of the rest of both lists
pub record StaysLongest (from to : ℕ) (others ts : List Tree) : Type 0 where
  pub first : IsCommonBeginning (slice_range ts from to) others (kept_first from to others ts)
  pub last :
      IsCommonBeginning (reverse (slice_range ts (from + kept_first from to others ts) to))
      (reverse (drop (kept_first from to others ts) others)) (kept_last from to others ts)
