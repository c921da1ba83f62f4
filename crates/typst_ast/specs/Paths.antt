-- The file stem of a path.
use Rattle.std.specs.Prelude.{ℕ, ◌<◌, ◌≡◌, ◌≢◌, ◌==◌, ◌⊎◌, Bool, true, false, not, List, [], ◌∷◌, ◌++◌, length, drop, filter, slice_index, Option, Some, None, MatchOption, codes}
use Rattle.std.specs.List.{slice_split}
use Rattle.typst_node.specs.Children.{last_of}

-- a part of a path counts unless it is empty or a dot, which is byte 46
abbrev pub is_part : List ℕ → Bool
is_part [] = false
is_part (b ∷ []) = not (b == 46)
is_part (b ∷ (c ∷ bs)) = true

-- the parts of a path that count; the path is split at each slash, which is byte 47
abbrev pub path_parts : List ℕ → List (List ℕ)
path_parts path = filter is_part (slice_split (λ b. b == 47) path)

-- the last part that counts
abbrev pub last_part : List ℕ → Option (List ℕ)
last_part path = last_of (path_parts path)

-- no byte is a dot
abbrev pub HasNoDot : List ℕ → Type 0
HasNoDot bs = (i : ℕ) → i < length bs → slice_index bs i ≢ 46

-- the stem of a part is the text before its last dot; if no text comes before that dot, or if there is no dot, it is
-- the whole part
abbrev pub IsStemOf : List ℕ → List ℕ → Type 0
IsStemOf part stem =
    ((stem ≢ []) × ((extension : List ℕ) × (part ≡ stem ++ 46 ∷ extension) × HasNoDot extension))
    ⊎ ((stem ≡ part) × HasNoDot (drop 1 part))

-- the file stem of a path is the stem of its last part; there is none if that is `..` or if no part counts
abbrev pub IsFileStemOf : List ℕ → Option (List ℕ) → Type 0
IsFileStemOf path stem =
    MatchOption stem
    ((last_part path ≡ None) ⊎ (last_part path ≡ Some (codes "..")))
    (λ bs. (part : List ℕ) × (last_part path ≡ Some part) × (part ≢ codes "..") × IsStemOf part bs)
