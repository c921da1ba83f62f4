-- The content of a line comment.
use Rattle.std.specs.Prelude.{ℕ, List, ◌++◌, codes, ◌≡◌, ◌≢◌, ◌⊎◌}

-- the content of a text is the part after a leading `//`; of any other text it is the whole text
abbrev pub IsLineCommentText : List ℕ → List ℕ → Type 0
IsLineCommentText bs said =
    (bs ≡ codes "//" ++ said) ⊎ (((rest : List ℕ) → bs ≢ codes "//" ++ rest) × (said ≡ bs))
