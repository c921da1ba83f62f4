-- The content of a block comment.
use Rattle.std.specs.Prelude.{ℕ, List, ◌++◌, codes, ◌≡◌, ◌≢◌, ◌⊎◌}

-- the content of a text is the body between `/*` and `*/`; of any other text it is the whole text
abbrev pub IsBlockCommentText : List ℕ → List ℕ → Type 0
IsBlockCommentText bs said =
    (bs ≡ codes "/*" ++ (said ++ codes "*/"))
    ⊎ (((body : List ℕ) → bs ≢ codes "/*" ++ (body ++ codes "*/")) × (said ≡ bs))
