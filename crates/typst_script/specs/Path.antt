-- The words that are paths.
use Rattle.std.specs.Prelude.{ℕ, ◌≡◌, ◌⊎◌, List, [], ◌∷◌, ◌++◌, codes}
use Rattle.typst_script.specs.Word.{IsNumber}

-- the byte between the child indices of a path
abbrev pub dot : ℕ
dot = 46

-- the word is these numbers joined by dots, at least one
abbrev pub IsIndices : List ℕ → List ℕ → Type 0
IsIndices [] word = ⊥
IsIndices (n ∷ []) word = IsNumber word n
IsIndices (n ∷ m ∷ more) word =
    (first : List ℕ) × (others : List ℕ) × (word ≡ first ++ dot ∷ others) × IsNumber first n × IsIndices (m ∷ more) others

-- the word is child indices joined by dots
abbrev pub AreIndices : List ℕ → Type 0
AreIndices word = (indices : List ℕ) × IsIndices indices word

-- the word is the path with these child indices, or `-` for the path of the root
abbrev pub IsPathOf : List ℕ → List ℕ → Type 0
IsPathOf path word = ((path ≡ []) × (word ≡ codes "-")) ⊎ IsIndices path word

-- the word is a path
abbrev pub IsPathWord : List ℕ → Type 0
IsPathWord word = (path : List ℕ) × IsPathOf path word
