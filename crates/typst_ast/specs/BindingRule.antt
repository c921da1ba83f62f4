-- The names that patterns bind, by the rule alone.
use Rattle.std.specs.Prelude.{List, Option, ◌≡◌}
use Rattle.typst_atoms.specs.Bindings.{names_of_pattern}
use Rattle.typst_node.specs.Tree.{Tree}

-- `names` gives each pattern the names by the rule, which takes the names of the patterns below it from `names`
abbrev pub MeetsRule : (Option Tree → List Tree) → Type 0
MeetsRule names = (pattern : Option Tree) → names pattern ≡ names_of_pattern names pattern

-- there are names that meet the rule, all names that meet it are the same, and `Holds` is true of them
abbrev pub ByRule : ((Option Tree → List Tree) → Type 0) → Type 0
ByRule Holds =
    (names : Option Tree → List Tree) × MeetsRule names
    × ((others : Option Tree → List Tree) → MeetsRule others → (pattern : Option Tree) → others pattern ≡ names pattern)
    × Holds names
