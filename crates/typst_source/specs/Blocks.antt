-- The blocks of a text, one after the other.
use Rattle.std.specs.Prelude.{ℕ, zero, suc, max, ◌≡◌, ◌+◌, ◌<◌, List, [], ◌∷◌, length, drop}
use Rattle.std.specs.List.{flat_map}
use Rattle.typst_base.specs.declared.kind.SyntaxKind.TheVariants as kinds
use Rattle.typst_node.specs.Tree.{Tree, inner_tree}

-- a block: its length in bytes, how many bytes from its beginning its parser looked at, and its trees
pub record Block : Type 0 where
  pub len : ℕ
  pub reach : ℕ
  pub trees : List Tree

-- at most `many` blocks of a text: the first block, and the blocks of the text after it
abbrev pub first_blocks : (List ℕ → Block) → ℕ → List ℕ → List Block
first_blocks first zero text = []
first_blocks first (suc many) [] = []
first_blocks first (suc many) (b ∷ bs) = first (b ∷ bs) ∷ first_blocks first many (drop (first (b ∷ bs)).len (b ∷ bs))

-- All blocks of a text. Each has at least one byte, so there are at most as many blocks as bytes.
abbrev pub blocks : (List ℕ → Block) → List ℕ → List Block
blocks first text = first_blocks first (length text) text

-- These are the blocks of a text, defined without a count. An empty text has none. Any other text has its first block,
-- and then the blocks of the text after it.
abbrev pub AreBlocks : (List ℕ → Block) → List ℕ → List Block → Type 0
AreBlocks first text [] = length text ≡ 0
AreBlocks first text (b ∷ bs) = (0 < length text) × (first text ≡ b) × AreBlocks first (drop b.len text) bs

-- the trees of all blocks, in order
abbrev pub trees_of : List Block → List Tree
trees_of bs = flat_map (λ (b : Block). b.trees) bs

-- the tree of a whole text
abbrev pub document : (List ℕ → Block) → List ℕ → Tree
document first text = inner_tree kinds.Markup (trees_of (blocks first text))

-- how much pieces have together, given how much each has
abbrev pub total : {A : Type 0} → (A → ℕ) → List A → ℕ
total each [] = 0
total each (x ∷ xs) = each x + total each xs

-- how many bytes the blocks have together
abbrev pub bytes_of : List Block → ℕ
bytes_of bs = total (λ (b : Block). b.len) bs

-- how far from the beginning of the first piece the pieces reach, given the length of each and how far it reaches
abbrev pub reach_by : {A : Type 0} → (A → ℕ) → (A → ℕ) → List A → ℕ
reach_by len reach [] = 0
reach_by len reach (x ∷ xs) = max (reach x) (len x + reach_by len reach xs)

-- how many bytes from the beginning of the first block the parser looked at for any of the blocks
abbrev pub reach_of : List Block → ℕ
reach_of bs = reach_by (λ (b : Block). b.len) (λ (b : Block). b.reach) bs
