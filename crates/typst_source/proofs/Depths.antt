-- A text's tree is one level deeper than its blocks.
use Rattle.std.proofs.Common.{ℕ, zero, suc, List, [], ◌∷◌, ◌++◌, drop, length}
use Rattle.typst_node.specs.Tree.{Tree}
use Rattle.typst_source.specs.Blocks.{Block, document, first_blocks, trees_of}
use Rattle.typst_node.specs.Depth.{AreWithin}

join : (n : ℕ) (ts us : List Tree) → AreWithin n ts → AreWithin n us → AreWithin n (ts ++ us)
join n [] us p q = q
join zero (t ∷ ts) us p q = absurd p
join (suc n) (t ∷ ts) us p q = (p.0, join (suc n) ts us p.1 q)

within_blocks : (first : List ℕ → Block) (depth : ℕ) → ((text : List ℕ) → AreWithin depth (first text).trees) → (many : ℕ) (text : List ℕ) → AreWithin depth (trees_of (first_blocks first many text))
within_blocks first depth h zero text = tt
within_blocks first depth h (suc many) [] = tt
within_blocks first depth h (suc many) (b ∷ bs) =
    let rest = drop (first (b ∷ bs)).len (b ∷ bs) in
    join depth (first (b ∷ bs)).trees (trees_of (first_blocks first many rest)) (h (b ∷ bs)) (within_blocks first depth h many rest)

pub within_document : (first : List ℕ → Block) (depth : ℕ) → ((text : List ℕ) → AreWithin depth (first text).trees) → (text : List ℕ) → AreWithin (suc depth) (document first text ∷ [])
within_document first depth h text = (within_blocks first depth h (length text) text, tt)
