-- The trees of blocks, and the children of a root.
use Rattle.std.proofs.Common.{◌≡◌, ℕ, zero, suc, ◌+◌, ◌<◌, ◌≤◌, List, [], ◌∷◌, ◌++◌, length, map, take, drop, refl, sym, ap, ◌∙◌, arith, length-append, append_assoc, take-append-drop}
use Rattle.std.specs.List.{splice, take-map, drop-map}
use Rattle.std.proofs.lemmas.List.{map-append, drop-drop}
use Rattle.std.proofs.Math.Seq.{take-add, take-append_seam, drop-append_seam}
use Rattle.std.proofs.lemmas.Grind.{flat_map-append}
use Rattle.typst_base.specs.declared.kind.SyntaxKind.TheVariants as kinds
use Rattle.typst_base.specs.declared.kind.SyntaxKind.{SyntaxKind}
use Rattle.typst_node.specs.Tree.{Content, AsLeaf, AsError, AsInner, IsInner, Forest, none, tree, Tree, trees, forest, inner_tree}
use Rattle.typst_node.specs.Text.{text, text_of_all}
use Rattle.typst_node.specs.Plain.{plain, plain_label, plain_forest, unbounded}
use Rattle.typst_node.specs.PlainEdit.{edited}
use Rattle.typst_node.proofs.Trees.{trees_of_forest, text_of_all-cons}
use Rattle.typst_node.proofs.Plain.{forest_plain, text_plain}
use Rattle.typst_source.specs.Blocks.{Block, first_blocks, blocks, trees_of, document}
use Rattle.typst_source.proofs.Laws.{AreLaws}
use Rattle.typst_source.proofs.Blocks.{shorter}

pub text-append : (ts us : List Tree) → text_of_all (ts ++ us) ≡ text_of_all ts ++ text_of_all us
text-append [] us = refl
text-append (t ∷ ts) us =
    text_of_all-cons t (ts ++ us) ∙ ap (λ s. text t ++ s) (text-append ts us)
    ∙ sym (append_assoc (text t) (text_of_all ts) (text_of_all us)) ∙ ap (λ s. s ++ text_of_all us) (sym (text_of_all-cons t ts))

plain_trees : (f : Forest) → map plain (trees f) ≡ trees (plain_forest f)
plain_trees none = refl
plain_trees (tree l c r) = ap (λ ts. record { label = plain_label l; children = plain_forest c } ∷ ts) (plain_trees r)

inner_of : (c : Content) (k : SyntaxKind) → unbounded c ≡ AsInner k 0 → IsInner c
inner_of (AsLeaf kind text) k e = cc
inner_of (AsError text message hints) k e = cc
inner_of (AsInner kind bound) k e = tt

-- the trees of the first blocks, and of those after them
pub trees_parts : (k : ℕ) (bs : List Block) → trees_of bs ≡ trees_of (take k bs) ++ trees_of (drop k bs)
trees_parts k bs = ap trees_of (sym (take-append-drop k bs)) ∙ flat_map-append (λ (b : Block). b.trees) (take k bs) (drop k bs)

-- the trees of the first blocks, and of some more
pub trees_more : (i j : ℕ) (bs : List Block) → length (trees_of (take (i + j) bs)) ≡ length (trees_of (take i bs)) + length (trees_of (take j (drop i bs)))
trees_more i j bs =
    ap (λ (cs : List Block). length (trees_of cs)) (take-add i j bs) ∙ ap length (flat_map-append (λ (b : Block). b.trees) (take i bs) (take j (drop i bs)))
    ∙ length-append (trees_of (take i bs)) (trees_of (take j (drop i bs)))

pub trees_take : (k : ℕ) (bs : List Block) → take (length (trees_of (take k bs))) (trees_of bs) ≡ trees_of (take k bs)
trees_take k bs = ap (take (length (trees_of (take k bs)))) (trees_parts k bs) ∙ take-append_seam (trees_of (take k bs)) (trees_of (drop k bs))

pub trees_drop : (k : ℕ) (bs : List Block) → drop (length (trees_of (take k bs))) (trees_of bs) ≡ trees_of (drop k bs)
trees_drop k bs = ap (drop (length (trees_of (take k bs)))) (trees_parts k bs) ∙ drop-append_seam (trees_of (take k bs)) (trees_of (drop k bs))

module _ (first : List ℕ → Block) where
  pub kids_are : (source : List ℕ) (t : Tree) → plain t ≡ document first source → map plain (trees t.children) ≡ trees_of (blocks first source)
  kids_are source t fresh = plain_trees t.children ∙ ap (λ (u : Tree). trees u.children) fresh ∙ trees_of_forest (trees_of (blocks first source))

  pub source_inner : (source : List ℕ) (t : Tree) → plain t ≡ document first source → IsInner t.label.content
  source_inner source t fresh = inner_of t.label.content kinds.Markup (ap (λ (u : Tree). u.label.content) fresh)

  -- the tree with other children in the place of those of some blocks
  pub edited_kids : (old new : List ℕ) (t : Tree) (k j from to : ℕ) (nodes : List Tree) (bs : List Block) → plain t ≡ document first old
      → from ≡ length (trees_of (take k (blocks first old))) → to ≡ from + length (trees_of (take j (drop k (blocks first old)))) → map plain nodes ≡ trees_of bs
      → blocks first new ≡ take k (blocks first old) ++ (bs ++ drop j (drop k (blocks first old)))
      → plain (edited from to nodes t) ≡ document first new
  edited_kids old new t k j from to nodes bs fresh from_is to_is are all =
      let olds : List Block = blocks first old in
      let kids : List Tree = trees t.children in
      let whole : map plain kids ≡ trees_of olds = kids_are old t fresh in
      let front : map plain (take from kids) ≡ trees_of (take k olds) =
      sym (take-map plain from kids) ∙ (λ i. take (from_is i) (whole i)) ∙ trees_take k olds in
      let back : map plain (drop to kids) ≡ trees_of (drop j (drop k olds)) =
      sym (drop-map plain to kids) ∙ (λ i. drop (to_is i) (whole i)) ∙ sym (drop-drop (length (trees_of (take j (drop k olds)))) from (trees_of olds))
      ∙ ap (drop (length (trees_of (take j (drop k olds))))) (ap (λ i. drop i (trees_of olds)) from_is ∙ trees_drop k olds) ∙ trees_drop j (drop k olds) in
      let every : map plain (splice kids from to nodes) ≡ trees_of (blocks first new) =
      map-append plain (take from kids) (nodes ++ drop to kids)
      ∙ ap (λ ts. map plain (take from kids) ++ ts) (map-append plain nodes (drop to kids))
      ∙ (λ a. front a ++ (are a ++ back a))
      ∙ ap (λ ts. trees_of (take k olds) ++ ts) (sym (flat_map-append (λ (b : Block). b.trees) bs (drop j (drop k olds))))
      ∙ sym (flat_map-append (λ (b : Block). b.trees) (take k olds) (bs ++ drop j (drop k olds)))
      ∙ ap trees_of (sym all) in
      λ a. record {
        label = (ap (λ (u : Tree). u.label) fresh) a;
        children = (sym (forest_plain (splice kids from to nodes)) ∙ ap forest every) a;
      }

  pub new_fresh : (source : List ℕ) (nodes : List Tree) (root new : Tree) → map plain nodes ≡ trees_of (blocks first source) → root ≡ inner_tree kinds.Markup nodes → plain new ≡ plain root → plain new ≡ document first source
  new_fresh source nodes root new are is same = same ∙ ap plain is ∙ (λ i. record { label = (inner_tree kinds.Markup nodes).label; children = (sym (forest_plain nodes) ∙ ap forest are) i })

  module _ (laws : AreLaws first) where
    text_by : (m : ℕ) (source : List ℕ) → length source ≤ m → text_of_all (trees_of (first_blocks first m source)) ≡ source
    text_by zero [] h = refl
    text_by zero (t ∷ ts) h = absurd (omega arith)
    text_by (suc m) [] h = refl
    text_by (suc m) (t ∷ ts) h =
        let less : length (drop (first (t ∷ ts)).len (t ∷ ts)) < length (t ∷ ts) = shorter first laws (t ∷ ts) (omega arith) in
        text-append (first (t ∷ ts)).trees (trees_of (first_blocks first m (drop (first (t ∷ ts)).len (t ∷ ts))))
        ∙ (λ i. laws.keeps_text (t ∷ ts) i ++ text_by m (drop (first (t ∷ ts)).len (t ∷ ts)) (omega arith) i)
        ∙ take-append-drop (first (t ∷ ts)).len (t ∷ ts)

    -- nothing of a text is lost
    pub text_of_document : (source : List ℕ) → text (document first source) ≡ source
    text_of_document source = text_by (length source) source (omega arith)

    pub fresh_text : (source : List ℕ) (t : Tree) → plain t ≡ document first source → text t ≡ source
    fresh_text source t fresh = sym (text_plain t) ∙ ap text fresh ∙ text_of_document source
