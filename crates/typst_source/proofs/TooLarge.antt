-- Texts whose trees have too many nodes.
use Rattle.std.proofs.Common.{◌≡◌, ℕ, ◌<◌, ◌≤◌, List, [], ◌∷◌, ◌++◌, length, map, take, drop, refl, sym, ap, ◌∙◌, arith, length-append}
use Rattle.std.specs.Prelude.{Result, Ok, Err, IsErrAnd, IsErrOf}
use Rattle.typst_base.specs.declared.kind.SyntaxKind.TheVariants as kinds
use Rattle.typst_node.specs.Count.{count, count_of_all, SumsFit}
use Rattle.typst_node.specs.Plain.{plain}
use Rattle.typst_node.specs.Paths.{with_children}
use Rattle.typst_node.specs.PlainEdit.{edited, spliced, TreeFits}
use Rattle.typst_node.specs.Text.{own_text, text, text_of_all}
use Rattle.typst_node.specs.Tree.{AsError, AsInner, AsLeaf, Content, Tree, IsInner, inner_tree}
use Rattle.typst_node.specs.declared.node.build.InnerError.{InnerError}
use Rattle.typst_node.specs.declared.node.build.InnerError.TheVariants as inner
use Rattle.typst_node.proofs.Opens.{count_append}
use Rattle.typst_node.proofs.Plain.{count_plain, text_plain}
use Rattle.typst_node.proofs.Trees.{trees_of_forest}
use Rattle.typst_node.proofs.WholeTreeEdited.{text_forest}
use Rattle.typst_source.specs.Blocks.{Block, blocks, bytes_of, trees_of, document}
use Rattle.typst_source.specs.Errors.{of_inner}
use Rattle.typst_source.specs.Source.{IsTooLarge}
use Rattle.typst_source.specs.declared.error.SourceError.{SourceError}
use Rattle.typst_source.specs.declared.error.SourceError.TheVariants.{Overflow, Memory}
use Rattle.typst_source.specs.declared.extents.Extent.{Extent}
use Rattle.typst_source.proofs.Blocks.{blocks_step, drop_blocks}
use Rattle.typst_source.proofs.Kids.{kids_are, text-append, trees_parts, new_fresh}
use Rattle.typst_source.proofs.Laws.{AreLaws}
use Rattle.typst_source.proofs.SoFar.{IsSoFar}

own_empty : (content : Content) → IsInner content → (t : Tree) → t.label.content ≡ content → length (own_text t.label) ≡ 0
own_empty (AsLeaf kind text) inner t is = absurd inner
own_empty (AsError text message hints) inner t is = absurd inner
own_empty (AsInner kind bound) inner t is = ap (λ c. length (own_text record t.label { content = c })) is

-- the sums of an inner node fit a usize where those of its children do
pub whole_fits : (t : Tree) (ts : List Tree) → IsInner t.label.content → SumsFit ts → TreeFits (with_children [] ts t)
whole_fits t ts inner fit = (omega (arith, text_forest t ts, own_empty t.label.content inner t refl, fit.0), fit.1)

-- the error that an inner node's becomes is an overflow only where that was
pub inner_overflow : {A : Type 0} (r : Result A SourceError) (e : InnerError) → IsErrAnd r (λ s. s ≡ of_inner e) → IsErrOf r Overflow → e ≡ inner.Overflow
inner_overflow (Ok a) e h is = cc
inner_overflow (Err s) inner.Overflow h is = refl
inner_overflow (Err s) inner.Memory h is = let same : s ≡ Memory = h in cc

module _ (first : List ℕ → Block) (laws : AreLaws first) where
  -- the children of a document
  pub unfit : (source : List ℕ) (ts : List Tree) → map plain ts ≡ trees_of (blocks first source) → ¬ (SumsFit ts) → IsTooLarge first source
  unfit source ts are none fits =
      let root : Tree = inner_tree kinds.Markup ts in
      let fresh : plain root ≡ document first source = new_fresh first source ts root root are refl refl in
      none (
        omega (arith, fits.0, ap length (text_plain root), ap (λ (t : Tree). length (text t)) fresh),
        omega (arith, fits.1, count_plain root, ap count fresh),
      )

  -- those that an edit of them makes
  pub unfit_edit : (source : List ℕ) (from to : ℕ) (others : List Tree) (t : Tree) → plain (edited from to others t) ≡ document first source → ¬ (SumsFit (spliced from to others t)) → IsTooLarge first source
  unfit_edit source from to others t fresh none =
      let ts : List Tree = spliced from to others t in
      unfit source ts (ap (map plain) (sym (trees_of_forest ts)) ∙ kids_are first source (edited from to others t) fresh) none

  -- trees among those of a text
  among : (source : List ℕ) (before ts behind : List Tree) → trees_of (blocks first source) ≡ before ++ (ts ++ behind) → ¬ (SumsFit ts) → IsTooLarge first source
  among source before ts behind are none fits =
      none (
        omega (
          arith,
          fits.0,
          ap (λ us. length (text_of_all us)) are,
          ap length (text-append before (ts ++ behind)),
          length-append (text_of_all before) (text_of_all (ts ++ behind)),
          ap length (text-append ts behind),
          length-append (text_of_all ts) (text_of_all behind),
        ),
        omega (arith, fits.1, ap count_of_all are, count_append before (ts ++ behind), count_append ts behind),
      )

  -- the next block of a text of which some were parsed
  pub next_too_large : (source rest : List ℕ) (nodes : List Tree) (extents : List Extent) → IsSoFar first source nodes extents rest → 0 < length rest → ¬ (SumsFit (first rest).trees) → IsTooLarge first source
  next_too_large source rest nodes extents s some =
      let k : ℕ = length extents in
      let behind : List Block = blocks first (drop (first rest).len rest) in
      let rests : drop k (blocks first source) ≡ first rest ∷ behind = drop_blocks first laws k source s.many ∙ ap (blocks first) (sym s.rest_is) ∙ blocks_step first laws rest some in
      among source (trees_of (take k (blocks first source))) (first rest).trees (trees_of behind) (trees_parts k (blocks first source) ∙ ap (λ (bs : List Block). trees_of (take k (blocks first source)) ++ trees_of bs) rests)

  -- the rest of a text after some blocks
  pub rest_too_large : (k : ℕ) (source : List ℕ) → k ≤ length (blocks first source) → IsTooLarge first (drop (bytes_of (take k (blocks first source))) source) → IsTooLarge first source
  rest_too_large k source some large fits =
      let rest : List Tree = trees_of (blocks first (drop (bytes_of (take k (blocks first source))) source)) in
      let are : trees_of (blocks first source) ≡ trees_of (take k (blocks first source)) ++ rest =
      trees_parts k (blocks first source) ∙ ap (λ (bs : List Block). trees_of (take k (blocks first source)) ++ trees_of bs) (drop_blocks first laws k source some) in
      large (
        omega (
          arith,
          fits.0,
          ap (λ us. length (text_of_all us)) are,
          ap length (text-append (trees_of (take k (blocks first source))) rest),
          length-append (text_of_all (trees_of (take k (blocks first source)))) (text_of_all rest),
        ),
        omega (arith, fits.1, ap count_of_all are, count_append (trees_of (take k (blocks first source))) rest),
      )
