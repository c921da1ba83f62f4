-- The tree of a source, its extents and its numbers.
use Rattle.std.proofs.Common.{◌≡◌, ℕ, zero, suc, ◌+◌, ◌-◌, ◌<◌, ◌≤◌, inl, inr, List, [], ◌∷◌, length, map, refl, sym, ap, subst, ◌∙◌, arith}
use Rattle.std.specs.List.{AllByRecursion}
use Rattle.std.specs.declared.ops.Range.{Range}
use Rattle.std.specs.Prelude.{Result, Ok, Err, IfErr, IsErrAnd}
use Rattle.std.proofs.lemmas.List.{length-map}
use Rattle.typst_base.specs.declared.kind.SyntaxKind.TheVariants as kinds
use Rattle.typst_node.specs.Tree.{Tree, trees, IsInner, inner_tree}
use Rattle.typst_node.specs.Text.{text}
use Rattle.typst_node.specs.Plain.{plain}
use Rattle.typst_node.specs.PlainEdit.{edited}
use Rattle.typst_node.specs.Count.{count}
use Rattle.typst_node.specs.Labels.{number, bound}
use Rattle.typst_node.specs.Numbered.{IsNumbered, IsNumberedFor}
use Rattle.typst_node.specs.Outside.{KeepsBeside}
use Rattle.typst_node.specs.Refusals.{LacksNumbers}
use Rattle.typst_node.proofs.Plain.{count_plain, same_count_of_all}
use Rattle.typst_node.proofs.Trimmed.{trimmed_plain}
use Rattle.typst_source.specs.Blocks.{Block, first_blocks, blocks, trees_of, document}
use Rattle.typst_source.specs.Extents.{extents_of, bytes_in, nodes_in}
use Rattle.typst_source.specs.Errors.{of_replace}
use Rattle.typst_source.specs.declared.error.SourceError.{SourceError}
use Rattle.typst_node.specs.declared.node.replace.ReplaceError.{ReplaceError}
use Rattle.typst_node.specs.declared.node.replace.ReplaceError.TheVariants as replace
use Rattle.typst_source.specs.Edited.{IsCrowdedBy, IsRefusedBy}
use Rattle.typst_source.specs.Source.{IsParsed, IsRoomy, IsTooLarge}
use Rattle.typst_source.specs.declared.extents.Extent.{Extent}
use Rattle.typst_source.proofs.Laws.{AreLaws}
use Rattle.typst_source.proofs.Blocks.{bytes_all}
use Rattle.typst_source.proofs.Sums.{bytes_extents, nodes_extents}
use Rattle.typst_source.proofs.Kids.{kids_are, new_fresh, fresh_text}

pub numbered_for : (t new : Tree) → IsNumbered t → IsNumberedFor t.label.span.file new → IsNumbered new
numbered_for t new n h = (t.label.span.file, subst (λ file. 1 ≤ file) (sym n.2.in_file.0.0) n.1, h)

-- a root whose label stays has the open numbers that it had
pub still_roomy : (t new : Tree) → IsRoomy t → number new.label ≡ number t.label → bound new.label ≡ bound t.label → IsRoomy new
still_roomy t new roomy n b = omega (arith, roomy, n, b)

-- a root is no child, so it keeps its label
pub root_label : (path : List ℕ) (range : Range ℕ) (t new : Tree) → KeepsBeside path range t new → new.label ≡ t.label
root_label [] range t new keeps = (keeps [] tt (λ inside. inside)).1
root_label (i ∷ path) range t new keeps = (keeps [] tt (λ inside. inside)).1

-- why an edit is refused whose nodes are not replaced
pub refused_as : (first : List ℕ → Block) (t : Tree) (source : List ℕ) {A : Type 0} (r : Result A SourceError) (e : ReplaceError) → IsErrAnd r (λ s. s ≡ of_replace e)
    → (e ≡ replace.Unnumberable → IsCrowdedBy first t source) → (e ≡ replace.Overflow → IsTooLarge first source) → IfErr r (λ s. IsRefusedBy s first t source)
refused_as first t source (Ok a) e h crowded large = tt
refused_as first t source (Err s) replace.Unnumberable h crowded large = subst (λ s. IsRefusedBy s first t source) (sym h) (crowded refl)
refused_as first t source (Err s) replace.Overflow h crowded large = subst (λ s. IsRefusedBy s first t source) (sym h) (large refl)
refused_as first t source (Err s) replace.Memory h crowded large = subst (λ s. IsRefusedBy s first t source) (sym h) tt

-- where no window has room, the nodes that the tree would have are more than the root's open numbers
pub crowded : (from to : ℕ) (others : List Tree) (t : Tree) → from ≤ to → to ≤ length (trees t.children)
    → IsNumbered t → LacksNumbers (record { path = []; from = from; to = to; others = others }) t → bound t.label - (number t.label + 1) < count (edited from to others t)
crowded from to others t window inside numbered (inl none) = absurd (omega (arith, numbered.1, none, numbered.2.in_file.0.0))
crowded from to others t window inside numbered (inr few) =
    omega (arith, few.1.0, same_count_of_all _ _ (trimmed_plain (trees t.children) others from to window inside))

module _ (first : List ℕ → Block) (laws : AreLaws first) where
  looked_by : (m : ℕ) (source : List ℕ) → AllByRecursion (λ (e : Extent). e.bytes ≤ e.reach) (extents_of (first_blocks first m source))
  looked_by zero source = tt
  looked_by (suc m) [] = tt
  looked_by (suc m) (b ∷ bs) = (laws.looked (b ∷ bs), looked_by m _)

  -- the parser looked at all bytes of each block
  pub all_looked : (extents : List Extent) (source : List ℕ) → extents ≡ extents_of (blocks first source) → AllByRecursion (λ (e : Extent). e.bytes ≤ e.reach) extents
  all_looked extents source is = subst (AllByRecursion (λ (e : Extent). e.bytes ≤ e.reach)) (sym is) (looked_by (length source) source)

  pub bytes_whole : (extents : List Extent) (source : List ℕ) → extents ≡ extents_of (blocks first source) → bytes_in extents ≡ length source
  bytes_whole extents source is = ap bytes_in is ∙ bytes_extents (blocks first source) ∙ bytes_all first laws source

  pub nodes_whole : (extents : List Extent) (source : List ℕ) (t : Tree) → extents ≡ extents_of (blocks first source) → plain t ≡ document first source → nodes_in extents ≡ length (trees t.children)
  nodes_whole extents source t is fresh =
      ap nodes_in is ∙ nodes_extents (blocks first source) ∙ sym (ap length (kids_are first source t fresh)) ∙ length-map (trees t.children) plain

  -- a tree that is, spans and bounds aside, the one that a text is parsed into
  pub is_parsed : (source : List ℕ) (t : Tree) (extents : List Extent) → plain t ≡ document first source → IsNumbered t → IsRoomy t → extents ≡ extents_of (blocks first source) → IsParsed first extents t
  is_parsed source t extents fresh numbered roomy exts =
      let same : source ≡ text t = sym (fresh_text first laws source t fresh) in
      record {
        fresh = fresh ∙ ap (document first) same;
        numbered = numbered;
        roomy = roomy;
        extents_are = exts ∙ ap (λ s. extents_of (blocks first s)) same;
      }

  -- the tree of these nodes, before and after it is numbered
  module _ (source : List ℕ) (nodes : List Tree) (root : Tree) (are : map plain nodes ≡ trees_of (blocks first source)) (is : root ≡ inner_tree kinds.Markup nodes) where
    pub root_count : count root ≡ count (document first source)
    root_count = sym (count_plain root) ∙ ap count (new_fresh first source nodes root root are is refl)

    pub root_inner : IsInner root.label.content
    root_inner = subst (λ (t : Tree). IsInner t.label.content) (sym is) tt

    module _ (new : Tree) (same : plain new ≡ plain root) where
      pub numbered_fresh : plain new ≡ document first source
      numbered_fresh = new_fresh first source nodes root new are is same

      pub numbered_text : text new ≡ source
      numbered_text = fresh_text first laws source new numbered_fresh
