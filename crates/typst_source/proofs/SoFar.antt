-- Blocks that were parsed one after the other.
use Rattle.std.proofs.Common.{◌≡◌, ℕ, inl, inr, ◌+◌, ◌<◌, ◌≤◌, List, [], ◌∷◌, ◌++◌, length, map, take, drop, refl, sym, ap, ◌∙◌, arith, length-append, length-drop, length-take-le}
use Rattle.std.proofs.lemmas.List.{map-append, length-map, append-nil, drop-drop, length-take}
use Rattle.std.proofs.lemmas.Bool.{cases_lt}
use Rattle.std.proofs.Math.Seq.{take-add}
use Rattle.std.proofs.lemmas.Grind.{flat_map-append}
use Rattle.typst_node.specs.Tree.{Tree}
use Rattle.typst_node.specs.Plain.{plain}
use Rattle.typst_source.specs.declared.extents.Extent.{Extent}
use Rattle.typst_source.specs.declared.parser.ParsedBlock.{ParsedBlock}
use Rattle.typst_source.specs.Blocks.{Block, blocks, bytes_of, trees_of}
use Rattle.typst_source.specs.Parsed.{IsParsedBlock}
use Rattle.typst_source.specs.Extents.{extent_of, extents_of, bytes_in}
use Rattle.typst_source.specs.NewBlocks.{Meet}
use Rattle.typst_source.proofs.Laws.{AreLaws}
use Rattle.typst_source.proofs.Blocks.{blocks_step, drop_blocks, bytes_before, bytes-append}
use Rattle.typst_source.proofs.Sums.{bytes_behind}

pub record IsSoFar (first : List ℕ → Block) (text : List ℕ) (nodes : List Tree) (extents : List Extent) (rest : List ℕ) : Type 0 where
  pub many : length extents ≤ length (blocks first text)
  pub rest_is : rest ≡ drop (bytes_of (take (length extents) (blocks first text))) text
  pub extents_are : extents ≡ extents_of (take (length extents) (blocks first text))
  pub nodes_are : map plain nodes ≡ trees_of (take (length extents) (blocks first text))

abbrev pub extent_so : ParsedBlock → Extent
extent_so p = record { bytes = p.len; nodes = length p.nodes.items; reach = p.reach }

module _ (first : List ℕ → Block) (laws : AreLaws first) where
  pub so_far_start : (text : List ℕ) → IsSoFar first text [] [] text
  so_far_start text = record { many = omega arith; rest_is = refl; extents_are = refl; nodes_are = refl }

  -- one block more
  taken_more : (k : ℕ) (text rest : List ℕ) → k ≤ length (blocks first text) → rest ≡ drop (bytes_of (take k (blocks first text))) text → 0 < length rest
      → take (k + 1) (blocks first text) ≡ take k (blocks first text) ++ first rest ∷ []
  taken_more k text rest h is some =
      let rests : drop k (blocks first text) ≡ first rest ∷ blocks first (drop (first rest).len rest) =
      drop_blocks first laws k text h ∙ ap (blocks first) (sym is) ∙ blocks_step first laws rest some in
      take-add k 1 (blocks first text) ∙ ap (λ bs. take k (blocks first text) ++ take 1 bs) rests

  pub so_far_step : (text rest after : List ℕ) (nodes all : List Tree) (extents more : List Extent) (block : ParsedBlock) → IsSoFar first text nodes extents rest → 0 < length rest
      → IsParsedBlock (first rest) block → all ≡ nodes ++ block.nodes.items → more ≡ extents ++ extent_so block ∷ [] → after ≡ drop block.len rest
      → IsSoFar first text all more after
  so_far_step text rest after nodes all extents more block s some is all_is more_is after_is =
      let k : ℕ = length extents in
      let count : length more ≡ k + 1 = omega (arith, ap length more_is, length-append extents (extent_so block ∷ [])) in
      let taken : take (length more) (blocks first text) ≡ take k (blocks first text) ++ first rest ∷ [] =
      ap (λ i. take i (blocks first text)) count ∙ taken_more k text rest s.many s.rest_is some in
      let len : bytes_of (take (length more) (blocks first text)) ≡ bytes_of (take k (blocks first text)) + block.len =
      ap bytes_of taken ∙ bytes-append (take k (blocks first text)) (first rest ∷ []) ∙ omega (arith, is.len) in
      let extent : extent_of (first rest) ≡ extent_so block = same_extent (first rest) block is in
      record {
        many = omega (arith, count, ap length taken, length-append (take k (blocks first text)) (first rest ∷ []), length-take-le k (blocks first text) s.many, length-take (length more) (blocks first text));
        rest_is = after_is ∙ ap (drop block.len) s.rest_is ∙ drop-drop block.len (bytes_of (take k (blocks first text))) text ∙ ap (λ i. drop i text) (sym len);
        extents_are = more_is ∙ (λ i. s.extents_are i ++ sym extent i ∷ []) ∙ sym (map-append extent_of (take k (blocks first text)) (first rest ∷ [])) ∙ ap extents_of (sym taken);
        nodes_are =
            ap (map plain) all_is ∙ map-append plain nodes block.nodes.items ∙ (λ i. s.nodes_are i ++ is.trees i)
            ∙ sym (trees_one (take k (blocks first text)) (first rest)) ∙ ap trees_of (sym taken);
      }
    where
      same_extent : (b : Block) (p : ParsedBlock) → IsParsedBlock b p → extent_of b ≡ extent_so p
      same_extent b p is = λ i. record { bytes = sym is.len i; nodes = (ap length (sym is.trees) ∙ length-map p.nodes.items plain) i; reach = sym is.reach i }

      trees_one : (bs : List Block) (b : Block) → trees_of (bs ++ b ∷ []) ≡ trees_of bs ++ b.trees
      trees_one bs b = flat_map-append (λ (b : Block). b.trees) bs (b ∷ []) ∙ ap (λ ts. trees_of bs ++ ts) (append-nil b.trees)

  pub so_far_left : (text rest : List ℕ) (nodes : List Tree) (extents : List Extent) → IsSoFar first text nodes extents rest → length rest + bytes_of (take (length extents) (blocks first text)) ≡ length text
  so_far_left text rest nodes extents s =
      omega (arith, ap length s.rest_is, length-drop (bytes_of (take (length extents) (blocks first text))) text, bytes_before first laws (length extents) text)

  -- where the blocks so far meet no old ones, none met before
  pub earliest_more : (text rest : List ℕ) (olds : List Extent) (tail count now : ℕ) → length rest + bytes_of (take count (blocks first text)) ≡ length text
      → ((k : ℕ) → k < now → length rest < bytes_in (drop k olds)) → bytes_in (drop now olds) ≤ length rest → (length rest ≤ tail → bytes_in (drop now olds) ≡ length rest → ⊥)
      → ((many passed left : ℕ) → many < count → passed ≤ length olds → Meet first text olds tail many passed left → ⊥)
      → (many passed left : ℕ) → many < count + 1 → passed ≤ length olds → Meet first text olds tail many passed left → ⊥
  earliest_more text rest olds tail count now len skipped last stops before many passed left h p meet =
      elim (cases_lt many count) as (λ _. ⊥) [
        | inl less ↦ before many passed left less p meet
        | inr same ↦
            let is : many ≡ count = omega arith in
            let left_is : left ≡ length rest = omega (arith, len, meet.1, ap (λ i. bytes_of (take i (blocks first text))) is) in
            elim (cases_lt passed now) as (λ _. ⊥) [
              | inl early ↦ absurd (omega (arith, skipped passed early, meet.2))
              | inr late ↦ stops (omega (arith, meet.0)) (omega (arith, meet.2, bytes_behind olds now passed late))
            ]
      ]
