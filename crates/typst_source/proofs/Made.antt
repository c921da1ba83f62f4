-- What a cut makes of the blocks of a text and of its tree.
use Rattle.std.proofs.Common.{◌≡◌, ℕ, ◌+◌, ◌-◌, ◌<◌, ◌≤◌, inl, inr, List, [], ◌++◌, length, take, drop, sym, ap, subst, ◌∙◌, arith, length-append, length-drop}
use Rattle.std.specs.List.{splice, take-map, drop-map}
use Rattle.std.specs.Str.{IsUtf8, IsCharBoundary}
use Rattle.std.proofs.lemmas.List.{length-map, map-append, append-nil, take-append-drop, drop-drop}
use Rattle.std.proofs.lemmas.Bool.{cases_lt}
use Rattle.typst_node.specs.Tree.{Tree, trees}
use Rattle.typst_node.specs.Plain.{plain}
use Rattle.typst_node.specs.PlainEdit.{edited}
use Rattle.typst_source.specs.Blocks.{Block, blocks, bytes_of, reach_of, trees_of, document}
use Rattle.typst_source.specs.Reparsed.{IsCut, IsEnd, IsEndOf, IsMeeting, AreReparsed, AreSeams}
use Rattle.typst_source.specs.Extents.{extent_of, extents_of, bytes_in, nodes_in, reach_in, AreUntouched}
use Rattle.typst_source.specs.Source.{IsTooLarge}
use Rattle.typst_source.specs.NewBlocks.{AreNewBlocks}
use Rattle.typst_source.specs.declared.cut.Cut.{Cut}
use Rattle.typst_source.specs.declared.extents.Extent.{Extent}
use Rattle.typst_source.specs.declared.extents.Sums.{Sums}
use Rattle.typst_source.specs.declared.new_blocks.NewBlocks.{NewBlocks}
use Rattle.typst_source.proofs.Laws.{AreLaws}
use Rattle.typst_source.proofs.Blocks.{drop_blocks, blocks_none, bytes_add, bytes_mono, reach_mono, behind_end, bytes_before, bytes_all, bytes_take_drop, ends_between}
use Rattle.typst_source.proofs.Kept.{same_tail, front_stays, front_within, front_before, rest_blocks, changed_blocks}
use Rattle.typst_source.proofs.Sums.{bytes_extents, bytes_taken, nodes_taken, reach_taken}
use Rattle.typst_source.proofs.Kids.{kids_are, edited_kids, trees_parts, trees_more}
use Rattle.typst_source.proofs.TooLarge.{rest_too_large}

module _ (first : List ℕ → Block) (laws : AreLaws first) where
  module _ (old new : List ℕ) (cut : Cut) (is : IsCut old new cut) (exts : List Extent) (kept : Sums) (are : exts ≡ extents_of (blocks first old)) (untouched : AreUntouched exts cut.start kept) where
    pub kept_some : kept.blocks ≤ length (blocks first old)
    kept_some = omega (arith, untouched.sums_are.within, ap length are, length-map (blocks first old) extent_of)

    pub kept_bytes : kept.bytes ≡ bytes_of (take kept.blocks (blocks first old))
    kept_bytes = untouched.sums_are.bytes ∙ ap (λ (es : List Extent). bytes_in (take kept.blocks es)) are ∙ bytes_taken kept.blocks (blocks first old)

    kept_nodes : kept.nodes ≡ length (trees_of (take kept.blocks (blocks first old)))
    kept_nodes = untouched.sums_are.nodes ∙ ap (λ (es : List Extent). nodes_in (take kept.blocks es)) are ∙ nodes_taken kept.blocks (blocks first old)

    kept_far : reach_of (take kept.blocks (blocks first old)) ≤ cut.start
    kept_far = omega (arith, untouched.before, ap (λ (es : List Extent). reach_in (take kept.blocks es)) are, reach_taken kept.blocks (blocks first old))

    pub kept_before : kept.bytes ≤ cut.start
    kept_before = omega (arith, kept_bytes, front_before first laws old new cut is kept.blocks kept_some kept_far)

    -- the place up to which blocks are kept is between characters of the new text
    pub kept_boundary : IsUtf8 new → IsCharBoundary new kept.bytes
    kept_boundary u =
        let same = front_stays first laws old new cut is kept.blocks kept_some kept_far in
        let some = front_within first laws old new cut is kept.blocks kept_some kept_far in
        let place : bytes_of (take kept.blocks (blocks first new)) ≡ kept.bytes = sym (kept_bytes ∙ ap bytes_of same) in
        subst (IsCharBoundary new) place (ends_between first laws kept.blocks new u some)

    -- a text whose rest after the kept blocks is too large
    pub new_too_large : IsTooLarge first (drop kept.bytes new) → IsTooLarge first new
    new_too_large large =
        let same = front_stays first laws old new cut is kept.blocks kept_some kept_far in
        let place : kept.bytes ≡ bytes_of (take kept.blocks (blocks first new)) = kept_bytes ∙ ap bytes_of same in
        rest_too_large first laws kept.blocks new (front_within first laws old new cut is kept.blocks kept_some kept_far) (subst (λ i. IsTooLarge first (drop i new)) place large)

    module _ (olds : List Extent) (rest : List ℕ) (tail : ℕ) (w : NewBlocks) (olds_are : olds ≡ drop kept.blocks exts) (rest_is : rest ≡ drop kept.bytes new)
        (tail_is : tail ≡ length old - cut.old_end) (anew : AreNewBlocks first rest olds tail w) where
      old_blocks : olds ≡ extents_of (drop kept.blocks (blocks first old))
      old_blocks = olds_are ∙ ap (drop kept.blocks) are ∙ drop-map extent_of kept.blocks (blocks first old)

      rest_from : rest ≡ drop (bytes_of (take kept.blocks (blocks first old))) new
      rest_from = rest_is ∙ ap (λ i. drop i new) kept_bytes

      there : AreNewBlocks first (drop (bytes_of (take kept.blocks (blocks first old))) new) (extents_of (drop kept.blocks (blocks first old))) (length old - cut.old_end) w
      there =
          subst (λ i. AreNewBlocks first (drop (bytes_of (take kept.blocks (blocks first old))) new) (extents_of (drop kept.blocks (blocks first old))) i w) tail_is
          (subst (λ (es : List Extent). AreNewBlocks first (drop (bytes_of (take kept.blocks (blocks first old))) new) es tail w) old_blocks
          (subst (λ (s : List ℕ). AreNewBlocks first s olds tail w) rest_from anew))

      passed_within : w.passed.blocks ≤ length (drop kept.blocks (blocks first old))
      passed_within = omega (arith, there.passed_are.within, length-map (drop kept.blocks (blocks first old)) extent_of)

      passed_left : bytes_of (drop w.passed.blocks (drop kept.blocks (blocks first old))) ≡ w.left
      passed_left = sym (bytes_extents (drop w.passed.blocks (drop kept.blocks (blocks first old)))) ∙ ap bytes_in (sym (drop-map extent_of w.passed.blocks (drop kept.blocks (blocks first old)))) ∙ there.meet.2

      pub all_blocks : blocks first new ≡ take kept.blocks (blocks first old)
          ++ (take (length w.extents.items) (blocks first (drop (bytes_of (take kept.blocks (blocks first old))) new)) ++ drop w.passed.blocks (drop kept.blocks (blocks first old)))
      all_blocks =
          changed_blocks first laws old new cut is kept.blocks kept_some kept_far
          (length w.extents.items) w.passed.blocks w.left there.many there.meet.0 there.meet.1 passed_within passed_left

      pub new_extents : splice exts kept.blocks (kept.blocks + w.passed.blocks) w.extents.items ≡ extents_of (blocks first new)
      new_extents =
          let k = kept.blocks in
          let bs : List Block = blocks first old in
          let front : take k exts ≡ extents_of (take k bs) = ap (take k) are ∙ take-map extent_of k bs in
          let back : drop (k + w.passed.blocks) exts ≡ extents_of (drop w.passed.blocks (drop k bs)) =
          ap (drop (k + w.passed.blocks)) are ∙ drop-map extent_of (k + w.passed.blocks) bs ∙ ap extents_of (sym (drop-drop w.passed.blocks k bs)) in
          let middle : List Block = take (length w.extents.items) (blocks first (drop (bytes_of (take k bs)) new)) in
          (λ i. front i ++ (there.extents_are i ++ back i))
          ∙ ap (λ (es : List Extent). extents_of (take k bs) ++ es) (sym (map-append extent_of middle (drop w.passed.blocks (drop k bs))))
          ∙ sym (map-append extent_of (take k bs) (middle ++ drop w.passed.blocks (drop k bs)))
          ∙ ap extents_of (sym all_blocks)

      pub extents_fit : kept.blocks + w.passed.blocks ≤ length exts
      extents_fit = omega (arith, passed_within, kept_some, length-drop kept.blocks (blocks first old), ap length are, length-map (blocks first old) extent_of)

      module _ (to : ℕ) (to_is : to ≡ length new - w.left) where
        not_earlier : (place : ℕ) → IsMeeting first old new cut place → place < to → ⊥
        not_earlier place meeting less =
            let bs : List Block = blocks first old in
            let k : ℕ = kept.blocks in
            let m : ℕ = length w.extents.items in
            let p : ℕ = bytes_of (take k bs) in
            let rest : List ℕ = drop p new in
            let same : take k bs ≡ take k (blocks first new) = front_stays first laws old new cut is kept.blocks kept_some kept_far in
            let behind : drop k (blocks first new) ≡ blocks first rest = rest_blocks first laws old new cut is kept.blocks kept_some kept_far in
            let rest_len : length rest ≡ length new - p = length-drop p new in
            let at_new : IsEnd first new place = meeting.1 in
            let at_old : IsEnd first old (cut.old_end + (place - cut.new_end)) = meeting.2 in
            let place_in : place ≤ length new = omega (arith, at_new.1.1, bytes_before first laws at_new.0 new) in
            let before : p ≤ cut.start = front_before first laws old new cut is kept.blocks kept_some kept_far in
            let new_end : (i : ℕ) × (i ≤ length (drop k (blocks first new))) × (bytes_of (take k (blocks first new)) + bytes_of (take i (drop k (blocks first new))) ≡ bytes_of (take at_new.0 (blocks first new))) =
            behind_end (blocks first new) k at_new.0 at_new.1.0 (omega (arith, at_new.1.1, ap bytes_of same, before, meeting.0, is.new_ordered)) in
            let old_end : (i : ℕ) × (i ≤ length (drop k bs)) × (bytes_of (take k bs) + bytes_of (take i (drop k bs)) ≡ bytes_of (take at_old.0 bs)) =
            behind_end bs k at_old.0 at_old.1.0 (omega (arith, at_old.1.1, before, is.old_ordered)) in
            let i : ℕ = new_end.0 in
            let q : ℕ = bytes_of (take i (blocks first rest)) in
            let new_place : p + q ≡ place =
            omega (arith, new_end.2, ap bytes_of same, ap (λ (cs : List Block). bytes_of (take i cs)) behind, at_new.1.1) in
            let few : i < m =
            elim (cases_lt i m) as (λ _. i < m) [
              | inl h ↦ h
              | inr h ↦ absurd (omega (arith, new_place, bytes_mono m i (blocks first rest) h, there.meet.1, rest_len, to_is))
            ] in
            there.earliest i old_end.0 (length new - place) few (omega (arith, old_end.1, length-map (drop k bs) extent_of)) (
              omega (arith, same_tail first laws old new cut is, meeting.0, is.new_within),
              omega (arith, rest_len, new_place, place_in),
              ap bytes_in (drop-map extent_of old_end.0 (drop k bs)) ∙ bytes_extents (drop old_end.0 (drop k bs))
                  ∙ omega (arith, bytes_take_drop old_end.0 (drop k bs), bytes_take_drop k bs, bytes_all first laws old, old_end.2, at_old.1.1, same_tail first laws old new cut is, place_in, meeting.0, is.old_within, is.new_within),
            )

        -- where the new blocks end, in the new text
        new_end : IsEndOf first new (kept.blocks + length w.extents.items) to
        new_end =
            let bs : List Block = blocks first old in
            let k : ℕ = kept.blocks in
            let m : ℕ = length w.extents.items in
            let p : ℕ = bytes_of (take k bs) in
            let same : take k bs ≡ take k (blocks first new) = front_stays first laws old new cut is kept.blocks kept_some kept_far in
            let some : k ≤ length (blocks first new) = front_within first laws old new cut is kept.blocks kept_some kept_far in
            let behind : drop k (blocks first new) ≡ blocks first (drop p new) = rest_blocks first laws old new cut is kept.blocks kept_some kept_far in
            let p_in : p ≤ length new = omega (arith, ap bytes_of same, bytes_before first laws k new) in
            let rest_len : length (drop p new) ≡ length new - p = length-drop p new in (
              omega (arith, there.many, ap length behind, length-drop k (blocks first new)),
              omega (arith, bytes_add k m (blocks first new), ap bytes_of same, ap (λ (cs : List Block). bytes_of (take m cs)) behind, there.meet.1, to_is),
            )

        -- and in the old one
        old_end : IsEndOf first old (kept.blocks + w.passed.blocks) (cut.old_end + (to - cut.new_end))
        old_end =
            let bs : List Block = blocks first old in
            let k : ℕ = kept.blocks in
            let j : ℕ = w.passed.blocks in
            let tails : length old - cut.old_end ≡ length new - cut.new_end = same_tail first laws old new cut is in (
              omega (arith, passed_within, kept_some, length-drop k bs),
              omega (arith, bytes_add k j bs, bytes_take_drop j (drop k bs), bytes_take_drop k bs, bytes_all first laws old, passed_left, to_is, tails, there.meet.0, is.old_within, is.new_within),
            )

        -- the bytes from the last kept block to the first meeting
        pub reparsed : AreReparsed first old new cut (record { start = kept.bytes; end = to })
        reparsed =
            let bs : List Block = blocks first old in
            let k : ℕ = kept.blocks in
            let m : ℕ = length w.extents.items in
            let j : ℕ = w.passed.blocks in
            let p_is : kept.bytes ≡ bytes_of (take k bs) = kept_bytes in
            let tails : length old - cut.old_end ≡ length new - cut.new_end = same_tail first laws old new cut is in
            record {
              untouched = (k, (kept_some, sym kept_bytes), kept_far);
              last = λ place e. elim (cases_lt k e.0) as (λ _. place ≤ kept.bytes) [
                | inl more ↦ absurd (omega (arith, e.2, reach_mono (k + 1) e.0 bs (omega arith), reach_taken (k + 1) bs, ap (λ (es : List Extent). reach_in (take (k + 1) es)) are, untouched.most (omega (arith, e.1.0, ap length are, length-map bs extent_of))))
                | inr few ↦ omega (arith, e.1.1, p_is, bytes_mono e.0 k bs few)
              ];
              meeting = (
                omega (arith, to_is, tails, there.meet.0, is.new_within),
                (k + m, new_end),
                (k + j, old_end),
              );
              earliest = λ place meeting. elim (cases_lt place to) as (λ _. to ≤ place) [
                | inl less ↦ absurd (not_earlier place meeting less)
                | inr late ↦ late
              ];
            }

        -- the trees from the last kept block to the first meeting
        pub seams : AreSeams first old new cut (record { start = kept.bytes; end = to }) kept.nodes (kept.nodes + w.passed.nodes) (length w.nodes.items)
        seams =
            let bs : List Block = blocks first old in
            let k : ℕ = kept.blocks in
            let m : ℕ = length w.extents.items in
            let j : ℕ = w.passed.blocks in
            let same : take k bs ≡ take k (blocks first new) = front_stays first laws old new cut is kept.blocks kept_some kept_far in
            let some : k ≤ length (blocks first new) = front_within first laws old new cut is kept.blocks kept_some kept_far in
            let behind : drop k (blocks first new) ≡ blocks first (drop (bytes_of (take k bs)) new) = rest_blocks first laws old new cut is kept.blocks kept_some kept_far in
            record {
              old_start = (k, (kept_some, sym kept_bytes), kept_nodes);
              old_end = (
                k + j,
                old_end,
                omega (arith, kept_nodes, there.passed_are.nodes, nodes_taken j (drop k bs), trees_more k j bs),
              );
              new_start = (k, (some, sym (kept_bytes ∙ ap bytes_of same)), kept_nodes ∙ ap (λ (cs : List Block). length (trees_of cs)) same);
              new_end = (
                k + m,
                new_end,
                omega (
                  arith,
                  kept_nodes,
                  ap (λ (cs : List Block). length (trees_of cs)) same,
                  trees_more k m (blocks first new),
                  ap (λ (cs : List Block). length (trees_of (take m cs))) behind,
                  ap length there.nodes_are,
                  length-map w.nodes.items plain,
                ),
              );
            }

      module _ (t : Tree) (plain_is : plain t ≡ document first old) where
        pub new_tree : plain (edited kept.nodes (kept.nodes + w.passed.nodes) w.nodes.items t) ≡ document first new
        new_tree =
            edited_kids first old new t kept.blocks w.passed.blocks kept.nodes (kept.nodes + w.passed.nodes) w.nodes.items
            (take (length w.extents.items) (blocks first (drop (bytes_of (take kept.blocks (blocks first old))) new)))
            plain_is kept_nodes (ap (λ n. kept.nodes + n) (there.passed_are.nodes ∙ nodes_taken w.passed.blocks (drop kept.blocks (blocks first old)))) there.nodes_are all_blocks

        pub nodes_fit : kept.nodes + w.passed.nodes ≤ length (trees t.children)
        nodes_fit =
            let olds = blocks first old in
            omega (
              arith,
              kept_nodes,
              there.passed_are.nodes,
              nodes_taken w.passed.blocks (drop kept.blocks olds),
              ap length (trees_parts kept.blocks olds),
              length-append (trees_of (take kept.blocks olds)) (trees_of (drop kept.blocks olds)),
              ap length (trees_parts w.passed.blocks (drop kept.blocks olds)),
              length-append (trees_of (take w.passed.blocks (drop kept.blocks olds))) (trees_of (drop w.passed.blocks (drop kept.blocks olds))),
              ap length (kids_are first old t plain_is),
              length-map (trees t.children) plain,
            )

  -- what is parsed of a whole text are all of its blocks
  pub whole_blocks : (source : List ℕ) (olds : List Extent) (w : NewBlocks) → AreNewBlocks first source olds 0 w → take (length w.extents.items) (blocks first source) ≡ blocks first source
  whole_blocks source olds w is =
      let m : ℕ = length w.extents.items in
      let none : drop m (blocks first source) ≡ [] =
      drop_blocks first laws m source is.many
      ∙ blocks_none first laws (drop (bytes_of (take m (blocks first source))) source) (omega (arith, length-drop (bytes_of (take m (blocks first source))) source, is.meet.0, is.meet.1)) in
      sym (append-nil (take m (blocks first source))) ∙ ap (λ bs. take m (blocks first source) ++ bs) (sym none) ∙ take-append-drop m (blocks first source)
