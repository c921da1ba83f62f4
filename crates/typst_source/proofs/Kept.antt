-- What stays of the blocks of a text where a part of it gives way to other bytes.
use Rattle.std.proofs.Common.{◌≡◌, ℕ, ◌+◌, ◌-◌, ◌≤◌, List, ◌++◌, length, take, drop, sym, ap, ◌∙◌, arith, take-append-drop, length-take-le, length-drop}
use Rattle.std.proofs.lemmas.List.{length-take, drop-drop}
use Rattle.typst_source.specs.Blocks.{Block, blocks, bytes_of, reach_of}
use Rattle.typst_source.specs.Reparsed.{IsCut}
use Rattle.typst_source.specs.declared.cut.Cut.{Cut}
use Rattle.typst_source.proofs.Laws.{AreLaws}
use Rattle.typst_source.proofs.Blocks.{bytes_take_drop, drop_blocks, bytes_all, bytes_reached, kept_blocks}

module _ (first : List ℕ → Block) (laws : AreLaws first) (old new : List ℕ) (cut : Cut) (is : IsCut old new cut) where
  pub same_tail : length old - cut.old_end ≡ length new - cut.new_end
  same_tail = omega (arith, ap length is.behind, length-drop cut.old_end old, length-drop cut.new_end new)

  -- the ends of both texts, of no more bytes than come after the cut
  same_rest : (left : ℕ) → left ≤ length old - cut.old_end → drop (length old - left) old ≡ drop (length new - left) new
  same_rest left few =
      let more : ℕ = (length old - cut.old_end) - left in
      let in_old : cut.old_end + more ≡ length old - left = omega (arith, is.old_within) in
      let in_new : cut.new_end + more ≡ length new - left = omega (arith, same_tail, is.new_within) in
      ap (λ i. drop i old) (sym in_old) ∙ sym (drop-drop more cut.old_end old) ∙ ap (drop more) is.behind
      ∙ drop-drop more cut.new_end new ∙ ap (λ i. drop i new) in_new

  module _ (k : ℕ) (some : k ≤ length (blocks first old)) (far : reach_of (take k (blocks first old)) ≤ cut.start) where
    -- the blocks for which the parser looked only before the cut are those of the new text
    pub front_stays : take k (blocks first old) ≡ take k (blocks first new)
    front_stays = kept_blocks first laws k cut.start old new some far is.before

    pub front_within : k ≤ length (blocks first new)
    front_within = omega (arith, length-take-le k (blocks first old) some, ap length front_stays, length-take k (blocks first new))

    pub front_before : bytes_of (take k (blocks first old)) ≤ cut.start
    front_before = omega (arith, bytes_reached first laws k old some, far)

    -- from there on the blocks are those of the new text's rest
    pub rest_blocks : drop k (blocks first new) ≡ blocks first (drop (bytes_of (take k (blocks first old))) new)
    rest_blocks = drop_blocks first laws k new front_within ∙ ap (λ (bs : List Block). blocks first (drop (bytes_of bs) new)) (sym front_stays)

    module _ (m j left : ℕ) (many : m ≤ length (blocks first (drop (bytes_of (take k (blocks first old))) new))) (few : left ≤ length old - cut.old_end)
        (new_left : left + bytes_of (take m (blocks first (drop (bytes_of (take k (blocks first old))) new))) ≡ length (drop (bytes_of (take k (blocks first old))) new))
        (passed : j ≤ length (drop k (blocks first old))) (old_left : bytes_of (drop j (drop k (blocks first old))) ≡ left) where
      -- the blocks from the meeting on stay
      pub back_stays : drop m (blocks first (drop (bytes_of (take k (blocks first old))) new)) ≡ drop j (drop k (blocks first old))
      back_stays =
          let p : ℕ = bytes_of (take k (blocks first old)) in
          let rest : List ℕ = drop p new in
          let q : ℕ = bytes_of (take m (blocks first rest)) in
          let to_rest : drop m (blocks first rest) ≡ blocks first (drop (p + q) new) = drop_blocks first laws m rest many ∙ ap (blocks first) (drop-drop q p new) in
          let new_at : p + q ≡ length new - left = omega (arith, new_left, length-drop p new, front_before, is.new_ordered, is.new_within) in
          let of_old : drop j (drop k (blocks first old)) ≡ drop (k + j) (blocks first old) = drop-drop j k (blocks first old) in
          let old_some : k + j ≤ length (blocks first old) = omega (arith, passed, length-drop k (blocks first old)) in
          let old_at : bytes_of (take (k + j) (blocks first old)) ≡ length old - left =
          omega (arith, bytes_take_drop (k + j) (blocks first old), bytes_all first laws old, ap bytes_of of_old, old_left) in
          to_rest ∙ ap (λ i. blocks first (drop i new)) new_at
          ∙ ap (blocks first) (sym (same_rest left few))
          ∙ ap (λ i. blocks first (drop i old)) (sym old_at)
          ∙ sym (drop_blocks first laws (k + j) old old_some) ∙ sym of_old

      -- the blocks of the new text: those before, those that were parsed anew, and those after them
      pub changed_blocks : blocks first new ≡ take k (blocks first old) ++ (take m (blocks first (drop (bytes_of (take k (blocks first old))) new)) ++ drop j (drop k (blocks first old)))
      changed_blocks =
          sym (take-append-drop k (blocks first new))
          ∙ (λ i. sym front_stays i ++ rest_blocks i)
          ∙ ap (λ bs. take k (blocks first old) ++ bs)
          (sym (take-append-drop m (blocks first (drop (bytes_of (take k (blocks first old))) new)))
          ∙ ap (λ bs. take m (blocks first (drop (bytes_of (take k (blocks first old))) new)) ++ bs) back_stays)
