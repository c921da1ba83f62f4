-- What is fed to a hash by a loop.
use Rattle.std.proofs.Common.{◌≡◌, ℕ, ◌+◌, ◌<◌, ◌≤◌, List, [], ◌∷◌, ◌++◌, length, map, drop, get_or, sym, ap, ◌∙◌, add-one, drop-cons}
use Rattle.std.proofs.lemmas.List.{length-map, drop_all}
use Rattle.std.proofs.lemmas.List.Sums.{fold-append}
use Rattle.std.specs.Prelude.{fold}
use Rattle.std.specs.List.{flat_map}
use Rattle.std.specs.Hash as fed
use Rattle.std.specs.Hash.{HashWrites}
use Rattle.typst_node.specs.Tree.{Tree, Forest, forest, trees}
use Rattle.typst_node.specs.Hashed.{forest_input, tree_input}

next : {X : Type 0} (xs : List X) (k : ℕ) (d : X) → k < length xs → drop k xs ≡ get_or xs k d ∷ drop (k + 1) xs
next xs k d h = rw add-one (drop-cons xs k d h)

module _ {S X Y : Type 0} (W : S → List ℕ → S) (F : Y → HashWrites) (f : X → Y) where
  -- one more item is fed
  pub fed_step : (xs : List X) (k : ℕ) (x : X) (s u : S) → k < length xs → x ≡ get_or xs k x → u ≡ fold W s (F (f x))
      → fold W u (flat_map F (map f (drop (k + 1) xs))) ≡ fold W s (flat_map F (map f (drop k xs)))
  fed_step xs k x s u h is e =
      ap (λ r. fold W r (flat_map F (map f (drop (k + 1) xs)))) e
      ∙ (sym (fold-append W s (F (f x)) (flat_map F (map f (drop (k + 1) xs))))
      ∙ (ap (λ y. fold W s (F (f y) ++ flat_map F (map f (drop (k + 1) xs)))) is ∙ ap (λ ys. fold W s (flat_map F (map f ys))) (sym (next xs k x h))))

  -- all items are fed, after their number
  pub fed_all : (xs : List X) (n k : ℕ) (s u v : S) → n ≡ length xs → length xs ≤ k → u ≡ fold W s (fed.usize n) → fold W v (flat_map F (map f (drop k xs))) ≡ fold W u (flat_map F (map f xs))
      → v ≡ fold W s (fed.usize (length (map f xs)) ++ flat_map F (map f xs))
  fed_all xs n k s u v many all first rest =
      let none : drop k xs ≡ [] = drop_all k xs all in
      ap (λ ys. fold W v (flat_map F (map f ys))) (sym none)
      ∙ (rest ∙ (ap (λ r. fold W r (flat_map F (map f xs))) (first ∙ ap (λ m. fold W s (fed.usize m)) (many ∙ sym (length-map xs f)))
      ∙ sym (fold-append W s (fed.usize (length (map f xs))) (flat_map F (map f xs)))))

module _ {S : Type 0} (W : S → List ℕ → S) where
  -- one more tree is fed
  pub trees_step : (xs : List Tree) (k : ℕ) (x : Tree) (s u : S) → k < length xs → x ≡ get_or xs k x → u ≡ fold W s (tree_input x)
      → fold W u (forest_input (forest (drop (k + 1) xs))) ≡ fold W s (forest_input (forest (drop k xs)))
  trees_step xs k x s u h is e =
      let rest = forest_input (forest (drop (k + 1) xs)) in
      let one : drop k xs ≡ x ∷ drop (k + 1) xs = next xs k x h ∙ ap (λ y. y ∷ drop (k + 1) xs) (sym is) in
      ap (λ r. fold W r rest) e ∙ (sym (fold-append W s (tree_input x) rest) ∙ ap (λ ys. fold W s (forest_input (forest ys))) (sym one))

  -- all are fed, after a label and their number
  pub trees_all : (xs : List Tree) (f : Forest) (us : HashWrites) (n k : ℕ) (s u v w : S) → f ≡ forest xs → xs ≡ trees f → n ≡ length xs → length xs ≤ k → u ≡ fold W s us → v ≡ fold W u (fed.usize n)
      → fold W w (forest_input (forest (drop k xs))) ≡ fold W v (forest_input (forest xs)) → w ≡ fold W s (us ++ (fed.usize (length (trees f)) ++ forest_input f))
  trees_all xs f us n k s u v w is kids many all label first rest =
      let none : drop k xs ≡ [] = drop_all k xs all in
      let number : n ≡ length (trees f) = many ∙ ap length kids in
      ap (λ ys. fold W w (forest_input (forest ys))) (sym none)
      ∙ (rest ∙ (ap (λ r. fold W r (forest_input (forest xs))) (first ∙ (ap (λ m. fold W u (fed.usize m)) number ∙ ap (λ r. fold W r (fed.usize (length (trees f)))) label))
      ∙ (ap (λ g. fold W (fold W (fold W s us) (fed.usize (length (trees f)))) (forest_input g)) (sym is)
      ∙ (sym (fold-append W (fold W s us) (fed.usize (length (trees f))) (forest_input f)) ∙ sym (fold-append W s us (fed.usize (length (trees f)) ++ forest_input f))))))
