-- What an update makes of a tree.
use Rattle.std.proofs.Common.{◌≡◌, ℕ, suc, ◌+◌, ◌<◌, ◌≤◌, ◌^◌, inl, inr, true, List, [], ◌∷◌, length, get_or, refl, sym, ap, subst, ◌∙◌, arith, Some, None}
use Rattle.std.proofs.lemmas.Bool.Decides.{nat_tests}
use Rattle.typst_node.specs.Tree.{Content, AsLeaf, AsError, AsInner, Tree, Forest, none, trees, forest, IsInner, Label}
use Rattle.typst_node.specs.Labels.{number, bound, bound_of}
use Rattle.typst_node.specs.Preorder.{preorder}
use Rattle.typst_node.specs.Count.{count}
use Rattle.typst_node.specs.Plain.{plain}
use Rattle.typst_node.specs.Numbered.{IsNumbered, IsNumberedFor}
use Rattle.typst_node.specs.Numbering.{IsTooShort}
use Rattle.typst_node.specs.Paths.{IsPath, no_tree, tree_at, with_children}
use Rattle.typst_node.specs.PlainEdit.{TreeFits}
use Rattle.typst_node.specs.Edit.{Fits, edited_by}
use Rattle.typst_node.specs.Put.{with_span}
use Rattle.typst_node.specs.Moves.{NumberMoves, followed, is_within, no_moves}
use Rattle.typst_node.specs.Following.{AllGoOnOrGo}
use Rattle.typst_node.specs.Narrower.{GoesOnWithin, EndsOnAs}
use Rattle.typst_node.specs.Refusals.{LacksNumbers}
use Rattle.typst_node.specs.Reconciled.{IsReconciled, IsUnreconciledBy}
use Rattle.typst_node.specs.Updated.{edit_to, all_gone, IsRootUpdated, IsUpdated}
use Rattle.typst_node.specs.declared.node.replace.ReplaceError.{ReplaceError}
use Rattle.typst_node.specs.declared.node.replace.ReplaceError.TheVariants.{Unnumberable, Overflow, Memory}
use Rattle.typst_node.specs.declared.node.update.Below.{Below}
use Rattle.typst_node.proofs.EditsBelow.{child_numbered}
use Rattle.typst_node.proofs.Following.{followed_gone}
use Rattle.typst_node.proofs.LeafKept.{nothing_moves}
use Rattle.typst_node.proofs.Narrowed.{goes_on_plain, splice_all, tree_fits_alike}
use Rattle.typst_node.proofs.NodeNumbers.{spans_follow, spans_stay}
use Rattle.typst_node.proofs.Plain.{count_plain, same_count_of_all}
use Rattle.typst_node.proofs.Trees.{forest-trees}
use Rattle.typst_node.proofs.Trimmed.{trimmed_plain}

-- below a path of a numbered tree there is a numbered tree
pub numbered_at : (path : List ℕ) (t : Tree) → IsPath path t → IsNumbered t → IsNumbered (tree_at path t)
numbered_at [] t there numbered = numbered
numbered_at (i ∷ path) t there numbered =
    numbered_at path (get_or (trees t.children) i no_tree) there.1 (child_numbered t i there.0 numbered)

-- ---- a root that goes on
module _ (old other : Tree) (on : GoesOnWithin old other) where
  pub fits_update : Fits (edit_to old other) old
  fits_update = (tt, on.0.inner, omega arith, omega arith)

  whole : plain (edited_by (edit_to old other) old) ≡ plain other
  whole = ap (λ ks. plain (with_children [] ks old)) (splice_all (trees old.children) (trees other.children)) ∙ goes_on_plain old other on.0

  -- an update of it isn't refused for want of numbers, and not for sums
  pub never_refused : (why : ReplaceError) → IsNumbered old → TreeFits other → IsUnreconciledBy why (edit_to old other) old → why ≡ Memory
  never_refused Memory numbered sums refused = refl
  never_refused Overflow numbered sums refused = absurd (refused.1 (tree_fits_alike other (edited_by (edit_to old other) old) (sym whole) sums))
  never_refused Unnumberable numbered sums refused = absurd (lacks refused.2)
    where
      lacks : LacksNumbers (edit_to old other) old → ⊥
      lacks (inl unfiled) = omega (arith, numbered.1, unfiled, numbered.2.in_file.0.0)
      lacks (inr few) =
          let kids = trees old.children in
          omega (
            arith,
            few.1.0,
            same_count_of_all _ _ (trimmed_plain kids (trees other.children) 0 (length kids) (omega arith) (omega arith)),
            count_plain (edited_by (edit_to old other) old),
            ap count whole,
            count_plain other,
            on.1,
          )

  -- the other tree has no more nodes than there are numbers
  pub within_fits : IsNumbered old → ¬ (IsTooShort other 2 (2 ^ 47))
  within_fits numbered (inl empty) = omega (arith, empty)
  within_fits numbered (inr few) = omega (arith, few, on.1, numbered.2.in_file.0.1, numbered.2.bounds.2.0)

  pub root_goes_on : (below : Below) (m : NumberMoves) (new : Tree) → IsReconciled (edit_to old other) old below.path.items below.touched m new → IsUpdated old other (record { below = Some below; moves = m }) new
  root_goes_on below m new made = record {
    made = (on, made);
    plain = made.plain ∙ whole;
    numbered = made.numbered;
    all = made.all;
    spans = made.spans;
  }

-- ---- a root that is a leaf, and goes on
bound_after : (c : Content) (n : ℕ) → ¬ (IsInner c) → bound_of c n ≡ n + 1
bound_after (AsLeaf kind text) n leaf = refl
bound_after (AsError text message hints) n leaf = refl
bound_after (AsInner kind limit) n leaf = absurd (leaf tt)

no_children : (f : Forest) → trees f ≡ [] → f ≡ none
no_children f is = sym (forest-trees f) ∙ ap forest is

leaf_numbered : (file : ℕ) (l : Label) (f : Forest) → f ≡ none → ¬ (IsInner l.content) → l.span.file ≡ file → 2 ≤ number l → number l < 2 ^ 47 → IsNumberedFor file (record { label = l; children = f })
leaf_numbered file l f childless leaf filed low high =
    let next : bound l ≡ number l + 1 = bound_after l.content (number l) leaf in
    subst (λ (g : Forest). IsNumberedFor file (record { label = l; children = g })) (sym childless)
    (record {
      in_file = ((filed, low, high), tt);
      in_order = (tt, tt);
      bounds = ((omega (arith, next), tt), tt, (omega (arith, next), tt), tt, tt);
    })

pub leaf_fits : (old other : Tree) → EndsOnAs old other → ¬ (IsTooShort other 2 (2 ^ 47))
leaf_fits old other ends (inl empty) = omega (arith, empty)
leaf_fits old other ends (inr few) =
    let one : count other ≡ 1 = ap (λ f. suc (length (preorder f))) (no_children other.children ends.other_childless) in
    omega (arith, few, one)

module _ (old other : Tree) (ends : EndsOnAs old other) where
  stays : AllGoOnOrGo no_moves old (with_span old.label.span other)
  stays [] there = inl ([], tt, sym ends.kind, nothing_moves (number old.label))
  stays (i ∷ p) there = absurd (omega (arith, there.0, ap length ends.childless))

  pub leaf_updated : ¬ (GoesOnWithin old other) → IsNumbered old → IsUpdated old other (record { below = None; moves = no_moves }) (with_span old.label.span other)
  leaf_updated off numbered =
      let filed = numbered.2.in_file.0 in
      record {
        made = (off, inl (ends, refl, refl));
        plain = refl;
        numbered = leaf_numbered old.label.span.file (with_span old.label.span other).label other.children (no_children other.children ends.other_childless) ends.other_leaf refl filed.1 filed.2;
        all = stays;
        spans = spans_stay old no_moves refl;
      }

-- ---- a root that is gone
gone_number : (file n : ℕ) → 2 ≤ n → n < 2 ^ 47 → followed (all_gone file) n ≡ None
gone_number file n low high =
    let within : is_within (all_gone file).gone n ≡ true = grind (arith, nat_tests, low, high) in
    followed_gone (all_gone file) n within

all_go : (old new : Tree) → IsNumbered old → AllGoOnOrGo (all_gone old.label.span.file) old new
all_go old new numbered p there =
    let at = (numbered_at p old there numbered).2.in_file.0 in
    inr (gone_number old.label.span.file (number (tree_at p old).label) at.1 at.2)

pub root_updated : (old other : Tree) (m : NumberMoves) (new : Tree) → ¬ (GoesOnWithin old other) → IsNumbered old → IsRootUpdated old other m new → IsUpdated old other (record { below = None; moves = m }) new
root_updated old other m new off numbered (inl (ends, nothing, is)) =
    subst (λ (t : Tree). IsUpdated old other (record { below = None; moves = m }) t) (sym is)
    (subst (λ (k : NumberMoves). IsUpdated old other (record { below = None; moves = k }) (with_span old.label.span other)) (sym nothing) (leaf_updated old other ends off numbered))
root_updated old other m new off numbered (inr (begins, gone, made)) =
    subst (λ (k : NumberMoves). IsUpdated old other (record { below = None; moves = k }) new) (sym gone)
    (record {
      made = (off, inr (begins, refl, made));
      plain = made.plain;
      numbered = made.numbered;
      all = all_go old new numbered;
      spans = spans_follow old.label.span.file old (all_gone old.label.span.file) (omega (arith, numbered.1, numbered.2.in_file.0.0)) (subst (λ file. IsNumberedFor file old) (sym numbered.2.in_file.0.0) numbered.2) refl;
    })
