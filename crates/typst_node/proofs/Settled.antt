-- Sums, diagnoses and ends after a part of a child list was exchanged.
use Rattle.std.proofs.Common.{◌≡◌, ◌%◌, ℕ, suc, zero, ◌+◌, ◌-◌, ◌<◌, ◌≤◌, ◌^◌, Bool, true, false, ◌||◌, List, [], ◌∷◌, ◌++◌, length, map, take, drop, refl, sym, ap, ◌∙◌, arith, append_assoc, append-nil, length-append, length-take, length-drop, get_or, get_or-set_same, set, drop-cons}
use Rattle.std.proofs.lemmas.List.{take-append-drop, take_more, take_more_set, take_at, drop_at, take-set, drop-set}
use Rattle.std.proofs.Math.Seq.{take-add}
use Rattle.std.proofs.lemmas.List.Folds.{list_any-append, drop_split}
use Rattle.std.specs.Prelude.{slice_range}
use Rattle.std.specs.List.{list_any, splice}
use Rattle.typst_node.specs.Tree.{Label, Tree, forest}
use Rattle.typst_node.specs.Preorder.{preorder, nodes}
use Rattle.typst_node.specs.Text.{text, text_of_all}
use Rattle.std.specs.Prelude.{Option, Some, None}
use Rattle.typst_node.specs.Ends.{moved}
use Rattle.typst_node.specs.ChildEnds.{ends_from, AreEnds, HavePlace, IsStaleList, AreStale}
use Rattle.typst_node.proofs.Trees.{length-text_of_all-cons, child_end_is, length_of_ends}
use Rattle.typst_node.proofs.Opens.{length_text_append, part_text, splice_text, splice_count}
use Rattle.typst_node.specs.Count.{count, count_of_all}
use Rattle.typst_node.specs.Diagnosis.{has_error, has_warning, is_error, is_warned}
use Rattle.typst_node.specs.View.{IsMeasured}
use Rattle.typst_node.specs.Sums.{AreSums}
use Rattle.typst_node.specs.Stale.{IsStale}
use Rattle.typst_node.specs.declared.node.InnerNode.{InnerNode}
use Rattle.typst_node.specs.declared.node.inner.Sums.{Sums}

-- a beginning is a shorter one and what follows it
pub take_parts : {X : Type 0} (xs : List X) (a b : ℕ) → a ≤ b → take a xs ++ slice_range xs a b ≡ take b xs
take_parts xs a b h = let many : a + (b - a) ≡ b = omega arith in sym (take-add a (b - a) xs) ∙ ap (λ n. take n xs) many

-- the nodes of trees side by side
pub preorder_append : (ts us : List Tree) → preorder (forest (ts ++ us)) ≡ preorder (forest ts) ++ preorder (forest us)
preorder_append [] us = refl
preorder_append (t ∷ ts) us = ap (λ ls. t.label ∷ (preorder t.children ++ ls)) (preorder_append ts us) ∙ ap (λ ls. t.label ∷ ls) (sym (append_assoc (preorder t.children) (preorder (forest ts)) (preorder (forest us))))

pub any_append : (p : Label → Bool) (ts us : List Tree) → list_any p (preorder (forest (ts ++ us))) ≡ (list_any p (preorder (forest ts)) || list_any p (preorder (forest us)))
any_append p ts us = ap (list_any p) (preorder_append ts us) ∙ list_any-append p (preorder (forest ts)) (preorder (forest us))

or_swap : (a b c : Bool) → (a || (b || c)) ≡ ((a || c) || b)
or_swap true b c = refl
or_swap false true true = refl
or_swap false true false = refl
or_swap false false true = refl
or_swap false false false = refl

-- the nodes of all trees are those of a part and those of the rest
pub any_parts : (p : Label → Bool) (ts : List Tree) (from to : ℕ) → from ≤ to
    → list_any p (preorder (forest ts)) ≡ (list_any p (preorder (forest (take from ts ++ drop to ts))) || list_any p (preorder (forest (slice_range ts from to))))
any_parts p ts from to h =
    let split : ts ≡ take from ts ++ (slice_range ts from to ++ drop to ts) = sym (take-append-drop from ts) ∙ ap (λ zs. take from ts ++ zs) (drop_split ts from to h) in
    ap (λ zs. list_any p (preorder (forest zs))) split
    ∙ (any_append p (take from ts) (slice_range ts from to ++ drop to ts)
    ∙ (ap (λ b. list_any p (preorder (forest (take from ts))) || b) (any_append p (slice_range ts from to) (drop to ts))
    ∙ (or_swap (list_any p (preorder (forest (take from ts)))) (list_any p (preorder (forest (slice_range ts from to)))) (list_any p (preorder (forest (drop to ts))))
    ∙ ap (λ b. b || list_any p (preorder (forest (slice_range ts from to)))) (sym (any_append p (take from ts) (drop to ts))))))

or_true : (b : Bool) → (b || true) ≡ true
or_true true = refl
or_true false = refl

-- what was held before, without what is gone and with what was added
pub had_or_added : (had gone rest added : Bool) → had ≡ (gone || rest) → (gone ≡ true → added ≡ true) → (had || added) ≡ (rest || added)
had_or_added had true rest true e h = ap (λ b. b || true) e ∙ sym (or_true rest)
had_or_added had true rest false e h = let a : false ≡ true = h refl in cc
had_or_added had false rest added e h = ap (λ b. b || added) e

-- the diagnosis after an exchange where all that is gone is there again
pub had_or_added_all : (p : Label → Bool) (ts : List Tree) (from to : ℕ) (had gone added : Bool) → from ≤ to
    → had ≡ (gone || list_any p (preorder (forest (take from ts ++ drop to ts)))) → added ≡ list_any p (preorder (forest (slice_range ts from to))) → (gone ≡ true → added ≡ true)
    → (had || added) ≡ list_any p (preorder (forest ts))
had_or_added_all p ts from to had gone added order e is h =
    had_or_added had gone (list_any p (preorder (forest (take from ts ++ drop to ts)))) added e h
    ∙ (ap (λ b. list_any p (preorder (forest (take from ts ++ drop to ts))) || b) is ∙ sym (any_parts p ts from to order))

-- the item at a place of a beginning
pub get_take : {X : Type 0} (i n : ℕ) (xs : List X) (d : X) → i < n → get_or (take n xs) i d ≡ get_or xs i d
get_take i zero xs d h = absurd (omega arith)
get_take i (suc n) [] d h = refl
get_take zero (suc n) (x ∷ xs) d h = refl
get_take (suc i) (suc n) (x ∷ xs) d h = get_take i n xs d (omega arith)

-- where the text of the children before a place ends
pub start_at : (es : List ℕ) (ts : List Tree) (n : ℕ) → 0 < n → n ≤ length ts → take n es ≡ take n (ends_from 0 ts) → get_or es (n - 1) 0 ≡ length (text_of_all (take n ts)) % 2 ^ 32
start_at es ts n some few same =
    sym (get_take (n - 1) n es 0 (omega arith)) ∙ (ap (λ ys. get_or ys (n - 1) 0) same ∙ (get_take (n - 1) n (ends_from 0 ts) 0 (omega arith)
    ∙ (child_end_is ts (n - 1) 0 (omega arith) ∙ ap (λ m. length (text_of_all (take m ts)) % 2 ^ 32) (let e : n - 1 + 1 ≡ n = omega arith in e))))

pub start_none : (ts : List Tree) (n : ℕ) → n ≡ 0 → 0 ≡ length (text_of_all (take n ts)) % 2 ^ 32
start_none ts n e = ap (λ m. length (text_of_all (take m ts)) % 2 ^ 32) (sym e)

-- where the text begins whose end is written next
pub end_before : (es : List ℕ) (ts : List Tree) (n : ℕ) → n ≤ length ts → take n es ≡ take n (ends_from 0 ts) → get_or (0 ∷ es) n 0 ≡ length (text_of_all (take n ts)) % 2 ^ 32
end_before es ts zero few same = refl
end_before es ts (suc n) few same =
    let e : n ≡ suc n - 1 = omega arith in
    ap (λ k. get_or es k 0) e ∙ start_at es ts (suc n) (omega arith) few same

-- the text of one more
pub text_more : (ts : List Tree) (i : ℕ) (d : Tree) → i < length ts → length (text_of_all (take (i + 1) ts)) ≡ length (text_of_all (take i ts)) + length (text (get_or ts i d))
text_more ts i d h =
    ap (λ us. length (text_of_all us)) (take_more ts i d h) ∙ omega (arith, length_text_append (take i ts) (get_or ts i d ∷ []), length-text_of_all-cons (get_or ts i d) [])

pub text_front : (ts : List Tree) (i : ℕ) → length (text_of_all (take i ts)) + length (text_of_all (drop i ts)) ≡ length (text_of_all ts)
text_front ts i = sym (length_text_append (take i ts) (drop i ts)) ∙ ap (λ us. length (text_of_all us)) (take-append-drop i ts)

-- one more end is written
pub end_more : (es : List ℕ) (ts : List Tree) (i end : ℕ) → i < length ts → i < length es → take i es ≡ take i (ends_from 0 ts) → end ≡ length (text_of_all (take (i + 1) ts)) % 2 ^ 32 → take (i + 1) (set es i end) ≡ take (i + 1) (ends_from 0 ts)
end_more es ts i end h k same is =
    let many : i < length (ends_from 0 ts) = omega (arith, length_of_ends 0 ts) in
    take_more_set es i end k ∙ ((λ j. same j ++ (is ∙ sym (child_end_is ts i 0 h)) j ∷ []) ∙ sym (take_more (ends_from 0 ts) i 0 many))

-- an end that is moved by a difference
moved_end : (a gone added n : ℕ) → moved gone added ((a + gone + n) % 2 ^ 32) ≡ (a + added + n) % 2 ^ 32
moved_end a gone added n = omega arith

-- ends that are moved by a difference
pub shifted : (a gone added : ℕ) (ts : List Tree) → map (moved gone added) (ends_from (a + gone) ts) ≡ ends_from (a + added) ts
shifted a gone added [] = refl
shifted a gone added (t ∷ ts) =
    let one : a + gone + length (text t) ≡ (a + length (text t)) + gone = omega arith in
    let two : (a + length (text t)) + added ≡ a + added + length (text t) = omega arith in
    (λ i. moved_end a gone added (length (text t)) i ∷ map (moved gone added) (ends_from (one i) ts))
    ∙ (ap (λ es. ((a + added + length (text t)) % 2 ^ 32) ∷ es) (shifted (a + length (text t)) gone added ts) ∙ ap (λ n. ((a + added + length (text t)) % 2 ^ 32) ∷ ends_from n ts) two)

-- the ends of the trees after a place
pub drop_ends : (at : ℕ) (ts : List Tree) (n : ℕ) → n ≤ length ts → drop n (ends_from at ts) ≡ ends_from (at + length (text_of_all (take n ts))) (drop n ts)
drop_ends at ts zero h = ap (λ m. ends_from m ts) (omega arith)
drop_ends at [] (suc n) h = absurd (omega arith)
drop_ends at (t ∷ ts) (suc n) h =
    drop_ends (at + length (text t)) ts n (omega arith)
    ∙ ap (λ m. ends_from m (drop n ts)) (let e : at + length (text t) + length (text_of_all (take n ts)) ≡ at + length (text_of_all (t ∷ take n ts)) = omega (arith, length-text_of_all-cons t (take n ts)) in e)

-- the text of a beginning is that of a shorter one and of what follows it
pub text_parts : (ts : List Tree) (from to : ℕ) → from ≤ to → length (text_of_all (take from ts)) + length (text_of_all (slice_range ts from to)) ≡ length (text_of_all (take to ts))
text_parts ts from to order = sym (length_text_append (take from ts) (slice_range ts from to)) ∙ ap (λ us. length (text_of_all us)) (take_parts ts from to order)

-- the ends before a place, and those after it
pub ends_whole : (es tail : List ℕ) (ts : List Tree) (from to added : ℕ) → from ≤ to → to ≤ length ts → take to es ≡ take to (ends_from 0 ts) → added ≡ length (text_of_all (slice_range ts from to))
    → tail ≡ ends_from (length (text_of_all (take from ts)) + added) (drop to ts) → take to es ++ tail ≡ ends_from 0 ts
ends_whole es tail ts from to added order inside same is left =
    let parts : length (text_of_all (take from ts)) + added ≡ 0 + length (text_of_all (take to ts)) = omega (arith, text_parts ts from to order) in
    (λ i. same i ++ (left ∙ (ap (λ n. ends_from n (drop to ts)) parts ∙ sym (drop_ends 0 ts to inside))) i) ∙ take-append-drop to (ends_from 0 ts)

-- the end of a single child is that of what stood there, where their lengths are the same
pub one_end : (es : List ℕ) (ts : List Tree) (from to added : ℕ) → from ≤ to → to ≤ length ts → to ≡ suc from → added ≡ length (text_of_all (slice_range ts from to))
    → take to es ≡ take from (ends_from 0 ts) ++ ((length (text_of_all (take from ts)) + added) % 2 ^ 32) ∷ [] → take to es ≡ take to (ends_from 0 ts)
one_end es ts from to added order inside one is same =
    let there : from < length ts = omega arith in
    let more : from < length (ends_from 0 ts) = omega (arith, length_of_ends 0 ts) in
    let end : (length (text_of_all (take from ts)) + added) % 2 ^ 32 ≡ get_or (ends_from 0 ts) from 0 =
    omega (arith, text_parts ts from to order, is, ap (λ n. length (text_of_all (take n ts))) (let e : from + 1 ≡ to = omega arith in e)) ∙ sym (child_end_is ts from 0 there) in
    same ∙ (ap (λ e. take from (ends_from 0 ts) ++ e ∷ []) end
    ∙ (sym (take_more (ends_from 0 ts) from 0 more) ∙ ap (λ n. take n (ends_from 0 ts)) (let e : from + 1 ≡ to = omega arith in e)))

-- if a child is replaced by one of the same length, the ends are right
pub ends_stay : (ends : List ℕ) (ts : List Tree) (from to many gone added : ℕ) → many ≡ 1 → to ≡ suc from → from + many ≤ length ts → gone ≡ added
    → added ≡ length (text_of_all (slice_range ts from (from + many))) → IsStaleList from to many gone ends ts → ends ≡ ends_from 0 ts
ends_stay ends ts from to many gone added came went inside same is stale =
    let order : from ≤ from + many = omega arith in
    let one : from + many ≡ suc from = omega arith in
    let before : take (from + many) ends ≡ take (from + many) (ends_from 0 ts) =
    one_end ends ts from (from + many) added order inside one is
    (ap (λ n. take n ends) one ∙ (stale.one came went ∙ ap (λ n. take from (ends_from 0 ts) ++ ((length (text_of_all (take from ts)) + n) % 2 ^ 32) ∷ []) same)) in
    sym (take-append-drop (from + many) ends)
    ∙ ends_whole ends (drop (from + many) ends) ts from (from + many) added order inside before is
    (stale.behind ∙ ap (λ n. ends_from (length (text_of_all (take from ts)) + n) (drop (from + many) ts)) same)

-- the ends of a beginning
take_ends : (at n : ℕ) (ts : List Tree) → take n (ends_from at ts) ≡ ends_from at (take n ts)
take_ends at zero ts = refl
take_ends at (suc n) [] = refl
take_ends at (suc n) (t ∷ ts) = ap (λ es. ((at + length (text t)) % 2 ^ 32) ∷ es) (take_ends (at + length (text t)) n ts)

or_comm : (a b : Bool) → (a || b) ≡ (b || a)
or_comm true true = refl
or_comm true false = refl
or_comm false true = refl
or_comm false false = refl

-- the parts of a list with others in the place of some
module _ {X : Type 0} (xs ys : List X) (from to : ℕ) (order : from ≤ to) (inside : to ≤ length xs) where
  pub splice_front : take from (splice xs from to ys) ≡ take from xs
  splice_front = take_at (take from xs) (ys ++ drop to xs) from (omega (arith, length-take from xs))

  pub splice_back : drop (from + length ys) (splice xs from to ys) ≡ drop to xs
  splice_back = ap (drop (from + length ys)) (sym (append_assoc (take from xs) ys (drop to xs))) ∙ drop_at (take from xs ++ ys) (drop to xs) (from + length ys) (omega (arith, length-append (take from xs) ys, length-take from xs))

  pub splice_middle : slice_range (splice xs from to ys) from (from + length ys) ≡ ys
  splice_middle =
      let many : from + length ys - from ≡ length ys = omega arith in
      (λ i. take (many i) (drop_at (take from xs) (ys ++ drop to xs) from (omega (arith, length-take from xs)) i)) ∙ take_at ys (drop to xs) (length ys) refl

  pub length_splice : length (splice xs from to ys) + (to - from) ≡ length xs + length ys
  length_splice = omega (arith, length-append (take from xs) (ys ++ drop to xs), length-append ys (drop to xs), length-take from xs, length-drop to xs)

-- the length of the text after some children took the place of others
pub len_after : (xs ys : List Tree) (from to len gone added : ℕ) → from ≤ to → len ≡ length (text_of_all xs) → gone ≡ length (text_of_all (slice_range xs from to)) → added ≡ length (text_of_all ys)
    → (gone ≤ len) × (len - gone + added ≡ length (text_of_all (splice xs from to ys)))
len_after xs ys from to len gone added order is is_gone is_added =
    (omega (arith, part_text xs from to order), omega (arith, part_text xs from to order, splice_text xs ys from to order))

-- one item
pub set_splice : {X : Type 0} (xs : List X) (i : ℕ) (y : X) → i < length xs → set xs i y ≡ splice xs i (i + 1) (y ∷ [])
set_splice xs i y h = sym (take-append-drop i (set xs i y)) ∙ (λ j. take-set xs i y j ++ drop-set xs i y h j)

pub slice_one : {X : Type 0} (xs : List X) (i : ℕ) (d : X) → i < length xs → get_or xs i d ∷ [] ≡ slice_range xs i (i + 1)
slice_one xs i d h =
    let many : i + 1 - i ≡ 1 = omega arith in
    sym ((λ j. take (many j) (drop-cons xs i d h j)))

-- the text of a single tree
text_one : (t : Tree) → length (text t) ≡ length (text_of_all (t ∷ []))
text_one t = omega (arith, length-text_of_all-cons t [])

-- the sums of a single tree
pub sums_of_one : (s : Sums) (t : Tree) → s.len ≡ length (text t) → s.descendants ≡ count t → s.diagnosis.errors ≡ has_error t → s.diagnosis.warnings ≡ has_warning t → AreSums s (t ∷ [])
sums_of_one s t len descendants errors warnings =
    let one : nodes t ≡ preorder (forest (t ∷ [])) = ap (λ ls. t.label ∷ ls) (sym (append-nil (preorder t.children))) in
    record { len = len ∙ text_one t; descendants = descendants ∙ ap length one; errors = errors ∙ ap (list_any is_error) one; warnings = warnings ∙ ap (list_any is_warned) one }

-- the length of the text after one child took the place of another
pub len_after_one : (xs : List Tree) (i len gone added : ℕ) (was there child : Tree) → i < length xs → len ≡ length (text_of_all xs)
    → gone ≡ length (text was) → was ≡ get_or xs i was → added ≡ length (text there) → there ≡ get_or (set xs i child) i there
    → (gone ≤ len) × (len - gone + added ≡ length (text_of_all (set xs i child)))
len_after_one xs i len gone added was there child h is is_gone is_was is_added is_there =
    let old : gone ≡ length (text_of_all (slice_range xs i (i + 1))) = is_gone ∙ text_one was ∙ ap (λ ts. length (text_of_all ts)) (ap (λ x. x ∷ []) is_was ∙ slice_one xs i was h) in
    let new : added ≡ length (text_of_all (child ∷ [])) = is_added ∙ text_one there ∙ ap (λ x. length (text_of_all (x ∷ []))) (is_there ∙ get_or-set_same xs i child there h) in
    let after = len_after xs (child ∷ []) i (i + 1) len gone added (omega arith) is old new in
    (after.0, after.1 ∙ ap (λ ts. length (text_of_all ts)) (sym (set_splice xs i child h)))

-- where one child comes in the place of another, the ends have place for its own
pub place_for_one : (kept : Option (List ℕ)) (ts : List Tree) (i : ℕ) → i < length ts → AreEnds kept ts → HavePlace i (i + 1) 1 kept ts
place_for_one None ts i h few = omega arith
place_for_one (Some ends) ts i h same = record {
  len = omega (arith, ap length same, length_of_ends 0 ts);
  before = ap (take i) same;
  behind = ap (drop (i + 1)) same;
  stay = λ e. same;
}

-- an inner node whose children were exchanged, and whose list of ends has place for theirs
module _ (old new : InnerNode) (ys : List Tree) (from to : ℕ) (gone : Sums) (order : from ≤ to) (inside : to ≤ length old.children.items) (measured : IsMeasured old)
    (is_gone : AreSums gone (slice_range old.children.items from to)) (children : new.children.items ≡ splice old.children.items from to ys)
    (descendants : new.descendants ≡ old.descendants) (diagnosis : new.extras.diagnosis ≡ old.extras.diagnosis)
    (places : HavePlace from to (length ys) new.extras.ends old.children.items) where
  front : take from new.children.items ≡ take from old.children.items
  front = ap (take from) children ∙ splice_front old.children.items ys from to order inside

  back : drop (from + length ys) new.children.items ≡ drop to old.children.items
  back = ap (drop (from + length ys)) children ∙ splice_back old.children.items ys from to order inside

  middle : slice_range new.children.items from (from + length ys) ≡ ys
  middle = ap (λ ts. slice_range ts from (from + length ys)) children ∙ splice_middle old.children.items ys from to order inside

  stale_any : (p : Label → Bool) (had was : Bool) → had ≡ list_any p (preorder (forest old.children.items)) → was ≡ list_any p (preorder (forest (slice_range old.children.items from to)))
      → had ≡ (was || list_any p (preorder (forest (take from new.children.items ++ drop (from + length ys) new.children.items))))
  stale_any p had was is was_is =
      is ∙ (any_parts p old.children.items from to order
      ∙ (or_comm (list_any p (preorder (forest (take from old.children.items ++ drop to old.children.items)))) (list_any p (preorder (forest (slice_range old.children.items from to))))
      ∙ (λ i. sym was_is i || list_any p (preorder (forest (sym front i ++ sym back i))))))

  begins : length (text_of_all (take from new.children.items)) ≡ length (text_of_all (take from old.children.items)) → 0 + length (text_of_all (take to old.children.items)) ≡ length (text_of_all (take from new.children.items)) + gone.len
  begins same = omega (arith, is_gone.len, sym (length_text_append (take from old.children.items) (slice_range old.children.items from to)), ap (λ us. length (text_of_all us)) (take_parts old.children.items from to order))

  many : length new.children.items + (to - from) ≡ length old.children.items + length ys
  many = omega (arith, ap length children, length_splice old.children.items ys from to order inside)

  -- the end of a single child that another one took the place of
  old_end : to ≡ suc from → take (suc from) (ends_from 0 old.children.items) ≡ take from (ends_from 0 old.children.items) ++ ((length (text_of_all (take from old.children.items)) + gone.len) % 2 ^ 32) ∷ []
  old_end one =
      let there : from < length old.children.items = omega (arith, one, inside) in
      let more : from < length (ends_from 0 old.children.items) = omega (arith, length_of_ends 0 old.children.items) in
      let end : get_or (ends_from 0 old.children.items) from 0 ≡ (length (text_of_all (take from old.children.items)) + gone.len) % 2 ^ 32 =
      child_end_is old.children.items from 0 there ∙ omega (arith, text_parts old.children.items from to order, is_gone.len, ap (λ n. length (text_of_all (take n old.children.items))) (let e : from + 1 ≡ to = omega arith in e)) in
      ap (λ n. take n (ends_from 0 old.children.items)) (let e : suc from ≡ from + 1 = omega arith in e)
      ∙ (take_more (ends_from 0 old.children.items) from 0 more ∙ ap (λ e. take from (ends_from 0 old.children.items) ++ e ∷ []) end)

  stale_ends : (kept : Option (List ℕ)) → HavePlace from to (length ys) kept old.children.items → AreStale from to (length ys) gone.len kept new.children.items
  stale_ends None few = omega (arith, many, few)
  stale_ends (Some ends) place =
      let text_front : length (text_of_all (take from new.children.items)) ≡ length (text_of_all (take from old.children.items)) = ap (λ ts. length (text_of_all ts)) front in
      record {
        all = omega (arith, many, place.len);
        before = place.before ∙ (take_ends 0 from old.children.items ∙ (ap (ends_from 0) (sym front) ∙ sym (take_ends 0 from new.children.items)));
        behind = place.behind ∙ (drop_ends 0 old.children.items to inside ∙ (λ i. ends_from (begins text_front i) (sym back i)));
        one = λ came went.
            let as_many : length ys ≡ to - from = omega (arith, came, went) in
            let same_front : take from (ends_from 0 old.children.items) ≡ take from (ends_from 0 new.children.items) =
            take_ends 0 from old.children.items ∙ (ap (ends_from 0) (sym front) ∙ sym (take_ends 0 from new.children.items)) in
            ap (take (suc from)) (place.stay as_many)
            ∙ (old_end went ∙ (λ i. same_front i ++ ((sym text_front i + gone.len) % 2 ^ 32) ∷ []));
      }

  pub put_stale : IsStale from to (length ys) gone new
  put_stale =
      let counts = splice_count old.children.items ys from to order in
      let count_in : count_of_all (slice_range new.children.items from (from + length ys)) ≡ count_of_all ys = ap count_of_all middle in
      let count_new : count_of_all new.children.items ≡ count_of_all (splice old.children.items from to ys) = ap count_of_all children in
      record {
        descendants = omega (arith, counts, count_in, count_new, descendants, measured.descendants, is_gone.descendants);
        errors = stale_any is_error new.extras.diagnosis.errors gone.diagnosis.errors (ap (λ d. d.errors) diagnosis ∙ measured.errors) is_gone.errors;
        warnings = stale_any is_warned new.extras.diagnosis.warnings gone.diagnosis.warnings (ap (λ d. d.warnings) diagnosis ∙ measured.warnings) is_gone.warnings;
        ends = stale_ends new.extras.ends places;
      }
