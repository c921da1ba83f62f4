-- Where a block comment ends.
use Rattle.std.proofs.Common.{◌≡◌, ℕ, suc, ◌+◌, ◌-◌, ◌<◌, Bool, true, false, List, [], ◌∷◌, length, take, refl, sym, ap, subst, ◌∙◌, arith}
use Rattle.std.specs.Prelude.{◌||◌, ◌==◌, codes, Option, Some, None, if◌then◌else◌}
use Rattle.std.proofs.lemmas.Bool.Decides.{nat_tests}
use Rattle.typst_lexer.specs.declared.mode.Mode.{Mode}
use Rattle.typst_lexer.specs.declared.place.Behind.{Behind}
use Rattle.typst_lexer.specs.declared.place.Place.{Place}
use Rattle.typst_lexer.specs.declared.place.Place.TheVariants as place
use Rattle.typst_lexer.specs.declared.token.TokenKind.TheVariants as kinds
use Rattle.typst_lexer.specs.Characters.{begins, begins_with, goes_on}
use Rattle.typst_lexer.specs.FirstToken.{first}
use Rattle.typst_lexer.specs.Machine.{may_end, stay_inside}
use Rattle.typst_lexer.specs.Nested.{IsClosedBefore, IsNested, Nested, begins_mark, byte, comment, nothing, written}
use Rattle.typst_lexer.specs.Shared.{stay_mark}
use Rattle.typst_lexer.proofs.Steps.{EachRun, block_enters, ended, first_kind, first_len, step}
use Rattle.typst_lexer.proofs.WhiteRuns.{at}

-- how many bytes a tree has, and n more
abbrev long : Nested → ℕ → ℕ
long nothing n = n
long (byte b more) n = suc (long more n)
long (comment inner more) n = suc (suc (long inner (suc (suc (long more n)))))

written_long : (t : Nested) (after : List ℕ) → length (written t after) ≡ long t (length after)
written_long nothing after = refl
written_long (byte b more) after = ap suc (written_long more after)
written_long (comment inner more) after =
    ap (λ n. suc (suc n)) (written_long inner (42 ∷ 47 ∷ written more after) ∙ ap (λ n. long inner (suc (suc n))) (written_long more after))

out : (n m : ℕ) → suc n + m ≡ suc (n + m)
out n m = omega arith

long_more : (t : Nested) (n m : ℕ) → long t n + m ≡ long t (n + m)
long_more nothing n m = refl
long_more (byte b more) n m = out (long more n) m ∙ ap suc (long_more more n m)
long_more (comment inner more) n m =
    out (suc (long inner (suc (suc (long more n))))) m
    ∙ ap suc (out (long inner (suc (suc (long more n)))) m
    ∙ ap suc (long_more inner (suc (suc (long more n))) m
    ∙ ap (long inner) (out (suc (long more n)) m ∙ ap suc (out (long more n) m ∙ ap suc (long_more more n m)))))

-- the marks are seen at once
open_window : (t : List ℕ) → begins_with (codes "/*") (take 10 t) ≡ begins_with (codes "/*") t
open_window [] = refl
open_window (a ∷ []) = refl
open_window (a ∷ b ∷ bs) = refl

close_window : (t : List ℕ) → begins_with (codes "*/") (take 10 t) ≡ begins_with (codes "*/") t
close_window [] = refl
close_window (a ∷ []) = refl
close_window (a ∷ b ∷ bs) = refl

or_false : (u v : Bool) → (u || v) ≡ false → (u ≡ false) × (v ≡ false)
or_false true v e = cc
or_false false v e = (refl, e)

abbrev marked : ℕ → Bool → Bool → Place
marked depth closes opens = if closes then place.CommentMark (depth - 1) else (if opens then place.CommentMark (depth + 1) else place.BlockComment depth)

-- a byte that is not part of a mark
byte_place : (g u v : Bool) (depth : ℕ) → u ≡ false → v ≡ false
    → (if g then Some (place.BlockComment depth) else Some (marked depth u v)) ≡ Some (place.BlockComment depth)
byte_place true u v depth e f = refl
byte_place false true v depth e f = cc
byte_place false false true depth e f = cc
byte_place false false false depth e f = refl

pub byte_stays : (depth b : ℕ) (bs : List ℕ) (k : Behind) → begins_mark (b ∷ bs) ≡ false
    → stay_inside (at (place.BlockComment depth) k) (take 10 (b ∷ bs)) ≡ Some (place.BlockComment depth)
byte_stays depth b bs k e =
    let none = or_false (begins_with (codes "/*") (b ∷ bs)) (begins_with (codes "*/") (b ∷ bs)) e in
    byte_place (goes_on b) (begins_with (codes "*/") (take 10 (b ∷ bs))) (begins_with (codes "/*") (take 10 (b ∷ bs))) depth
    (close_window (b ∷ bs) ∙ none.1) (open_window (b ∷ bs) ∙ none.0)

mark_by : (depth : ℕ) → depth == 0 ≡ false → stay_mark depth ≡ place.BlockComment depth
mark_by depth e = ap (λ (v : Bool). if v then place.Rest kinds.BlockComment 0 else place.BlockComment depth) e

some_open : (depth : ℕ) → 0 < depth → depth == 0 ≡ false
some_open depth h = grind (arith, nat_tests)

-- after both bytes of a mark
pub after_mark : (depth b n : ℕ) (end : Place) (bs : List ℕ) → 0 < depth → may_end end ≡ true → goes_on b ≡ false
    → EachRun n end (place.BlockComment depth) bs → EachRun (suc n) end (place.CommentMark depth) (b ∷ bs)
after_mark depth b n end bs deep may whole each k =
    step (place.CommentMark depth) (place.BlockComment depth) end n b bs k (by (goes_on b) whole) may each
  where
    by : (g : Bool) → g ≡ false → (if g then Some (place.CommentMark depth) else Some (stay_mark depth)) ≡ Some (place.BlockComment depth)
    by true e = cc
    by false e = ap (λ (p : Place). (let o : Option Place = Some p in o)) (mark_by depth (some_open depth deep))

pub opens : (depth n : ℕ) (end : Place) (bs : List ℕ) → may_end end ≡ true
    → EachRun n end (place.BlockComment (depth + 1)) bs → EachRun (suc (suc n)) end (place.BlockComment depth) (47 ∷ 42 ∷ bs)
opens depth n end bs may each k =
    step (place.BlockComment depth) (place.CommentMark (depth + 1)) end (suc n) 47 (42 ∷ bs) k refl may
    (after_mark (depth + 1) 42 n end bs (omega arith) may refl each)

pub closes : (depth n : ℕ) (end : Place) (bs : List ℕ) → 0 < depth → may_end end ≡ true
    → EachRun n end (place.BlockComment depth) bs → EachRun (suc (suc n)) end (place.BlockComment (depth + 1)) (42 ∷ 47 ∷ bs)
closes depth n end bs deep may each k =
    let less : depth + 1 - 1 ≡ depth = omega arith in
    step (place.BlockComment (depth + 1)) (place.CommentMark depth) end (suc n) 42 (47 ∷ bs) k
    (ap (λ (n : ℕ). (let o : Option Place = Some (place.CommentMark n) in o)) less) may
    (after_mark depth 47 n end bs deep may refl each)

-- the machine goes over a tree
nested_run : (t : Nested) (after : List ℕ) (depth n : ℕ) (end : Place) → IsNested t after → 0 < depth → may_end end ≡ true
    → EachRun n end (place.BlockComment depth) after → EachRun (long t n) end (place.BlockComment depth) (written t after)
nested_run nothing after depth n end is deep may each = each
nested_run (byte b more) after depth n end is deep may each = λ k.
    step (place.BlockComment depth) (place.BlockComment depth) end (long more n) b (written more after) k
    (byte_stays depth b (written more after) k is.0) may (nested_run more after depth n end is.1 deep may each)
nested_run (comment inner more) after depth n end is deep may each =
    let later = nested_run more after depth n end is.1 deep may each in
    let close = closes depth (long more n) end (written more after) deep may later in
    opens depth (long inner (suc (suc (long more n)))) end (written inner (42 ∷ 47 ∷ written more after)) may
    (nested_run inner (42 ∷ 47 ∷ written more after) (depth + 1) (suc (suc (long more n))) end is.0 (omega arith) may close)

-- where no comment is open any more
over : (after : List ℕ) → begins goes_on after ≡ false → EachRun 0 (place.Rest kinds.BlockComment 0) (place.Rest kinds.BlockComment 0) after
over [] whole k = (refl, refl)
over (b ∷ bs) whole k = ended (place.Rest kinds.BlockComment 0) b bs k (by (goes_on b) whole)
  where
    by : (g : Bool) → g ≡ false → (let o : Option Place = if g then Some (place.Rest kinds.BlockComment 0) else None in o) ≡ None
    by true e = cc
    by false e = refl

last_mark : (after : List ℕ) → begins goes_on after ≡ false → EachRun 2 (place.Rest kinds.BlockComment 0) (place.BlockComment 1) (42 ∷ 47 ∷ after)
last_mark after whole k =
    step (place.BlockComment 1) (place.CommentMark 0) (place.Rest kinds.BlockComment 0) 1 42 (47 ∷ after) k refl refl
    (λ h. step (place.CommentMark 0) (place.Rest kinds.BlockComment 0) (place.Rest kinds.BlockComment 0) 0 47 after h refl refl (over after whole))

closed_at : (t : Nested) (how : Mode) (k : Behind) (after : List ℕ) → begins goes_on after ≡ false → IsNested t (42 ∷ 47 ∷ after)
    → ((first how k (47 ∷ 42 ∷ written t (42 ∷ 47 ∷ after))).kind ≡ kinds.BlockComment)
    × ((first how k (47 ∷ 42 ∷ written t (42 ∷ 47 ∷ after))).len + length after ≡ 2 + length (written t (42 ∷ 47 ∷ after)))
closed_at t how k after whole is =
    let end : Place = place.Rest kinds.BlockComment 0 in
    let text : List ℕ = written t (42 ∷ 47 ∷ after) in
    let inside = block_enters how k (take 8 text) in
    let deep : 0 < 1 = omega arith in
    let each = after_mark 1 42 (long t 2) end text deep refl refl (nested_run t (42 ∷ 47 ∷ after) 1 2 end is deep refl (last_mark after whole)) in
    let len = first_len how k 47 (42 ∷ text) (place.CommentMark 1) end (suc (long t 2)) inside each in
    let same : long t 2 + length after ≡ length text = long_more t 2 (length after) ∙ ap (long t) (two (length after)) ∙ sym (written_long t (42 ∷ 47 ∷ after)) in (
      first_kind how k 47 (42 ∷ text) (place.CommentMark 1) end (suc (long t 2)) inside each,
      omega (arith, len, same),
    )
  where
    two : (n : ℕ) → 2 + n ≡ suc (suc n)
    two n = omega arith

pub comment_closed : (how : Mode) (k : Behind) (rest after : List ℕ) → begins goes_on after ≡ false → IsClosedBefore after rest
    → ((first how k (47 ∷ 42 ∷ rest)).kind ≡ kinds.BlockComment) × ((first how k (47 ∷ 42 ∷ rest)).len + length after ≡ 2 + length rest)
comment_closed how k rest after whole is =
    subst (λ (r : List ℕ). ((first how k (47 ∷ 42 ∷ r)).kind ≡ kinds.BlockComment) × ((first how k (47 ∷ 42 ∷ r)).len + length after ≡ 2 + length r))
    (sym is.2) (closed_at is.0 how k after whole is.1)
