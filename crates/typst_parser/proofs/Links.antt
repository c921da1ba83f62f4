-- What the code does, in the words of the definitions.
use Rattle.std.proofs.Common.{◌≡◌, ℕ, zero, suc, ◌<◌, ◌≤◌, min, List, [], ◌∷◌, ◌++◌, length, get_or, refl, sym, ap, ◌∙◌, arith}
use Rattle.std.proofs.Math.ListN.{set}
use Rattle.typst_parser.specs.Actions.{rejoined, returned, returned_by}
use Rattle.typst_parser.specs.Last.{last_of}
use Rattle.typst_parser.proofs.Lasts.{last_push}
use Rattle.typst_parser.specs.Lists.{changed_at}
use Rattle.typst_parser.specs.Stack.{Stack}
use Rattle.typst_parser.specs.declared.stack.Frame.{Frame}

-- a change at a place is a write there
pub changed_here : {X : Type 0} (f : X → X) (xs : List X) (i : ℕ) (x y : X) → i < length xs → x ≡ get_or xs i x → y ≡ f x → set xs i y ≡ changed_at f i xs
changed_here f [] i x y within is now = absurd (omega arith)
changed_here f (z ∷ xs) zero x y within is now = ap (λ w. w ∷ xs) (now ∙ ap f is)
changed_here f (z ∷ xs) (suc i) x y within is now = ap (λ ws. z ∷ ws) (changed_here f xs i x y (omega arith) is now)

-- and none behind the end
pub changed_past : {X : Type 0} (f : X → X) (xs : List X) (i : ℕ) → length xs ≤ i → xs ≡ changed_at f i xs
changed_past f [] i past = refl
changed_past f (x ∷ xs) zero past = absurd (omega arith)
changed_past f (x ∷ xs) (suc i) past = ap (λ ys. x ∷ ys) (changed_past f xs i (omega arith))

-- the innermost frame is popped
pub popped : (s : Stack) (rest : List Frame) (f g : Frame) (judge : ℕ) → s.below ≡ rest ++ f ∷ [] → g ≡ rejoined s.top f → judge ≡ min s.judge (length rest)
    → (let t : Stack = record s { top = g; below = rest; judge = judge } in t) ≡ returned s
popped s rest f g judge were frame at =
    (λ i. record s { top = frame i; below = rest; judge = at i }) ∙ sym (ap (λ o. returned_by o s) (ap last_of were ∙ last_push rest f))
