-- The answer of a search by a span, and what the search reads.
use Rattle.std.specs.Prelude.{ℕ, ◌+◌, ◌≤◌, ◌≡◌, List, length, Option, None, Some, IfSome, MatchOption}
use Rattle.std.specs.Option.{ForSome}
use Rattle.typst_base.specs.declared.span.SpanKind.{SpanKind}
use Rattle.typst_base.specs.declared.span.SpanKind.TheVariants.{Detached, Number, Range}
use Rattle.typst_node.specs.Tree.{Tree}
use Rattle.typst_node.specs.Labels.{number}
use Rattle.typst_node.specs.Numbered.{IsNumbered}
use Rattle.typst_linked.specs.Place.{Place, subtree, below}
use Rattle.typst_node.specs.BinaryDigits.{binary_digits}
use Rattle.typst_linked.specs.Search.{with_number, found_below, floor_path, look_bound, each_child}
use Rattle.typst_linked.specs.Ranges.{FindsRange}

-- in a numbered tree, the answer of the plain search
abbrev pub FindsNumber : ℕ → Place → Option Place → Type 0
FindsNumber wanted place answer = ForSome (subtree place) (λ s. IsNumbered s → answer ≡ found_below (with_number wanted) place)

-- in any tree, a node at or below the place that has the number
pub record HasNumberBelow (wanted : ℕ) (place found : Place) : Type 0 where
  pub path : List ℕ
  pub node : Tree
  pub place_is : found ≡ below place path
  pub node_is : subtree found ≡ Some node
  pub number_is : number node.label ≡ wanted

-- In a numbered tree the number of looks is within both look bounds of the number: by the numbers of children, and by
-- their binary digits. In any tree there is at least one look.
pub record AreLooksFor (wanted : ℕ) (place : Place) (looks : ℕ) : Type 0 where
  pub least : 1 ≤ looks
  pub most : ForSome (subtree place) (λ s. IsNumbered s → looks ≤ look_bound each_child wanted s)
  pub halving : ForSome (subtree place) (λ s. IsNumbered s → looks ≤ look_bound binary_digits wanted s)

-- For an answer there is at least one look for each step to it, and one more. For a miss in a numbered tree there is one
-- for each step to the floor node, and one more.
abbrev pub HasLookEachStep : ℕ → Place → ℕ → Option Place → Type 0
HasLookEachStep wanted place looks answer =
    MatchOption answer
    (ForSome (subtree place) (λ s. IsNumbered s → IfSome (floor_path wanted s) (λ path. 1 + length path ≤ looks)))
    (λ found. 1 + length found.path ≤ looks + length place.path)

-- the answer for each target of a span: nothing, the node with a number in any file, or the node with a range
abbrev pub FindsSpan : SpanKind → Place → Option Place → Type 0
FindsSpan Detached place answer = answer ≡ None
FindsSpan (Number id num) place answer = FindsNumber num.0 place answer × IfSome answer (HasNumberBelow num.0 place)
FindsSpan (Range id range) place answer = FindsRange range.start range.end place answer

-- only a search by a number looks
abbrev pub AreLooksForSpan : SpanKind → Place → ℕ → Type 0
AreLooksForSpan Detached place looks = looks ≡ 0
AreLooksForSpan (Number id num) place looks = AreLooksFor num.0 place looks
AreLooksForSpan (Range id range) place looks = looks ≡ 0

-- only a search by a number reads a number at each step
abbrev pub HasLookEachStepFor : SpanKind → Place → ℕ → Option Place → Type 0
HasLookEachStepFor Detached place looks answer = answer ≡ None
HasLookEachStepFor (Number id num) place looks answer = HasLookEachStep num.0 place looks answer
HasLookEachStepFor (Range id range) place looks answer = looks ≡ 0
