-- A node is found by its own span.
use Rattle.std.specs.Prelude.{ℕ, ◌≡◌, List, Option, Some}
use Rattle.std.specs.Option.{ForSome}
use Rattle.typst_base.specs.Span.{SpanParts}
use Rattle.typst_node.specs.Tree.{Tree}
use Rattle.typst_node.specs.Numbered.{IsNumbered}
use Rattle.typst_linked.specs.Place.{Place, subtree, below}

-- if the subtree at a place is numbered, and a node with this span is in it, the answer is the place of that node
abbrev pub FindsOwn : SpanParts → Place → Option Place → Type 0
FindsOwn span place answer = ForSome (subtree place) (λ t. IsNumbered t → (path : List ℕ) (node : Tree)
    → subtree (below place path) ≡ Some node → node.label.span ≡ span → answer ≡ Some (below place path))
