-- What an accessor answers of the node at a path is told.
use Rattle.std.proofs.Common.{◌≡◌, ℕ, List, Option, None, Some, Bool, subst}
use Rattle.std.specs.Prelude.{IsSomeAnd}
use Rattle.typst_accessors.specs.Answers.{Answers}
use Rattle.typst_accessors.specs.declared.accessor.Accessor.{Accessor}
use Rattle.typst_accessors.specs.declared.answer.Answer.{Answer}
use Rattle.typst_node.specs.Tree.{Tree}
use Rattle.typst_node.specs.Paths.{IsPath, tree_at}
use Rattle.typst_session.specs.Views.{Told, TellsAnswer}

pub view_told : (root : Option Tree) (path : List ℕ) (node : Tree) (accessor : Accessor) (index : ℕ) (answer : Answer) (old new : Told) (has_room : Bool)
    → IsSomeAnd root (λ t. IsPath path t × (node ≡ tree_at path t)) → Answers accessor index node answer → TellsAnswer answer old new has_room
    → IsSomeAnd root (λ t. IsPath path t × ((answer : Answer) × Answers accessor index (tree_at path t) answer × TellsAnswer answer old new has_room))
view_told None path node accessor index answer old new has_room h says tells = absurd h
view_told (Some root) path node accessor index answer old new has_room h says tells =
    (h.0, (answer, subst (λ (t : Tree). Answers accessor index t answer) h.1 says, tells))
