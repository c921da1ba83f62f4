-- Whether two nodes are equal.
use Rattle.std.specs.Prelude.{ℕ, ◌≡◌, ◌↔◌, ◌⊎◌, Bool, List, IsTrue, Result, Ok, Err}
use Rattle.typst_node.specs.Plain.{plain}
use Rattle.typst_session.specs.Reading.{IsNoNode, OfNode}
use Rattle.typst_session.specs.declared.session.Session.{Session}
use Rattle.typst_session.specs.declared.refusal.Refusal.{Refusal}

-- whether the trees at two paths, each in its own session, are equal apart from spans and bounds, or why that isn't
-- told
abbrev pub Compares : List ℕ → Session → List ℕ → Session → Result Bool Refusal → Type 0
Compares path s other_path other (Ok same) =
    OfNode (λ t. OfNode (λ u. IsTrue same ↔ (plain t ≡ plain u)) other_path other) path s
Compares path s other_path other (Err refusal) = IsNoNode path s refusal ⊎ IsNoNode other_path other refusal
