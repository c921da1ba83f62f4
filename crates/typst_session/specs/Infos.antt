-- The infos of many nodes, written into a buffer.
use Rattle.std.specs.Prelude.{ℕ, ◌≡◌, ◌<◌, List, length, take, drop, Result, Ok, Err}
use Rattle.std.specs.List.{AllZip}
use Rattle.typst_node.specs.Tree.{Tree}
use Rattle.typst_session.specs.Reading.{IsInfo, IsNoNode, OfNode}
use Rattle.typst_session.specs.Texts.{Output}
use Rattle.typst_session.specs.declared.session.Session.{Session}
use Rattle.typst_session.specs.declared.info.NodeInfo.{NodeInfo}
use Rattle.typst_session.specs.declared.refusal.Refusal.{Refusal}
use Rattle.typst_session.specs.declared.refusal.Refusal.TheVariants.{Buffer}

-- the infos of trees, in their order, are at the beginning of a buffer; the rest of the buffer stays as it was
pub record AreWritten (trees : List Tree) (old new : List NodeInfo) : Type 0 where
  pub begin : AllZip IsInfo trees (take (length trees) new)
  pub rest : drop (length trees) new ≡ drop (length trees) old

-- the number of infos that is told is the number of trees, and the infos are written
pub record AreTold (trees : List Tree) (old new : List NodeInfo) (len : ℕ) : Type 0 where
  pub len_is : len ≡ length trees
  pub written : AreWritten trees old new

-- the number of infos that is told is the number of trees, and the buffer is too short for them; it stays as it was
pub record AreTooMany (trees : List Tree) (old new : List NodeInfo) (len : ℕ) : Type 0 where
  pub len_is : len ≡ length trees
  pub short : length old < len
  pub same : new ≡ old

-- the infos of the trees that a list takes from the node at a path are written into a buffer, or why not
abbrev pub ReadsInfos : (Tree → List Tree) → List ℕ → Session → Output NodeInfo → Output NodeInfo → Result (Unit {0}) Refusal → Type 0
ReadsInfos list path s old new (Ok done) = OfNode (λ t. AreTold (list t) old.items new.items new.len) path s
ReadsInfos list path s old new (Err Buffer) = OfNode (λ t. AreTooMany (list t) old.items new.items new.len) path s
ReadsInfos list path s old new (Err refusal) = IsNoNode path s refusal × (new ≡ old)
