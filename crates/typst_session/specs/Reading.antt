-- What is read of a node.
use Rattle.std.specs.Prelude.{ℕ, ◌≡◌, List, length, None, IsSomeAnd, IsTrue, Result, Ok, Err}
use Rattle.typst_base.specs.KindNumber.{number_of}
use Rattle.typst_node.specs.Tree.{Tree, trees, kind_of, IsInner, IsLeaf}
use Rattle.typst_node.specs.Text.{text}
use Rattle.typst_node.specs.Count.{count}
use Rattle.typst_node.specs.Diagnosis.{has_error, has_warning}
use Rattle.typst_node.specs.Labels.{number, bound}
use Rattle.typst_node.specs.Paths.{IsPath, tree_at}
use Rattle.typst_session.specs.Flags.{IsFlag}
use Rattle.typst_session.specs.Sessions.{root_of}
use Rattle.typst_session.specs.declared.session.Session.{Session}
use Rattle.typst_session.specs.declared.info.NodeInfo.{NodeInfo}
use Rattle.typst_session.specs.declared.refusal.Refusal.{Refusal}
use Rattle.typst_session.specs.declared.refusal.Refusal.TheVariants.{NoTree, NoNode}

-- why a path leads to no node: there is no tree, or a child is missing
abbrev pub IsNoNode : List ℕ → Session → Refusal → Type 0
IsNoNode path s NoTree = root_of s.held ≡ None
IsNoNode path s NoNode = IsSomeAnd (root_of s.held) (λ root. ¬ (IsPath path root))
IsNoNode path s _ = ⊥

-- a fact of the node that a path leads to
abbrev pub OfNode : (Tree → Type 0) → List ℕ → Session → Type 0
OfNode fact path s = IsSomeAnd (root_of s.held) (λ root. IsPath path root × fact (tree_at path root))

-- what an info tells of a node: the number and the bound of its span, the length of its text, the number of its
-- children, the number of its nodes, the number of its kind, whether it is a leaf or an inner node, and whether it has
-- errors or warnings
pub record IsInfo (t : Tree) (info : NodeInfo) : Type 0 where
  pub number : info.number ≡ number t.label
  pub bound : info.bound ≡ bound t.label
  pub len : info.len ≡ length (text t)
  pub children : info.children ≡ length (trees t.children)
  pub descendants : info.descendants ≡ count t
  pub kind : info.kind ≡ number_of (kind_of t.label.content)
  pub leaf : IsFlag info.leaf (IsLeaf t.label.content)
  pub inner : IsFlag info.inner (IsInner t.label.content)
  pub errors : IsFlag info.errors (IsTrue (has_error t))
  pub warnings : IsFlag info.warnings (IsTrue (has_warning t))

-- the info of the node that a path leads to, or why there is none
abbrev pub ReadsInfo : List ℕ → Session → Result NodeInfo Refusal → Type 0
ReadsInfo path s (Ok info) = OfNode (λ t. IsInfo t info) path s
ReadsInfo path s (Err refusal) = IsNoNode path s refusal
