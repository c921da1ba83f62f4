-- What edits of the tree that is held do if their moves are kept, and how numbers are followed.
use Rattle.std.specs.Prelude.{ℕ, ◌≡◌, ◌^◌, ◌≤◌, ◌∷◌, ◌++◌, List, [], ◌<◌, length, Option, None, Some, IsSomeAnd, Result, Ok, Err}
use Rattle.typst_node.specs.Tree.{Tree}
use Rattle.typst_node.specs.Moves.{NumberMoves, followed}
use Rattle.typst_node.specs.Numbering.{IsTooShort as HasTooFewNumbers}
use Rattle.typst_node.specs.Reconciled.{IsReconciled}
use Rattle.typst_node.specs.Updated.{IsUpdated}
use Rattle.typst_node.specs.declared.node.reconcile.Reconciled.{Reconciled}
use Rattle.typst_node.specs.declared.node.reconcile.Touched.{Touched}
use Rattle.typst_node.specs.declared.node.update.Below.{Below}
use Rattle.typst_node.specs.declared.node.update.Updated.{Updated}
use Rattle.typst_tree.specs.Edits.{IsUnreconciled}
use Rattle.typst_tree.specs.declared.edit.EditError.{EditError}
use Rattle.typst_session.specs.Building.{below_top}
use Rattle.typst_session.specs.Codes.{of_edit}
use Rattle.typst_session.specs.LinedText.{LinedText}
use Rattle.typst_session.specs.Sessions.{HasStack, IsKept, Holds}
use Rattle.typst_session.specs.Texts.{Output, IsWritten, IsTooShort}
use Rattle.typst_session.specs.Trees.{edit_from_stack}
use Rattle.typst_session.specs.declared.changes.Change.{Change}
use Rattle.typst_session.specs.declared.session.LastEdit.{LastEdit}
use Rattle.typst_session.specs.declared.session.Session.{Session}
use Rattle.typst_session.specs.declared.session.Held.TheVariants as held
use Rattle.typst_session.specs.declared.refusal.Refusal.{Refusal}
use Rattle.typst_session.specs.declared.refusal.Refusal.TheVariants.{Buffer, Memory, Stack, Unnumberable, NoTree, IsDocument, NotFound, NoEdit}

-- it is told how long the path to the edited node is, what was changed of its children, and how many nodes moved
pub record IsChange (path : List ℕ) (touched : Touched) (moves : NumberMoves) (told : Change) : Type 0 where
  pub depth : told.depth ≡ length path
  pub touched_is : told.touched ≡ touched
  pub moved : told.moved ≡ length moves.olds

-- The top nodes of the stack replaced children of a node of the tree that is held, and the nodes that go on stayed. The
-- moves are kept.
pub record IsReconciledFromStack (path : List ℕ) (from to count : ℕ) (old : Session) (told : Change) (new : Session) : Type 0 where
  pub root : Tree
  pub after : Tree
  pub done : Reconciled
  pub was : old.held ≡ held.Tree root
  pub enough : count ≤ length old.stack.items
  pub reconciled : IsReconciled (edit_from_stack path from to count old) root done.path.items done.touched done.moves after
  pub change : IsChange done.path.items done.touched done.moves told
  pub holds : Holds (below_top count old.stack.items) (held.Tree after) (Some (record { path = done.path; moves = done.moves })) new

-- a reconciliation of the tree that is held was refused
pub record IsRefusedReconciliation (path : List ℕ) (from to count : ℕ) (old : Session) (refusal : Refusal) : Type 0 where
  pub root : Tree
  pub error : EditError
  pub was : old.held ≡ held.Tree root
  pub why : IsUnreconciled (edit_from_stack path from to count old) root error
  pub refusal_is : refusal ≡ of_edit error

-- why the top nodes of the stack don't replace children
abbrev pub WhyNotReconciled : List ℕ → ℕ → ℕ → ℕ → Session → Refusal → Type 0
WhyNotReconciled path from to count old NoTree = old.held ≡ held.Nothing
WhyNotReconciled path from to count old IsDocument = (document : LinedText) × (old.held ≡ held.Document document)
WhyNotReconciled path from to count old Stack = length old.stack.items < count
WhyNotReconciled path from to count old Memory = Unit {0}
WhyNotReconciled path from to count old refusal = IsRefusedReconciliation path from to count old refusal

-- the top nodes of the stack replace children, and the nodes that go on stay, or why not
abbrev pub Reconciles : List ℕ → ℕ → ℕ → ℕ → Session → Result Change Refusal → Session → Type 0
Reconciles path from to count old (Ok told) new = IsReconciledFromStack path from to count old told new
Reconciles path from to count old (Err refusal) new = WhyNotReconciled path from to count old refusal × IsKept old new

-- the path of what changed below the root, or that of the root
abbrev pub path_below : Option Below → List ℕ
path_below (Some below) = below.path.items
path_below None = []

-- it is told what an update changed below the root, or that the root itself was changed
abbrev pub IsChangeBelow : Option Below → NumberMoves → Option Change → Type 0
IsChangeBelow (Some below) moves (Some told) = IsChange below.path.items below.touched moves told
IsChangeBelow None moves None = Unit {0}
IsChangeBelow (Some below) moves None = ⊥
IsChangeBelow None moves (Some told) = ⊥

-- what is kept of an update: the path to the node whose children it changed, or that of the root, and the moves
pub record IsLastUpdate (done : Updated) (last : LastEdit) : Type 0 where
  pub path : last.path.items ≡ path_below done.below
  pub moves : last.moves ≡ done.moves

-- The top node of the stack came in place of the tree that is held, and the nodes that go on stayed. The moves are kept.
pub record IsUpdatedFromStack (old : Session) (told : Option Change) (new : Session) : Type 0 where
  pub rest : List Tree
  pub node : Tree
  pub root : Tree
  pub after : Tree
  pub done : Updated
  pub stack : old.stack.items ≡ rest ++ node ∷ []
  pub was : old.held ≡ held.Tree root
  pub updated : IsUpdated root node done after
  pub change : IsChangeBelow done.below done.moves told
  pub last : LastEdit
  pub kept : IsLastUpdate done last
  pub holds : Holds rest (held.Tree after) (Some last) new

-- the top node of the stack has more nodes than there are numbers
pub record HasTooManyNodes (old : Session) : Type 0 where
  pub rest : List Tree
  pub node : Tree
  pub stack : old.stack.items ≡ rest ++ node ∷ []
  pub few : HasTooFewNumbers node 2 (2 ^ 47)

-- the top node of the stack comes in place of the tree that is held, and the nodes that go on stay, or why not
abbrev pub Updates : Session → Result (Option Change) Refusal → Session → Type 0
Updates old (Ok told) new = IsUpdatedFromStack old told new
Updates old (Err NoTree) new = (old.held ≡ held.Nothing) × IsKept old new
Updates old (Err IsDocument) new = (document : LinedText) × (old.held ≡ held.Document document) × IsKept old new
Updates old (Err Stack) new = (old.stack.items ≡ []) × IsKept old new
Updates old (Err Unnumberable) new = HasTooManyNodes old × IsKept old new
Updates old (Err Memory) new = IsKept old new
Updates old (Err _) new = ⊥

-- The number of a node after the last edit, by its number before it. The node may be gone, or no edit may be kept.
abbrev pub Follows : ℕ → Session → Result ℕ Refusal → Type 0
Follows number s (Ok now) = IsSomeAnd s.last (λ edit. followed edit.moves number ≡ Some now)
Follows number s (Err NotFound) = IsSomeAnd s.last (λ edit. followed edit.moves number ≡ None)
Follows number s (Err NoEdit) = s.last ≡ None
Follows number s (Err _) = ⊥

-- the path of the node whose children the last edit changed is written into a buffer, or why not
abbrev pub WritesPath : Session → Output ℕ → Output ℕ → Result (Unit {0}) Refusal → Type 0
WritesPath s old new (Ok done) = IsSomeAnd s.last (λ edit. IsWritten edit.path.items old.items new.items new.len)
WritesPath s old new (Err Buffer) = IsSomeAnd s.last (λ edit. IsTooShort edit.path.items old.items new.items new.len)
WritesPath s old new (Err NoEdit) = (s.last ≡ None) × (new ≡ old)
WritesPath s old new (Err _) = ⊥

-- the top node of one stack is the top node of another now
pub record IsSent (old other new after : Session) : Type 0 where
  pub rest : List Tree
  pub node : Tree
  pub stack : old.stack.items ≡ rest ++ node ∷ []
  pub left : HasStack rest old new
  pub came : HasStack (other.stack.items ++ node ∷ []) other after

-- the top node of one session's stack goes on top of that of another session, or why not
abbrev pub Sends : Session → Session → Result (Unit {0}) Refusal → Session → Session → Type 0
Sends old other (Ok done) new after = IsSent old other new after
Sends old other (Err Stack) new after = (old.stack.items ≡ []) × IsKept old new × IsKept other after
Sends old other (Err Memory) new after = IsKept old new × IsKept other after
Sends old other (Err _) new after = ⊥
