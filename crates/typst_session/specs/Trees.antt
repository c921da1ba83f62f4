-- What calls on the tree that is held do.
use Rattle.std.specs.Prelude.{ℕ, ◌≡◌, ◌<◌, ◌≤◌, ◌^◌, ◌⊎◌, ◌∷◌, ◌++◌, List, [], length, None, Result, Ok, Err}
use Rattle.typst_node.specs.Tree.{Tree}
use Rattle.typst_node.specs.Accepted.{IsAccepted}
use Rattle.typst_node.specs.Edit.{Edit}
use Rattle.typst_node.specs.Numbering.{IsNumbering, IsTooShort}
use Rattle.typst_node.specs.declared.node.replace.Renumbered.{Renumbered as Window}
use Rattle.typst_tree.specs.Edits.{IsUndone}
use Rattle.typst_tree.specs.declared.edit.EditError.{EditError}
use Rattle.typst_session.specs.Building.{below_top, top_of}
use Rattle.typst_session.specs.Codes.{of_edit}
use Rattle.typst_session.specs.LinedText.{LinedText}
use Rattle.typst_session.specs.Sessions.{IsKept, Holds}
use Rattle.typst_session.specs.declared.session.Session.{Session}
use Rattle.typst_session.specs.declared.session.Held.TheVariants as held
use Rattle.typst_session.specs.declared.refusal.Refusal.{Refusal}
use Rattle.typst_session.specs.declared.refusal.Refusal.TheVariants.{Memory, Stack, File, Numbers, Unnumberable, NoTree, IsDocument}

-- the last node of the stack, numbered, is the tree that is held
pub record TakesNumbered (file from to : ℕ) (old new : Session) : Type 0 where
  pub rest : List Tree
  pub node : Tree
  pub tree : Tree
  pub stack : old.stack.items ≡ rest ++ node ∷ []
  pub numbering : IsNumbering file from to node tree
  pub holds : Holds rest (held.Tree tree) None new

-- there are fewer numbers than the last node of the stack has nodes
pub record LacksNumbers (from to : ℕ) (old : Session) : Type 0 where
  pub rest : List Tree
  pub node : Tree
  pub stack : old.stack.items ≡ rest ++ node ∷ []
  pub few : IsTooShort node from to

-- the last node of the stack becomes the tree that is held, or why not
abbrev pub NumbersLast : ℕ → ℕ → ℕ → Session → Result (Unit {0}) Refusal → Session → Type 0
NumbersLast file from to old (Ok done) new = TakesNumbered file from to old new
NumbersLast file from to old (Err File) new = (file ≡ 0) × IsKept old new
NumbersLast file from to old (Err Numbers) new = ((from < 2) ⊎ (2 ^ 47 < to)) × IsKept old new
NumbersLast file from to old (Err Stack) new = (old.stack.items ≡ []) × IsKept old new
NumbersLast file from to old (Err Unnumberable) new = LacksNumbers from to old × IsKept old new
NumbersLast file from to old (Err _) new = ⊥

-- the tree that is held was numbered anew
pub record IsRenumbered (file from to : ℕ) (old new : Session) : Type 0 where
  pub tree : Tree
  pub after : Tree
  pub was : old.held ≡ held.Tree tree
  pub numbering : IsNumbering file from to tree after
  pub holds : Holds old.stack.items (held.Tree after) None new

-- why the tree that is held isn't numbered anew
abbrev pub WhyNotRenumbered : ℕ → ℕ → ℕ → Tree → Refusal → Type 0
WhyNotRenumbered file from to tree File = file ≡ 0
WhyNotRenumbered file from to tree Numbers = (from < 2) ⊎ (2 ^ 47 < to)
WhyNotRenumbered file from to tree Unnumberable = IsTooShort tree from to
WhyNotRenumbered file from to tree _ = ⊥

-- the tree that is held is numbered anew, or why not
abbrev pub Renumbers : ℕ → ℕ → ℕ → Session → Result (Unit {0}) Refusal → Session → Type 0
Renumbers file from to old (Ok done) new = IsRenumbered file from to old new
Renumbers file from to old (Err NoTree) new = (old.held ≡ held.Nothing) × IsKept old new
Renumbers file from to old (Err IsDocument) new = (document : LinedText) × (old.held ≡ held.Document document) × IsKept old new
Renumbers file from to old (Err refusal) new =
    (tree : Tree) × (old.held ≡ held.Tree tree) × WhyNotRenumbered file from to tree refusal × IsKept old new

-- the tree that was held is on top of the stack
pub record IsTaken (old new : Session) : Type 0 where
  pub tree : Tree
  pub was : old.held ≡ held.Tree tree
  pub holds : Holds (old.stack.items ++ tree ∷ []) held.Nothing None new

-- the tree that is held goes back on the stack, or why not
abbrev pub TakesTree : Session → Result (Unit {0}) Refusal → Session → Type 0
TakesTree old (Ok done) new = IsTaken old new
TakesTree old (Err NoTree) new = (old.held ≡ held.Nothing) × IsKept old new
TakesTree old (Err IsDocument) new = (document : LinedText) × (old.held ≡ held.Document document) × IsKept old new
TakesTree old (Err Memory) new = IsKept old new
TakesTree old (Err _) new = ⊥

-- the edit that replaces children by the top `count` nodes of the stack
abbrev pub edit_from_stack : List ℕ → ℕ → ℕ → ℕ → Session → Edit
edit_from_stack path from to count old = record { path = path; from = from; to = to; others = top_of count old.stack.items }

-- The top nodes of the stack replaced children of a node of the tree that is held.
pub record IsReplaced (path : List ℕ) (from to count : ℕ) (old : Session) (window : Window) (new : Session) : Type 0 where
  pub root : Tree
  pub after : Tree
  pub was : old.held ≡ held.Tree root
  pub enough : count ≤ length old.stack.items
  pub accepted : IsAccepted (edit_from_stack path from to count old) root window after
  pub holds : Holds (below_top count old.stack.items) (held.Tree after) None new

-- an edit of the tree that is held was refused
pub record IsRefusedEdit (path : List ℕ) (from to count : ℕ) (old : Session) (refusal : Refusal) : Type 0 where
  pub root : Tree
  pub error : EditError
  pub was : old.held ≡ held.Tree root
  pub why : IsUndone (edit_from_stack path from to count old) root error
  pub refusal_is : refusal ≡ of_edit error

-- why the top nodes of the stack don't replace children
abbrev pub WhyNotReplaced : List ℕ → ℕ → ℕ → ℕ → Session → Refusal → Type 0
WhyNotReplaced path from to count old NoTree = old.held ≡ held.Nothing
WhyNotReplaced path from to count old IsDocument = (document : LinedText) × (old.held ≡ held.Document document)
WhyNotReplaced path from to count old Stack = length old.stack.items < count
WhyNotReplaced path from to count old Memory = Unit {0}
WhyNotReplaced path from to count old refusal = IsRefusedEdit path from to count old refusal

-- the top nodes of the stack replace children, with the window that was numbered anew, or why not
abbrev pub Replaces : List ℕ → ℕ → ℕ → ℕ → Session → Result Window Refusal → Session → Type 0
Replaces path from to count old (Ok window) new = IsReplaced path from to count old window new
Replaces path from to count old (Err refusal) new = WhyNotReplaced path from to count old refusal × IsKept old new
