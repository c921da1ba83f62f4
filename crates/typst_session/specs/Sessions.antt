-- What a session holds, and what a call changes of it.
use Rattle.std.specs.Prelude.{◌≡◌, List, Option, Some, None, Result, Ok, Err}
use Rattle.typst_node.specs.Tree.{Tree}
use Rattle.typst_session.specs.declared.session.Session.{Session}
use Rattle.typst_session.specs.declared.session.Held.{Held}
use Rattle.typst_session.specs.declared.session.LastEdit.{LastEdit}
use Rattle.typst_session.specs.declared.session.Held.TheVariants as held
use Rattle.typst_session.specs.declared.refusal.Refusal.{Refusal}
use Rattle.typst_session.specs.declared.refusal.Refusal.TheVariants.{Memory}

-- the tree that is held, which may be the tree of a document
abbrev pub root_of : Held → Option Tree
root_of held.Nothing = None
root_of (held.Tree tree) = Some tree
root_of (held.Document document) = Some document.tree

-- the new session has this stack, holds what the old one holds, and keeps the edit that it keeps
pub record HasStack (nodes : List Tree) (old new : Session) : Type 0 where
  pub stack : new.stack.items ≡ nodes
  pub held : new.held ≡ old.held
  pub last : new.last ≡ old.last

-- the new session has the stack of the old one, holds what the old one holds, and keeps the edit that it keeps
abbrev pub IsKept : Session → Session → Type 0
IsKept old new = HasStack old.stack.items old new

-- the new session has this stack, holds this, and keeps this of the last edit
pub record Holds (nodes : List Tree) (tree : Held) (kept : Option LastEdit) (new : Session) : Type 0 where
  pub stack : new.stack.items ≡ nodes
  pub held : new.held ≡ tree
  pub last : new.last ≡ kept

-- the copy has the same stack and holds the same tree, with all its numbers, and keeps no edit
abbrev pub Copies : Session → Result Session Refusal → Type 0
Copies s (Ok copy) = Holds s.stack.items s.held None copy
Copies s (Err Memory) = Unit {0}
Copies s (Err _) = ⊥
