-- What a call writes of a text or a list into a buffer.
use Rattle.std.specs.Prelude.{ℕ, ◌≡◌, ◌<◌, List, length, take, drop, Result, Ok, Err}
use Rattle.typst_node.specs.Tree.{Tree}
use Rattle.typst_session.specs.Reading.{IsNoNode, OfNode}
use Rattle.typst_session.specs.declared.session.Session.{Session}
use Rattle.typst_session.specs.declared.refusal.Refusal.{Refusal}
use Rattle.typst_session.specs.declared.refusal.Refusal.TheVariants.{Memory, Buffer}

-- what a call writes to: a buffer, and how long the list is that it writes there
pub record Output (X : Type 0) : Type 0 where
  pub items : List X
  pub len : ℕ

-- the list is at the beginning of a buffer with room for it, and its length is told; the rest of the buffer stays as it
-- was
pub record IsWritten {X : Type 0} (items old new : List X) (len : ℕ) : Type 0 where
  pub len_is : len ≡ length items
  pub begin : take len new ≡ items
  pub rest : drop len new ≡ drop len old

-- the buffer is too short for the list, and the length of the list is told; the buffer stays as it was
pub record IsTooShort {X : Type 0} (items old new : List X) (len : ℕ) : Type 0 where
  pub len_is : len ≡ length items
  pub short : length old < len
  pub same : new ≡ old

-- a list is written, or the buffer is too short
abbrev pub Writes : List ℕ → Output ℕ → Output ℕ → Result (Unit {0}) Refusal → Type 0
Writes items old new (Ok done) = IsWritten items old.items new.items new.len
Writes items old new (Err Buffer) = IsTooShort items old.items new.items new.len
Writes items old new (Err _) = ⊥

-- what is read of the node that a path leads to is written into a buffer, or why not
abbrev pub WritesOf : (Tree → List ℕ) → List ℕ → Session → Output ℕ → Output ℕ → Result (Unit {0}) Refusal → Type 0
WritesOf read path s old new (Ok done) = OfNode (λ t. IsWritten (read t) old.items new.items new.len) path s
WritesOf read path s old new (Err Buffer) = OfNode (λ t. IsTooShort (read t) old.items new.items new.len) path s
WritesOf read path s old new (Err Memory) = new ≡ old
WritesOf read path s old new (Err refusal) = IsNoNode path s refusal × (new ≡ old)
