-- What a command does with the stack of nodes, the tree and the queue.
use Rattle.std.specs.Prelude.{ℕ, ◌≡◌, ◌-◌, ◌≤◌, ◌≢◌, List, [], ◌∷◌, ◌++◌, length, take, drop, IsSome, IsSomeAnd, None, ⊤}
use Rattle.typst_node.specs.Numbered.{IsNumbered}
use Rattle.typst_node.specs.Numbering.{IsNumbering, IsTooShort}
use Rattle.typst_node.specs.Tree.{Tree, leaf_tree, inner_tree}
use Rattle.typst_base.specs.Span.{numbered}
use Rattle.typst_node.specs.Hints.{error_tree}
use Rattle.typst_node.specs.Warnings.{warned, warning}
use Rattle.typst_tree.specs.Run.{Run as IsRun}
use Rattle.typst_tree.specs.declared.session.Request.TheVariants.{Replace as AskReplace, Find as AskFind}
use Rattle.typst_tree.specs.declared.session.Slot.{Slot}
use Rattle.typst_tree.specs.declared.session.Slot.TheVariants.{Ask, Told}
use Rattle.typst_script.specs.Path.{IsPathOf}
use Rattle.typst_script.specs.declared.command.Command.{Command}
use Rattle.typst_script.specs.declared.command.Command.TheVariants.{Leaf, Error, Warn, Inner, Root, Number, Replace, Find, Run, Show}
use Rattle.typst_script.specs.declared.interpreter.Interpreter.{Interpreter}

-- the tree is numbered for the file within the range, or stays as it was if the range is too short
abbrev pub NumbersOrStays : ℕ → ℕ → ℕ → Tree → Tree → Type 0
NumbersOrStays file low high old new =
    (IsTooShort old low high → new ≡ old) × (¬ (IsTooShort old low high) → IsNumbering file low high old new)

-- the slot asks that these nodes replace the children from one index to another at a path
abbrev pub AsksReplace : List ℕ → ℕ → ℕ → List Tree → Slot → Type 0
AsksReplace word start end nodes (Ask (AskReplace path range others)) =
    IsPathOf path.items word × (range.start ≡ start) × (range.end ≡ end) × (others.items ≡ nodes)
AsksReplace word start end nodes (Ask (AskFind span)) = ⊥
AsksReplace word start end nodes (Told reply) = ⊥

-- the stack, whose newest node is the last, the tree and the queue after the command
abbrev pub IsDone : Command → Interpreter → Interpreter → Type 0
IsDone (Leaf kind text) old new =
    (new.stack.items ≡ old.stack.items ++ leaf_tree kind text.now ∷ []) × (new.tree ≡ old.tree)
    × (new.queue.items ≡ old.queue.items)
IsDone (Error message text) old new =
    (new.stack.items ≡ old.stack.items ++ error_tree message.now text.now ∷ []) × (new.tree ≡ old.tree)
    × (new.queue.items ≡ old.queue.items)
IsDone (Warn message) old new =
    (below : List Tree) × (top : Tree) × (old.stack.items ≡ below ++ top ∷ [])
    × (new.stack.items ≡ below ++ warned (warning None message.now) top ∷ [])
    × (new.tree ≡ old.tree) × (new.queue.items ≡ old.queue.items)
IsDone (Inner kind popped) old new =
    let rest = length old.stack.items - popped in
    (popped ≤ length old.stack.items)
    × (new.stack.items ≡ take rest old.stack.items ++ inner_tree kind (drop rest old.stack.items) ∷ [])
    × (new.tree ≡ old.tree) × (new.queue.items ≡ old.queue.items)
IsDone Root old new =
    (new.stack.items ≡ []) × IsSomeAnd new.tree (λ root. old.stack.items ≡ root ∷ [])
    × (new.queue.items ≡ old.queue.items)
IsDone (Number file low high) old new =
    (new.stack.items ≡ old.stack.items)
    × IsSomeAnd old.tree (λ before. IsSomeAnd new.tree (λ after. NumbersOrStays file low high before after))
    × (new.queue.items ≡ old.queue.items)
IsDone (Replace path start end popped) old new =
    let rest = length old.stack.items - popped in
    (popped ≤ length old.stack.items) × (new.stack.items ≡ take rest old.stack.items) × (new.tree ≡ old.tree)
    × ((slot : Slot) × (new.queue.items ≡ old.queue.items ++ slot ∷ [])
    × AsksReplace path.word.now start end (drop rest old.stack.items) slot)
IsDone (Find file number) old new =
    (new.stack.items ≡ old.stack.items) × (new.tree ≡ old.tree)
    × (new.queue.items ≡ old.queue.items ++ Ask (AskFind (numbered file number)) ∷ [])
IsDone Run old new =
    (new.stack.items ≡ old.stack.items)
    × IsSomeAnd old.tree (λ before. IsNumbered before
    × IsSomeAnd new.tree (λ after. (replies : List Slot) × IsRun before old.queue.items replies after))
    × (new.queue.items ≡ [])
IsDone Show old new =
    (new.stack.items ≡ old.stack.items) × (new.tree ≡ old.tree) × IsSome old.tree × (new.queue.items ≡ old.queue.items)

-- the nodes or the tree that the command asks for are there
abbrev pub CanBeDone : Command → Interpreter → Type 0
CanBeDone (Leaf kind text) old = ⊤
CanBeDone (Error message text) old = ⊤
CanBeDone (Warn message) old = old.stack.items ≢ []
CanBeDone (Inner kind popped) old = popped ≤ length old.stack.items
CanBeDone Root old = length old.stack.items ≡ 1
CanBeDone (Number file low high) old = IsSome old.tree
CanBeDone (Replace path start end popped) old = popped ≤ length old.stack.items
CanBeDone (Find file number) old = ⊤
CanBeDone Run old = IsSomeAnd old.tree IsNumbered
CanBeDone Show old = IsSome old.tree
