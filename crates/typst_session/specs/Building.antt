-- What calls on the stack do.
use Rattle.std.specs.Prelude.{ℕ, ◌≡◌, ◌≢◌, ◌-◌, ◌<◌, ◌≤◌, List, [], ◌∷◌, ◌++◌, length, take, drop, None, IsUtf8, Result, Ok, Err}
use Rattle.typst_base.specs.KindNumber.{number_of}
use Rattle.typst_base.specs.declared.kind.SyntaxKind.{SyntaxKind}
use Rattle.typst_base.specs.declared.kind.SyntaxKind.TheVariants as kinds
use Rattle.typst_node.specs.Tree.{Tree, leaf_tree, inner_tree}
use Rattle.typst_node.specs.Count.{SumsFit}
use Rattle.typst_node.specs.Hints.{error_tree, hint_for, hinted, CanHint}
use Rattle.typst_node.specs.Warnings.{warned, warning}
use Rattle.typst_session.specs.Reading.{IsNoNode, OfNode}
use Rattle.typst_session.specs.Sessions.{HasStack, IsKept}
use Rattle.typst_session.specs.declared.session.Session.{Session}
use Rattle.typst_session.specs.declared.refusal.Refusal.{Refusal}
use Rattle.typst_session.specs.declared.refusal.Refusal.TheVariants.{Memory, Kind, Text, Stack, Overflow, NoHints}

-- the number is the number of a kind that a leaf or an inner node may have
pub record IsPlainKind (number : ℕ) (kind : SyntaxKind) : Type 0 where
  pub of_number : number_of kind ≡ number
  pub plain : kind ≢ kinds.Error

-- no leaf and no inner node has a kind with this number
abbrev pub IsNoPlainKind : ℕ → Type 0
IsNoPlainKind number = (kind : SyntaxKind) → number_of kind ≡ number → kind ≡ kinds.Error

-- one more node on the stack
abbrev pub Pushes : Tree → Session → Session → Type 0
Pushes node old new = HasStack (old.stack.items ++ node ∷ []) old new

-- the nodes of a stack below the top `count` ones
abbrev pub below_top : ℕ → List Tree → List Tree
below_top count nodes = take (length nodes - count) nodes

-- the top `count` nodes of a stack
abbrev pub top_of : ℕ → List Tree → List Tree
top_of count nodes = drop (length nodes - count) nodes

-- a new leaf is on the stack, or why there is none
abbrev pub PushesLeaf : ℕ → List ℕ → Session → Result (Unit {0}) Refusal → Session → Type 0
PushesLeaf number text old (Ok done) new =
    (kind : SyntaxKind) × IsPlainKind number kind × IsUtf8 text × Pushes (leaf_tree kind text) old new
PushesLeaf number text old (Err Kind) new = IsNoPlainKind number × IsKept old new
PushesLeaf number text old (Err Text) new = ¬ (IsUtf8 text) × IsKept old new
PushesLeaf number text old (Err Memory) new = IsKept old new
PushesLeaf number text old (Err _) new = ⊥

-- a new error is on the stack, or why there is none
abbrev pub PushesError : List ℕ → List ℕ → Session → Result (Unit {0}) Refusal → Session → Type 0
PushesError message text old (Ok done) new = IsUtf8 message × IsUtf8 text × Pushes (error_tree message text) old new
PushesError message text old (Err Text) new = ¬ (IsUtf8 message × IsUtf8 text) × IsKept old new
PushesError message text old (Err Memory) new = IsKept old new
PushesError message text old (Err _) new = ⊥

-- a copy of the subtree that a path leads to is on the stack, or why there is none
abbrev pub PushesCopy : List ℕ → Session → Result (Unit {0}) Refusal → Session → Type 0
PushesCopy path old (Ok done) new = OfNode (λ t. Pushes t old new) path old
PushesCopy path old (Err Memory) new = IsKept old new
PushesCopy path old (Err refusal) new = IsNoNode path old refusal × IsKept old new

-- a fact holds for the node on top of the stack, and what is made of that node replaced it
pub record ChangesTop (fact : Tree → Type 0) (made : Tree → Tree) (old new : Session) : Type 0 where
  pub below : List Tree
  pub node : Tree
  pub was : old.stack.items ≡ below ++ node ∷ []
  pub holds : fact node
  pub is : HasStack (below ++ made node ∷ []) old new

-- the node on top of the stack has one more warning around it, or why not
abbrev pub Warns : List ℕ → Session → Result (Unit {0}) Refusal → Session → Type 0
Warns message old (Ok done) new = IsUtf8 message × ChangesTop (λ t. Unit {0}) (warned (warning None message)) old new
Warns message old (Err Text) new = ¬ (IsUtf8 message) × IsKept old new
Warns message old (Err Stack) new = (old.stack.items ≡ []) × IsKept old new
Warns message old (Err Memory) new = IsKept old new
Warns message old (Err _) new = ⊥

-- the node on top of the stack takes no hints
pub record IsTopWithoutHints (s : Session) : Type 0 where
  pub below : List Tree
  pub node : Tree
  pub top : s.stack.items ≡ below ++ node ∷ []
  pub none : ¬ (CanHint node.label)

-- the node on top of the stack has one more hint, or why not
abbrev pub Hints : List ℕ → Session → Result (Unit {0}) Refusal → Session → Type 0
Hints text old (Ok done) new = IsUtf8 text × ChangesTop (λ t. CanHint t.label) (hinted (hint_for None text ∷ [])) old new
Hints text old (Err Text) new = ¬ (IsUtf8 text) × IsKept old new
Hints text old (Err Stack) new = (old.stack.items ≡ []) × IsKept old new
Hints text old (Err NoHints) new = IsTopWithoutHints old × IsKept old new
Hints text old (Err Memory) new = IsKept old new
Hints text old (Err _) new = ⊥

-- an inner node replaces the top `count` nodes of the stack, which become its children, or why not
abbrev pub Wraps : ℕ → ℕ → Session → Result (Unit {0}) Refusal → Session → Type 0
Wraps number count old (Ok done) new =
    (kind : SyntaxKind) × IsPlainKind number kind × (count ≤ length old.stack.items)
    × HasStack (below_top count old.stack.items ++ inner_tree kind (top_of count old.stack.items) ∷ []) old new
Wraps number count old (Err Kind) new = IsNoPlainKind number × IsKept old new
Wraps number count old (Err Stack) new = (length old.stack.items < count) × IsKept old new
Wraps number count old (Err Overflow) new = ¬ (SumsFit (top_of count old.stack.items)) × IsKept old new
Wraps number count old (Err Memory) new = IsKept old new
Wraps number count old (Err _) new = ⊥

-- the top `count` nodes of the stack are dropped, or there are fewer
abbrev pub Pops : ℕ → Session → Result (Unit {0}) Refusal → Session → Type 0
Pops count old (Ok done) new = (count ≤ length old.stack.items) × HasStack (below_top count old.stack.items) old new
Pops count old (Err Stack) new = (length old.stack.items < count) × IsKept old new
Pops count old (Err _) new = ⊥
