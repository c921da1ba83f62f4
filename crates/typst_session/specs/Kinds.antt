-- What calls tell about a kind, by its number or its name.
use Rattle.std.specs.Prelude.{ℕ, ◌≡◌, Bool, List, IsTrue, Result, Ok, Err}
use Rattle.typst_base.specs.KindClasses.{is_block_kind, is_grouping_kind, is_keyword_kind, is_stmt_kind, is_terminator_kind, is_trivia_kind}
use Rattle.typst_base.specs.KindName.{name_of}
use Rattle.typst_base.specs.KindNumber.{number_of}
use Rattle.typst_base.specs.NamedSets.{arg_set, array_or_dict_item_set, atomic_code_expr_set, binary_op_set, code_expr_set, destructuring_item_set, math_expr_set, param_set, pattern_leaf_set, pattern_set, stmt_set, unary_op_set}
use Rattle.typst_base.specs.declared.kind.SyntaxKind.{SyntaxKind}
use Rattle.typst_session.specs.Flags.{IsFlag}
use Rattle.typst_session.specs.Texts.{Output, IsWritten, IsTooShort}
use Rattle.typst_session.specs.declared.kinds.KindClasses.{KindClasses}
use Rattle.typst_session.specs.declared.kinds.KindSet.{KindSet}
use Rattle.typst_session.specs.declared.kinds.KindSet.TheVariants as sets
use Rattle.typst_session.specs.declared.refusal.Refusal.{Refusal}
use Rattle.typst_session.specs.declared.refusal.Refusal.TheVariants.{Buffer, Kind, NotFound, Set}

-- a fact of the kind with a number
abbrev pub IsOfKind : (SyntaxKind → Type 0) → ℕ → Type 0
IsOfKind fact number = (kind : SyntaxKind) × (number_of kind ≡ number) × fact kind

-- no kind has the number
abbrev pub IsNoKind : ℕ → Refusal → Type 0
IsNoKind number refusal = (refusal ≡ Kind) × ((kind : SyntaxKind) → ¬ (number_of kind ≡ number))

-- the name of the kind with a number is written into a buffer, or why not
abbrev pub WritesName : ℕ → Output ℕ → Output ℕ → Result (Unit {0}) Refusal → Type 0
WritesName number old new (Ok done) = IsOfKind (λ kind. IsWritten (name_of kind) old.items new.items new.len) number
WritesName number old new (Err Buffer) = IsOfKind (λ kind. IsTooShort (name_of kind) old.items new.items new.len) number
WritesName number old new (Err refusal) = IsNoKind number refusal × (new ≡ old)

-- the number is the number of the kind with a name
pub record IsNamed (name : List ℕ) (number : ℕ) : Type 0 where
  pub kind : SyntaxKind
  pub number_is : number_of kind ≡ number
  pub name_is : name_of kind ≡ name

-- no kind has the name
abbrev pub IsNoName : List ℕ → Refusal → Type 0
IsNoName name refusal = (refusal ≡ NotFound) × ((kind : SyntaxKind) → ¬ (name_of kind ≡ name))

-- the number of the kind with a name, or why there is none
abbrev pub NumbersName : List ℕ → Result ℕ Refusal → Type 0
NumbersName name (Ok number) = IsNamed name number
NumbersName name (Err refusal) = IsNoName name refusal

-- how the classes of a kind are told
pub record AreClasses (kind : SyntaxKind) (told : KindClasses) : Type 0 where
  pub grouping : IsFlag told.grouping (IsTrue (is_grouping_kind kind))
  pub terminator : IsFlag told.terminator (IsTrue (is_terminator_kind kind))
  pub block : IsFlag told.block (IsTrue (is_block_kind kind))
  pub stmt : IsFlag told.stmt (IsTrue (is_stmt_kind kind))
  pub keyword : IsFlag told.keyword (IsTrue (is_keyword_kind kind))
  pub trivia : IsFlag told.trivia (IsTrue (is_trivia_kind kind))

-- the classes of the kind with a number, or why there are none
abbrev pub ClassesOf : ℕ → Result KindClasses Refusal → Type 0
ClassesOf number (Ok classes) = IsOfKind (λ kind. AreClasses kind classes) number
ClassesOf number (Err refusal) = IsNoKind number refusal

-- whether a named set holds a kind
abbrev pub is_in_set : KindSet → SyntaxKind → Bool
is_in_set sets.Stmt kind = stmt_set kind
is_in_set sets.MathExpr kind = math_expr_set kind
is_in_set sets.AtomicCodeExpr kind = atomic_code_expr_set kind
is_in_set sets.UnaryOp kind = unary_op_set kind
is_in_set sets.BinaryOp kind = binary_op_set kind
is_in_set sets.CodeExpr kind = code_expr_set kind
is_in_set sets.ArrayOrDictItem kind = array_or_dict_item_set kind
is_in_set sets.Arg kind = arg_set kind
is_in_set sets.PatternLeaf kind = pattern_leaf_set kind
is_in_set sets.Pattern kind = pattern_set kind
is_in_set sets.Param kind = param_set kind
is_in_set sets.DestructuringItem kind = destructuring_item_set kind

-- a set's number is its index in the order of the sets
abbrev pub number_of_set : KindSet → ℕ
number_of_set sets.Stmt = 0
number_of_set sets.MathExpr = 1
number_of_set sets.AtomicCodeExpr = 2
number_of_set sets.UnaryOp = 3
number_of_set sets.BinaryOp = 4
number_of_set sets.CodeExpr = 5
number_of_set sets.ArrayOrDictItem = 6
number_of_set sets.Arg = 7
number_of_set sets.PatternLeaf = 8
number_of_set sets.Pattern = 9
number_of_set sets.Param = 10
number_of_set sets.DestructuringItem = 11

-- no set has the number
abbrev pub IsNoSet : ℕ → Refusal → Type 0
IsNoSet number refusal = (refusal ≡ Set) × ((set : KindSet) → ¬ (number_of_set set ≡ number))

-- the kind with a number is in the set with a number, or not
pub record IsHolding (set number : ℕ) (held : Bool) : Type 0 where
  pub kinds : KindSet
  pub kind : SyntaxKind
  pub set_is : number_of_set kinds ≡ set
  pub kind_is : number_of kind ≡ number
  pub held_is : held ≡ is_in_set kinds kind

-- whether the set with a number holds the kind with a number, or why this isn't told
abbrev pub TellsHolding : ℕ → ℕ → Result Bool Refusal → Type 0
TellsHolding set number (Ok held) = IsHolding set number held
TellsHolding set number (Err Set) = IsNoSet set Set
TellsHolding set number (Err refusal) = IsNoKind number refusal
