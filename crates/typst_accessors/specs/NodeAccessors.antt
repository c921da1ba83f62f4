-- Written by bench/accessors.py from crates/accessors.txt: change that and run it.
-- The numbers of accessors that answer other nodes, and the kinds of the nodes that have them.
use Rattle.std.specs.Prelude.{ℕ}
use Rattle.typst_accessors.specs.declared.node_accessor.NodeAccessor.{NodeAccessor}
use Rattle.typst_accessors.specs.declared.node_accessor.NodeAccessor.TheVariants.{Markup, Math, Code, Control, Module}
use Rattle.typst_accessors.specs.declared.node_accessor.MarkupAccessor.{MarkupAccessor}
use Rattle.typst_accessors.specs.declared.node_accessor.MarkupAccessor.TheVariants.{StrongBody, EmphBody, ContentBlockBody, ListItemBody, EnumItemBody, TermItemTerm, TermItemDescription, HeadingBody, RefSupplement, RawLang}
use Rattle.typst_accessors.specs.declared.node_accessor.MathAccessor.{MathAccessor}
use Rattle.typst_accessors.specs.declared.node_accessor.MathAccessor.TheVariants.{EquationBody, MathFieldAccessTarget, MathFieldAccessField, MathCallCallee, MathCallArgs, MathDelimitedOpen, MathDelimitedBody, MathDelimitedClose, MathAttachBase, MathAttachBottom, MathAttachTop, MathAttachPrimes, MathFracNum, MathFracDenom, MathRootRadicand}
use Rattle.typst_accessors.specs.declared.node_accessor.CodeAccessor.{CodeAccessor}
use Rattle.typst_accessors.specs.declared.node_accessor.CodeAccessor.TheVariants.{CodeBlockBody, ParenthesizedExpr, ParenthesizedPattern, NamedName, NamedExpr, NamedPattern, KeyedKey, KeyedExpr, SpreadExpr, SpreadSinkIdent, SpreadSinkExpr, UnaryExpr, BinaryLhs, BinaryRhs, FieldAccessTarget, FieldAccessField, FuncCallCallee, FuncCallArgs, ClosureName, ClosureParams, ClosureBody}
use Rattle.typst_accessors.specs.declared.node_accessor.ControlAccessor.{ControlAccessor}
use Rattle.typst_accessors.specs.declared.node_accessor.ControlAccessor.TheVariants.{LetBindingKind, LetBindingInit, DestructAssignmentPattern, DestructAssignmentValue, SetRuleTarget, SetRuleArgs, SetRuleCondition, ShowRuleSelector, ShowRuleTransform, ContextualBody, ConditionalCondition, ConditionalIfBody, ConditionalElseBody, WhileLoopCondition, WhileLoopBody, ForLoopPattern, ForLoopIterable, ForLoopBody, FuncReturnBody}
use Rattle.typst_accessors.specs.declared.node_accessor.ModuleAccessor.{ModuleAccessor}
use Rattle.typst_accessors.specs.declared.node_accessor.ModuleAccessor.TheVariants.{ImportItemPathName, RenamedImportItemPath, RenamedImportItemOriginalName, RenamedImportItemNewName, ModuleImportSource, ModuleImportImports, ModuleImportNewName, ModuleIncludeSource}
use Rattle.typst_accessors.specs.declared.nodes_accessor.NodesAccessor.{NodesAccessor}
use Rattle.typst_accessors.specs.declared.nodes_accessor.NodesAccessor.TheVariants.{MarkupExprs, MathExprs, CodeExprs, RawLines, MathArgsContentItems, MathArgsArgItems, ArrayItems, DictItems, DestructuringItems, ArgsItems, ParamsChildren, ImportItemsIter, ImportItemPathIter}
use Rattle.typst_base.specs.declared.kind.SyntaxKind.{SyntaxKind}
use Rattle.typst_base.specs.declared.kind.SyntaxKind.TheVariants as kinds

-- those of each part of the syntax, and of lists of nodes
abbrev pub markup_number : MarkupAccessor → ℕ
markup_number StrongBody = 33
markup_number EmphBody = 34
markup_number ContentBlockBody = 35
markup_number ListItemBody = 36
markup_number EnumItemBody = 37
markup_number TermItemTerm = 38
markup_number TermItemDescription = 39
markup_number HeadingBody = 40
markup_number RefSupplement = 41
markup_number RawLang = 42

abbrev pub markup_view : MarkupAccessor → SyntaxKind
markup_view StrongBody = kinds.Strong
markup_view EmphBody = kinds.Emph
markup_view ContentBlockBody = kinds.ContentBlock
markup_view ListItemBody = kinds.ListItem
markup_view EnumItemBody = kinds.EnumItem
markup_view TermItemTerm = kinds.TermItem
markup_view TermItemDescription = kinds.TermItem
markup_view HeadingBody = kinds.Heading
markup_view RefSupplement = kinds.Ref
markup_view RawLang = kinds.Raw

abbrev pub math_number : MathAccessor → ℕ
math_number EquationBody = 43
math_number MathFieldAccessTarget = 44
math_number MathFieldAccessField = 45
math_number MathCallCallee = 46
math_number MathCallArgs = 47
math_number MathDelimitedOpen = 48
math_number MathDelimitedBody = 49
math_number MathDelimitedClose = 50
math_number MathAttachBase = 51
math_number MathAttachBottom = 52
math_number MathAttachTop = 53
math_number MathAttachPrimes = 54
math_number MathFracNum = 55
math_number MathFracDenom = 56
math_number MathRootRadicand = 57

abbrev pub math_view : MathAccessor → SyntaxKind
math_view EquationBody = kinds.Equation
math_view MathFieldAccessTarget = kinds.MathFieldAccess
math_view MathFieldAccessField = kinds.MathFieldAccess
math_view MathCallCallee = kinds.MathCall
math_view MathCallArgs = kinds.MathCall
math_view MathDelimitedOpen = kinds.MathDelimited
math_view MathDelimitedBody = kinds.MathDelimited
math_view MathDelimitedClose = kinds.MathDelimited
math_view MathAttachBase = kinds.MathAttach
math_view MathAttachBottom = kinds.MathAttach
math_view MathAttachTop = kinds.MathAttach
math_view MathAttachPrimes = kinds.MathAttach
math_view MathFracNum = kinds.MathFrac
math_view MathFracDenom = kinds.MathFrac
math_view MathRootRadicand = kinds.MathRoot

abbrev pub code_number : CodeAccessor → ℕ
code_number CodeBlockBody = 58
code_number ParenthesizedExpr = 59
code_number ParenthesizedPattern = 60
code_number NamedName = 61
code_number NamedExpr = 62
code_number NamedPattern = 63
code_number KeyedKey = 64
code_number KeyedExpr = 65
code_number SpreadExpr = 66
code_number SpreadSinkIdent = 67
code_number SpreadSinkExpr = 68
code_number UnaryExpr = 69
code_number BinaryLhs = 70
code_number BinaryRhs = 71
code_number FieldAccessTarget = 72
code_number FieldAccessField = 73
code_number FuncCallCallee = 74
code_number FuncCallArgs = 75
code_number ClosureName = 76
code_number ClosureParams = 77
code_number ClosureBody = 78

abbrev pub code_view : CodeAccessor → SyntaxKind
code_view CodeBlockBody = kinds.CodeBlock
code_view ParenthesizedExpr = kinds.Parenthesized
code_view ParenthesizedPattern = kinds.Parenthesized
code_view NamedName = kinds.Named
code_view NamedExpr = kinds.Named
code_view NamedPattern = kinds.Named
code_view KeyedKey = kinds.Keyed
code_view KeyedExpr = kinds.Keyed
code_view SpreadExpr = kinds.Spread
code_view SpreadSinkIdent = kinds.Spread
code_view SpreadSinkExpr = kinds.Spread
code_view UnaryExpr = kinds.Unary
code_view BinaryLhs = kinds.Binary
code_view BinaryRhs = kinds.Binary
code_view FieldAccessTarget = kinds.FieldAccess
code_view FieldAccessField = kinds.FieldAccess
code_view FuncCallCallee = kinds.FuncCall
code_view FuncCallArgs = kinds.FuncCall
code_view ClosureName = kinds.Closure
code_view ClosureParams = kinds.Closure
code_view ClosureBody = kinds.Closure

abbrev pub control_number : ControlAccessor → ℕ
control_number LetBindingKind = 79
control_number LetBindingInit = 80
control_number DestructAssignmentPattern = 81
control_number DestructAssignmentValue = 82
control_number SetRuleTarget = 83
control_number SetRuleArgs = 84
control_number SetRuleCondition = 85
control_number ShowRuleSelector = 86
control_number ShowRuleTransform = 87
control_number ContextualBody = 88
control_number ConditionalCondition = 89
control_number ConditionalIfBody = 90
control_number ConditionalElseBody = 91
control_number WhileLoopCondition = 92
control_number WhileLoopBody = 93
control_number ForLoopPattern = 94
control_number ForLoopIterable = 95
control_number ForLoopBody = 96
control_number FuncReturnBody = 97

abbrev pub control_view : ControlAccessor → SyntaxKind
control_view LetBindingKind = kinds.LetBinding
control_view LetBindingInit = kinds.LetBinding
control_view DestructAssignmentPattern = kinds.DestructAssignment
control_view DestructAssignmentValue = kinds.DestructAssignment
control_view SetRuleTarget = kinds.SetRule
control_view SetRuleArgs = kinds.SetRule
control_view SetRuleCondition = kinds.SetRule
control_view ShowRuleSelector = kinds.ShowRule
control_view ShowRuleTransform = kinds.ShowRule
control_view ContextualBody = kinds.Contextual
control_view ConditionalCondition = kinds.Conditional
control_view ConditionalIfBody = kinds.Conditional
control_view ConditionalElseBody = kinds.Conditional
control_view WhileLoopCondition = kinds.WhileLoop
control_view WhileLoopBody = kinds.WhileLoop
control_view ForLoopPattern = kinds.ForLoop
control_view ForLoopIterable = kinds.ForLoop
control_view ForLoopBody = kinds.ForLoop
control_view FuncReturnBody = kinds.FuncReturn

abbrev pub module_number : ModuleAccessor → ℕ
module_number ImportItemPathName = 98
module_number RenamedImportItemPath = 99
module_number RenamedImportItemOriginalName = 100
module_number RenamedImportItemNewName = 101
module_number ModuleImportSource = 102
module_number ModuleImportImports = 103
module_number ModuleImportNewName = 104
module_number ModuleIncludeSource = 105

abbrev pub module_view : ModuleAccessor → SyntaxKind
module_view ImportItemPathName = kinds.ImportItemPath
module_view RenamedImportItemPath = kinds.RenamedImportItem
module_view RenamedImportItemOriginalName = kinds.RenamedImportItem
module_view RenamedImportItemNewName = kinds.RenamedImportItem
module_view ModuleImportSource = kinds.ModuleImport
module_view ModuleImportImports = kinds.ModuleImport
module_view ModuleImportNewName = kinds.ModuleImport
module_view ModuleIncludeSource = kinds.ModuleInclude

abbrev pub nodes_number : NodesAccessor → ℕ
nodes_number MarkupExprs = 106
nodes_number MathExprs = 107
nodes_number CodeExprs = 108
nodes_number RawLines = 109
nodes_number MathArgsContentItems = 110
nodes_number MathArgsArgItems = 111
nodes_number ArrayItems = 112
nodes_number DictItems = 113
nodes_number DestructuringItems = 114
nodes_number ArgsItems = 115
nodes_number ParamsChildren = 116
nodes_number ImportItemsIter = 117
nodes_number ImportItemPathIter = 118

abbrev pub nodes_view : NodesAccessor → SyntaxKind
nodes_view MarkupExprs = kinds.Markup
nodes_view MathExprs = kinds.Math
nodes_view CodeExprs = kinds.Code
nodes_view RawLines = kinds.Raw
nodes_view MathArgsContentItems = kinds.MathArgs
nodes_view MathArgsArgItems = kinds.MathArgs
nodes_view ArrayItems = kinds.Array
nodes_view DictItems = kinds.Dict
nodes_view DestructuringItems = kinds.Destructuring
nodes_view ArgsItems = kinds.Args
nodes_view ParamsChildren = kinds.Params
nodes_view ImportItemsIter = kinds.ImportItems
nodes_view ImportItemPathIter = kinds.ImportItemPath

-- the number of an accessor that answers a node
abbrev pub node_number : NodeAccessor → ℕ
node_number (Markup accessor) = markup_number accessor
node_number (Math accessor) = math_number accessor
node_number (Code accessor) = code_number accessor
node_number (Control accessor) = control_number accessor
node_number (Module accessor) = module_number accessor

-- the kind of the nodes that have an accessor that answers a node
abbrev pub node_view : NodeAccessor → SyntaxKind
node_view (Markup accessor) = markup_view accessor
node_view (Math accessor) = math_view accessor
node_view (Code accessor) = code_view accessor
node_view (Control accessor) = control_view accessor
node_view (Module accessor) = module_view accessor
