-- Nodes with another kind, and errors in place of nodes.
use Rattle.std.specs.Prelude.{ℕ, ◌||◌, ◌&&◌, ◌++◌, Bool, List, [], ◌∷◌, None, nat_eq, codes, if◌then◌else◌}
use lib.Pointwise.{pointwise}
use Rattle.typst_base.specs.KindClasses.{is_keyword_kind}
use Rattle.typst_base.specs.KindName.{name_of}
use Rattle.typst_base.specs.declared.kind.SyntaxKind.{SyntaxKind}
use Rattle.typst_node.specs.Tree.{HintText, Content, AsLeaf, AsError, AsInner, Tree, kind_of}
use Rattle.typst_node.specs.Text.{text}
use Rattle.typst_node.specs.Diagnosis.{is_error}
use Rattle.typst_node.specs.Hints.{error_tree, hint_for, hinted}

-- the content with this kind; an error keeps its own
abbrev pub content_of_kind : SyntaxKind → Content → Content
content_of_kind kind (AsLeaf old text) = AsLeaf kind text
content_of_kind kind (AsError text message hints) = AsError text message hints
content_of_kind kind (AsInner old bound) = AsInner kind bound

-- the tree with this kind at its node
abbrev pub of_kind : SyntaxKind → Tree → Tree
of_kind kind t = record t { label = record t.label { content = content_of_kind kind t.label.content } }

-- a detached error with this message, these hints and the tree's whole text; if the tree is an error, it stays
abbrev pub as_error : List ℕ → List HintText → Tree → Tree
as_error message hints t = if is_error t.label then t else hinted hints (error_tree message (text t))

-- "unexpected NAME"
abbrev pub unexpected_message : SyntaxKind → List ℕ
unexpected_message kind = codes "unexpected " ++ name_of kind

-- "expected WHAT, found NAME"
abbrev pub expected_message : List ℕ → SyntaxKind → List ℕ
expected_message what kind = codes "expected " ++ (what ++ (codes ", found " ++ name_of kind))

-- whether what was expected is an identifier or a pattern
abbrev pub wants_name : List ℕ → Bool
wants_name what = pointwise nat_eq what (codes "identifier") || pointwise nat_eq what (codes "pattern")

-- "keyword `T` is not allowed as an identifier; try `T_` instead"
abbrev pub keyword_message : List ℕ → List ℕ
keyword_message text =
    codes "keyword `" ++ (text ++ (codes "` is not allowed as an identifier; try `" ++ (text ++ codes "_` instead")))

-- the hint at a keyword, if an identifier or a pattern was expected
abbrev pub keyword_hints : List ℕ → SyntaxKind → List ℕ → List HintText
keyword_hints what kind text =
    if is_keyword_kind kind && wants_name what then hint_for None (keyword_message text) ∷ [] else []

-- the error in place of the node that says what was expected, with the hint at a keyword, if one is due
abbrev pub as_expected : List ℕ → Tree → Tree
as_expected what t =
    let kind = kind_of t.label.content in
    as_error (expected_message what kind) (keyword_hints what kind (text t)) t
