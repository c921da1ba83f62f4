-- The name that an import gives its module.
use Rattle.std.specs.Prelude.{ℕ, ◌≡◌, ◌≢◌, Bool, true, false, MatchBool, List, Option, Result, Ok, Err, MatchOption, MatchResult, String, string_bytes}
use Rattle.std.specs.declared.alloc.AllocError.{AllocError}
use Rattle.std.specs.declared.alloc.Global.{Global}
use Rattle.typst_ast.specs.Paths.{IsFileStemOf}
use Rattle.typst_ast.specs.declared.bare_names.BareImportError.{BareImportError}
use Rattle.typst_ast.specs.declared.bare_names.BareImportError.TheVariants.{PathInvalid, PackageInvalid}
use Rattle.typst_node.specs.Children.{first_child}
use Rattle.typst_atoms.specs.ExprKinds.{is_expr_kind}
use Rattle.typst_atoms.specs.Strings.{begins_with, IsStringValue}
use Rattle.typst_atoms.specs.Texts.{text_in}
use Rattle.typst_base.specs.declared.kind.SyntaxKind.{SyntaxKind}
use Rattle.typst_base.specs.declared.kind.SyntaxKind.TheVariants as kinds
use Rattle.typst_node.specs.Tree.{Tree}
use Rattle.typst_node.specs.Views.{kind_or}

-- the source of an import
abbrev pub import_source : Option Tree → Option Tree
import_source import = first_child is_expr_kind import

-- the kind of an import's source; without a source it is that of `none`
abbrev pub import_kind : Option Tree → SyntaxKind
import_kind import = kind_or kinds.None (import_source import)

-- the source is not a name, a field access or a string
abbrev pub IsDynamic : Option Tree → Type 0
IsDynamic import =
    (import_kind import ≢ kinds.Ident) × (import_kind import ≢ kinds.FieldAccess) × (import_kind import ≢ kinds.Str)

-- the answer is the name with this text
abbrev pub IsName : List ℕ → Result (String Global) BareImportError → Type 0
IsName text name = MatchResult name (λ bytes. string_bytes bytes ≡ text) (λ _. ⊥)

-- `is_ident t b`: the reader of identifiers may answer b for the text t.
module _ (is_ident : List ℕ → Bool → Type 0) where
  -- the name with this text, if the text is an identifier; otherwise the path is invalid
  abbrev pub IsAccepted : List ℕ → Result (String Global) BareImportError → Type 0
  IsAccepted text name = MatchResult name (λ bytes. (string_bytes bytes ≡ text) × is_ident text true) (λ error. (error ≡ PathInvalid) × is_ident text false)

  -- the file stem of this path; otherwise the path is invalid
  abbrev pub IsFileName : List ℕ → Result (String Global) BareImportError → Type 0
  IsFileName path name =
      (stem : Option (List ℕ)) × IsFileStemOf path stem
      × MatchOption stem (name ≡ Err PathInvalid) (λ text. IsAccepted text name)

-- `package_of t p`: the reader of packages may answer p for the text t.
module _ (is_ident : List ℕ → Bool → Type 0) (package_of : List ℕ → Result (Option (String Global)) AllocError → Type 0) where
  -- the name that the reader of packages answers for this text; otherwise the package is invalid
  abbrev pub IsPackageName : List ℕ → Result (String Global) BareImportError → Type 0
  IsPackageName text name =
      (answer : Option (String Global)) × package_of text (Ok answer)
      × MatchOption answer (name ≡ Err PackageInvalid) (λ found. IsAccepted is_ident (string_bytes found) name)

  -- the name by the value of a string: that of a package if it begins with `@`, which is byte 64, else that of a file
  abbrev pub IsImportName : List ℕ → Result (String Global) BareImportError → Type 0
  IsImportName text name = MatchBool (begins_with 64 text) (IsPackageName text name) (IsFileName is_ident text name)

  -- the name by a string with this text
  abbrev pub IsStringName : List ℕ → Result (String Global) BareImportError → Type 0
  IsStringName written name = (text : List ℕ) × IsStringValue written text × IsImportName text name

  -- the name by the source of an import, which is a string
  abbrev pub IsSourceName : Option Tree → Result (String Global) BareImportError → Type 0
  IsSourceName import name = IsStringName (text_in (import_source import)) name
