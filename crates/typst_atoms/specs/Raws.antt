-- Raw texts.
use Rattle.std.specs.Prelude.{ℕ, ◌≡◌, Bool, true, false, nat_le, cond, List, [], ◌∷◌, ◌++◌, length, Option, None, ◌⊎◌}
use Rattle.std.specs.List.{AllByRecursion}
use Rattle.std.specs.Option.{option_map_or}
use Rattle.std.specs.Str.{chars}
use Rattle.typst_node.specs.Children.{children_in, first_child}
use Rattle.typst_atoms.specs.Kinds.{is_kind}
use Rattle.typst_base.specs.declared.kind.SyntaxKind.TheVariants as kinds
use Rattle.typst_node.specs.Text.{text, own_text}
use Rattle.typst_node.specs.Tree.{Tree}
use Rattle.typst_node.specs.Views.{node_kind}

-- the first delimiter has at least three bytes
abbrev pub is_fenced : Option Tree → Bool
is_fenced node = option_map_or (λ t. nat_le 3 (length (text t))) (first_child (is_kind kinds.RawDelim) node) false

-- the node of the language tag: the first one, if the text is fenced
abbrev pub lang_node : Option Tree → Option Tree
lang_node node = cond (is_fenced node) (first_child (is_kind kinds.RawLang) node) None

-- the characters that were trimmed off: the characters of the nodes of that kind, in order
abbrev pub trimmed_in : List Tree → List ℕ
trimmed_in [] = []
trimmed_in (t ∷ ts) = cond (is_kind kinds.RawTrimmed (node_kind t)) (chars (own_text t.label) ++ trimmed_in ts) (trimmed_in ts)

-- the characters that were trimmed off in a node of raw text
abbrev pub trimmed_chars : Option Tree → List ℕ
trimmed_chars node = trimmed_in (children_in node)

-- P holds of some element
abbrev pub AnyByRecursion : {X : Type 0} → (X → Type 0) → List X → Type 0
AnyByRecursion P [] = ⊥
AnyByRecursion P (x ∷ xs) = P x ⊎ AnyByRecursion P xs

-- `is_newline c b`: the test of newlines may answer b for the character c.
module _ (is_newline : ℕ → Bool → Type 0) where
  -- the text is between delimiters of at least three backticks, and a newline was trimmed off
  abbrev pub IsBlock : Option Tree → Type 0
  IsBlock node = (is_fenced node ≡ true) × AnyByRecursion (λ c. is_newline c true) (trimmed_chars node)

  -- the text is not a block
  abbrev pub IsInline : Option Tree → Type 0
  IsInline node = (is_fenced node ≡ false) ⊎ AllByRecursion (λ c. is_newline c false) (trimmed_chars node)
