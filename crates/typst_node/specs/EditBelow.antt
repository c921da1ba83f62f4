-- The working forms of a replacement: how it changes the children and their node.
use Rattle.std.specs.Prelude.{ℕ, ◌≡◌, ◌⊎◌, ◌↔◌, List, ◌++◌, length, map, get_or, Option, None, MatchOption, Result, IsErrOf, IfOk, OnOk, OnErr}
use Rattle.typst_node.specs.Tree.{Tree, forest, trees}
use Rattle.typst_node.specs.Text.{text_of_all}
use Rattle.typst_node.specs.Plain.{plain}
use Rattle.typst_node.specs.Numbered.{IsNumberedFor}
use Rattle.typst_node.specs.Interval.{IsWithin}
use Rattle.typst_node.specs.Paths.{no_tree}
use Rattle.typst_node.specs.PlainEdit.{edited, spliced}
use Rattle.typst_node.specs.Edit.{IsUnfiled}
use Rattle.typst_node.specs.Growth.{GrowWithin}
use Rattle.typst_node.specs.Window.{Site, site_of}
use Rattle.typst_node.specs.FirstWindow.{HasNoFirst}
use Rattle.typst_node.specs.Renumbering.{IsRenumbering}
use Rattle.typst_node.specs.View.{IsMeasured}
use Rattle.typst_node.specs.declared.node.InnerNode.{InnerNode}
use Rattle.typst_node.specs.declared.node.replace.Renumbered.{Renumbered}
use Rattle.typst_node.specs.declared.node.replace.Growth.{Growth}
use Rattle.typst_node.specs.declared.node.replace.ReplaceError.{ReplaceError}
use Rattle.typst_node.specs.declared.node.replace.ReplaceError.TheVariants.{Unnumberable, Overflow}

-- the node has no file id, or no window has room for others in place of some children
abbrev pub HasNoRoom : ℕ → ℕ → List Tree → Tree → Type 0
HasNoRoom from to others t = IsUnfiled t ⊎ HasNoFirst (site_of from to others t)

-- the tree at an index of a list
abbrev pub child_of : List Tree → ℕ → Tree
child_of ts index = get_or ts index no_tree

-- all children of a node after an edit
abbrev pub all_at : Site → List Tree
all_at s = s.before ++ (s.changed ++ s.behind)

-- how a replacement changes an inner node's children and the length that it keeps, if this is the node's file id
pub record AreReplaced (s : Site) (growth : Growth) (id : Option ℕ) (old new : InnerNode) (kept : ℕ) (result : Result Renumbered ReplaceError) : Type 0 where
  pub len : kept ≡ length (text_of_all new.children.items)
  pub measured : IsMeasured new
  pub upper : new.upper ≡ old.upper
  pub warnings : new.extras.warnings ≡ old.extras.warnings
  pub err : OnErr result (new.children.items ≡ old.children.items)
  pub overflow : IsErrOf result Overflow ↔ ¬ (GrowWithin growth old.children.items (all_at s))
  pub unnumberable : IsErrOf result Unnumberable ↔ (GrowWithin growth old.children.items (all_at s) × ((id ≡ None) ⊎ HasNoFirst s))
  pub ok : IfOk result (λ r. IsRenumbering s r new.children.items)
  pub plain : OnOk result (map plain new.children.items ≡ map plain (all_at s))
  pub within : OnOk result (MatchOption id ⊥ (λ file. IsWithin file s.first s.end (forest new.children.items)))

-- how a replacement changes an inner node, apart from the sums of its ancestors
pub record IsReplacement (from to : ℕ) (others : List Tree) (growth : Growth) (old new : Tree) (result : Result Renumbered ReplaceError) : Type 0 where
  pub unnumberable : IsErrOf result Unnumberable ↔ (GrowWithin growth (trees old.children) (spliced from to others old) × HasNoRoom from to others old)
  pub overflow : IsErrOf result Overflow ↔ ¬ (GrowWithin growth (trees old.children) (spliced from to others old))
  pub ok : IfOk result (λ r. IsRenumbering (site_of from to others old) r (trees new.children))
  pub label : new.label ≡ old.label
  pub plain : OnOk result (plain new ≡ plain (edited from to others old))
  pub numbered : OnOk result (IsNumberedFor old.label.span.file new)
