-- Trees with the places of their mapped bytes, child after child: the working form of `Mapped`.
use Rattle.std.specs.Prelude.{ℕ, ◌+◌, List, [], ◌∷◌, length, map}
use Rattle.std.specs.declared.ops.Range.{Range}
use Rattle.typst_base.specs.Mapping.{Mapping}
use Rattle.typst_node.specs.Tree.{WarningText, Forest, none, tree, Tree}
use Rattle.typst_node.specs.Text.{own_text, text}
use Rattle.typst_node.specs.Mapped.{bytes_from, mapped_label, mapped_warning}
use Rattle.typst_node.specs.View.{shown_warnings}
use Rattle.typst_node.specs.declared.node.Warning.{Warning}

-- adjacent trees whose joined text begins at this offset, each node with the place of its bytes
abbrev pub mapped_forest : Mapping → ℕ → ℕ → Forest → Forest
mapped_forest m id start none = none
mapped_forest m id start (tree l c r) =
    let bytes = bytes_from start record { label = l; children = c } in
    tree (mapped_label m id bytes l) (mapped_forest m id (start + length (own_text l)) c) (mapped_forest m id bytes.end r)

-- the tree whose text begins at this offset, each node with the place of its bytes
abbrev pub mapped_tree : Mapping → ℕ → ℕ → Tree → Tree
mapped_tree m id start t = record {
  label = mapped_label m id (bytes_from start t) t.label;
  children = mapped_forest m id (start + length (own_text t.label)) t.children;
}

-- the same for a list of trees
abbrev pub mapped_trees : Mapping → ℕ → ℕ → List Tree → List Tree
mapped_trees m id start [] = []
mapped_trees m id start (t ∷ ts) = mapped_tree m id start t ∷ mapped_trees m id (start + length (text t)) ts

-- the warnings in the order of the tree, mapped
abbrev pub mapped_warnings : Mapping → Range ℕ → List Warning → List WarningText
mapped_warnings m bytes ws = map (mapped_warning m bytes) (shown_warnings ws)
