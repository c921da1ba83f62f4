-- The node that an accessor answers.
use Rattle.std.specs.Prelude.{Option}
use Rattle.typst_accessors.specs.Code.{code_node}
use Rattle.typst_accessors.specs.Control.{control_node}
use Rattle.typst_accessors.specs.Markup.{markup_node}
use Rattle.typst_accessors.specs.Math.{math_node}
use Rattle.typst_accessors.specs.Modules.{module_node}
use Rattle.typst_accessors.specs.declared.node_accessor.NodeAccessor.{NodeAccessor}
use Rattle.typst_accessors.specs.declared.node_accessor.NodeAccessor.TheVariants.{Markup, Math, Code, Control, Module}
use Rattle.typst_node.specs.Tree.{Tree}

-- the node that an accessor answers of a node of its view, if the tree has it
abbrev pub node_answered : NodeAccessor → Option Tree → Option Tree
node_answered (Markup accessor) node = markup_node accessor node
node_answered (Math accessor) node = math_node accessor node
node_answered (Code accessor) node = code_node accessor node
node_answered (Control accessor) node = control_node accessor node
node_answered (Module accessor) node = module_node accessor node
