-- The nodes that accessors of markup answer.
use Rattle.std.specs.Prelude.{Option}
use Rattle.typst_accessors.specs.declared.node_accessor.MarkupAccessor.{MarkupAccessor}
use Rattle.typst_accessors.specs.declared.node_accessor.MarkupAccessor.TheVariants.{StrongBody, EmphBody, ContentBlockBody, ListItemBody, EnumItemBody, TermItemTerm, TermItemDescription, HeadingBody, RefSupplement, RawLang}
use Rattle.typst_atoms.specs.Kinds.{is_kind}
use Rattle.typst_atoms.specs.Raws.{lang_node}
use Rattle.typst_base.specs.declared.kind.SyntaxKind.TheVariants as kinds
use Rattle.typst_node.specs.Children.{first_child, last_child}
use Rattle.typst_node.specs.Tree.{Tree}

-- the node that an accessor answers of a node of its view, if the tree has it
abbrev pub markup_node : MarkupAccessor → Option Tree → Option Tree
markup_node StrongBody node = first_child (is_kind kinds.Markup) node
markup_node EmphBody node = first_child (is_kind kinds.Markup) node
markup_node ContentBlockBody node = first_child (is_kind kinds.Markup) node
markup_node ListItemBody node = first_child (is_kind kinds.Markup) node
markup_node EnumItemBody node = first_child (is_kind kinds.Markup) node
markup_node TermItemTerm node = first_child (is_kind kinds.Markup) node
markup_node TermItemDescription node = last_child (is_kind kinds.Markup) node
markup_node HeadingBody node = first_child (is_kind kinds.Markup) node
markup_node RefSupplement node = last_child (is_kind kinds.ContentBlock) node
markup_node RawLang node = lang_node node
