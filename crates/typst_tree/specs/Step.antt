-- What a request does to a numbered tree, and which reply it gets.
use Rattle.std.specs.Prelude.{◌≡◌, Some, None}
use Rattle.typst_base.specs.Span.{SpanParts}
use Rattle.typst_base.specs.SpanKind.{span_kind_of}
use Rattle.typst_base.specs.declared.span.SpanKind.TheVariants.{Detached}
use Rattle.typst_node.specs.Tree.{Tree}
use Rattle.typst_node.specs.Text.{offset}
use Rattle.typst_node.specs.Paths.{tree_at}
use Rattle.typst_node.specs.Edit.{Edit, Fits, IsUnfiled, edit_of}
use Rattle.typst_node.specs.Accepted.{IsAccepted}
use Rattle.typst_node.specs.Refusals.{IsRefusedBy}
use Rattle.typst_linked.specs.Place.{root_place}
use Rattle.typst_linked.specs.Finds.{FindsSpan, AreLooksForSpan, HasLookEachStepFor}
use Rattle.typst_tree.specs.declared.session.Request.{Request}
use Rattle.typst_tree.specs.declared.session.Request.TheVariants.{Replace, Find}
use Rattle.typst_tree.specs.declared.session.Reply.{Reply}
use Rattle.typst_tree.specs.declared.session.Reply.TheVariants.{Renumbered, Misfit, Refused, Found, NotFound, NoMemory}

-- A replacement is a misfit, refused or accepted, and the first two change nothing. It isn't refused for lack of a file
-- id.
abbrev pub ReplaceStep : Edit → Tree → Reply → Tree → Type 0
ReplaceStep e old Misfit new = ¬ (Fits e old) × (new ≡ old)
ReplaceStep e old (Refused why) new = IsRefusedBy why e old × ¬ (IsUnfiled (tree_at e.path old)) × (new ≡ old)
ReplaceStep e old (Renumbered r) new = IsAccepted e old r new
ReplaceStep e old (Found p o l) new = ⊥
ReplaceStep e old (NotFound l) new = ⊥
ReplaceStep e old NoMemory new = ⊥

-- A search gives the answer of the plain search from the root, with its looks, or says that memory was refused. It
-- changes nothing. For a detached span it asks for no memory.
abbrev pub FindStep : SpanParts → Tree → Reply → Tree → Type 0
FindStep span old (Found path o looks) new =
    (new ≡ old)
    × FindsSpan (span_kind_of span) (root_place old) (Some (record { root = old; path = path.items }))
    × (o ≡ offset path.items old)
    × AreLooksForSpan (span_kind_of span) (root_place old) looks
    × HasLookEachStepFor (span_kind_of span) (root_place old) looks (Some (record { root = old; path = path.items }))
FindStep span old (NotFound looks) new =
    (new ≡ old)
    × FindsSpan (span_kind_of span) (root_place old) None
    × AreLooksForSpan (span_kind_of span) (root_place old) looks
    × HasLookEachStepFor (span_kind_of span) (root_place old) looks None
FindStep span old NoMemory new = ¬ (span_kind_of span ≡ Detached) × (new ≡ old)
FindStep span old Misfit new = ⊥
FindStep span old (Refused e) new = ⊥
FindStep span old (Renumbered r) new = ⊥

-- a request on the tree `old` may get this reply and leave the tree `new`
abbrev pub Step : Tree → Request → Reply → Tree → Type 0
Step old (Replace path range others) reply new = ReplaceStep (edit_of path.items range others.items) old reply new
Step old (Find span) reply new = FindStep span old reply new
