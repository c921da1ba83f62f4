use Rattle.std.proofs.Common.{◌≡◌, ◌∙◌, map, ap, arith}
use Rattle.typst_node.specs.Plain.{plain}
use Rattle.typst_source.specs.Blocks.{blocks, trees_of}
use Rattle.typst_source.specs.Extents.{extents_of}
use Rattle.typst_source.specs.Source.{IsRoomy}
use Rattle.std.specs.Prelude.{Err}
use Rattle.typst_node.specs.declared.node.build.InnerError.TheVariants as inner
use Rattle.typst_source.proofs.Laws.{AreLaws}
use Rattle.typst_source.proofs.TooLarge.{inner_overflow, unfit}
use Rattle.typst_source.proofs.Made.{whole_blocks}
use Rattle.typst_source.proofs.Trees.{root_count, root_inner, numbered_text, numbered_fresh, is_parsed}
use Rattle.typst_source.proofs.parsed.Parsed.new.Given as given
use Rattle.typst_source.proofs.parsed.Parsed.new.Goals as goal

laws : (g : given.Over) → AreLaws g.P.BlockParser.first
laws g = record {
  positive = g.met.P.BlockParser.positive;
  within = g.met.P.BlockParser.within;
  boundary = g.met.P.BlockParser.boundary;
  keeps_text = g.met.P.BlockParser.keeps_text;
  looked = g.met.P.BlockParser.looked;
  local = g.met.P.BlockParser.local;
}

pub returns-then-descendants-ge-TOO_MANY_NODES-clause-unnumberable : goal.returns-then-descendants-ge-TOO_MANY_NODES-clause-unnumberable
returns-then-descendants-ge-TOO_MANY_NODES-clause-unnumberable g c = λ _.
    let f = g.P.BlockParser.first in
    let all = c.in_ok-all.all in
    let are : map plain all.nodes.items ≡ trees_of (blocks f c.args.source.now) = c.in_ok-all.ensures.blocks.nodes_are ∙ ap trees_of (whole_blocks f (laws g) c.args.source.now _ all c.in_ok-all.ensures.blocks) in
    omega (arith, c.if-descendants-ge-TOO_MANY_NODES.true, c.descendants.ensures, root_count f (laws g) c.args.source.now all.nodes.items c.in_ok-root.root are c.in_ok-root.ensures.ok)

pub returns-clause-source_text : goal.returns-clause-source_text
returns-clause-source_text g c =
    let f = g.P.BlockParser.first in
    let all = c.in_ok-all.all in
    let are : map plain all.nodes.items ≡ trees_of (blocks f c.args.source.now) = c.in_ok-all.ensures.blocks.nodes_are ∙ ap trees_of (whole_blocks f (laws g) c.args.source.now _ all c.in_ok-all.ensures.blocks) in
    numbered_text f (laws g) c.args.source.now all.nodes.items c.in_ok-root.root are c.in_ok-root.ensures.ok c.numberize.new.self c.in_ok-numberize.ensures.numbering.plain

pub returns-clause-parsed : goal.returns-clause-parsed
returns-clause-parsed g c =
    let f = g.P.BlockParser.first in
    let all = c.in_ok-all.all in
    let whole = whole_blocks f (laws g) c.args.source.now _ all c.in_ok-all.ensures.blocks in
    let are : map plain all.nodes.items ≡ trees_of (blocks f c.args.source.now) = c.in_ok-all.ensures.blocks.nodes_are ∙ ap trees_of whole in
    let inner = root_inner f (laws g) c.args.source.now all.nodes.items c.in_ok-root.root are c.in_ok-root.ensures.ok in
    let half = c.in_ok-numberize.ensures.numbering.first_half inner (omega (arith, c.if-descendants-ge-TOO_MANY_NODES.false, c.descendants.ensures)) in
    let roomy : IsRoomy c.numberize.new.self = omega (arith, half.0.1, c.in_ok-numberize.ensures.numbering.bound inner) in
    is_parsed f (laws g) c.args.source.now c.numberize.new.self c.new.result.items
    (numbered_fresh f (laws g) c.args.source.now all.nodes.items c.in_ok-root.root are c.in_ok-root.ensures.ok c.numberize.new.self c.in_ok-numberize.ensures.numbering.plain)
    (c.args.id, omega arith, c.in_ok-numberize.ensures.numbering.numbered) roomy (c.new.ensures ∙ c.in_ok-all.ensures.blocks.extents_are ∙ ap extents_of whole)

pub returns-in_err-root-clause-overflow : goal.returns-in_err-root-clause-overflow
returns-in_err-root-clause-overflow g c = λ is.
    let f = g.P.BlockParser.first in
    let all = c.in_ok-all.all in
    let are : map plain all.nodes.items ≡ trees_of (blocks f c.args.source.now) = c.in_ok-all.ensures.blocks.nodes_are ∙ ap trees_of (whole_blocks f (laws g) c.args.source.now _ all c.in_ok-all.ensures.blocks) in
    let e = c.in_err-root.field-0.0 in
    let was : e ≡ inner.Overflow = inner_overflow c.from_residual-in_err-root.result e c.from_residual-in_err-root.ensures.1 is in
    unfit f (laws g) c.args.source.now all.nodes.items are (c.in_err-root.ensures.overflow.0 (ap (λ x. Err x) was))
