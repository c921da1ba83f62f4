use Rattle.std.proofs.Common.{◌≡◌, ◌-◌, length, drop, refl, sym, ap, subst, arith, length-drop}
use Rattle.typst_node.specs.Text.{text}
use Rattle.typst_source.specs.Extents.{bytes_in, nodes_in}
use Rattle.std.specs.Prelude.{Err}
use Rattle.typst_node.specs.declared.node.build.InnerError.TheVariants as inner
use Rattle.typst_source.specs.Source.{IsTooLarge}
use Rattle.typst_source.proofs.Laws.{AreLaws}
use Rattle.typst_source.proofs.TooLarge.{inner_overflow}
use Rattle.typst_source.proofs.Sums.{bytes_parts, nodes_parts}
use Rattle.typst_source.proofs.Kept.{same_tail}
use Rattle.typst_source.proofs.Kids.{source_inner}
use Rattle.typst_source.proofs.Made.{kept_before, kept_boundary, new_extents, extents_fit, reparsed, seams, new_tree, nodes_fit, new_too_large}
use Rattle.typst_source.proofs.Trees.{all_looked, bytes_whole, nodes_whole}
use Rattle.typst_source.proofs.parsed.Parsed.change.Given as given
use Rattle.typst_source.proofs.parsed.Parsed.change.Goals as goal

laws : (g : given.Over) → AreLaws g.P.BlockParser.first
laws g = record {
  positive = g.met.P.BlockParser.positive;
  within = g.met.P.BlockParser.within;
  boundary = g.met.P.BlockParser.boundary;
  keeps_text = g.met.P.BlockParser.keeps_text;
  looked = g.met.P.BlockParser.looked;
  local = g.met.P.BlockParser.local;
}

pub untouched-kept-requires-clause-bytes : goal.untouched-kept-requires-clause-bytes
untouched-kept-requires-clause-bytes g c =
    let t = c.args.self.now.root in
    omega (arith, bytes_whole g.P.BlockParser.first (laws g) c.args.self.now.extents.items (text t) c.requires.parsed.extents_are, c.len-bytes.ensures, c.len-bytes.type_inv)

pub untouched-kept-requires-clause-nodes : goal.untouched-kept-requires-clause-nodes
untouched-kept-requires-clause-nodes g c =
    let t = c.args.self.now.root in
    omega (
      arith,
      nodes_whole g.P.BlockParser.first (laws g) c.args.self.now.extents.items (text t) t c.requires.parsed.extents_are c.requires.parsed.fresh,
      ap length c.child_slice-count.ensures.children,
      c.child_slice-count.type_inv.0,
    )

pub untouched-kept-requires-clause-looked : goal.untouched-kept-requires-clause-looked
untouched-kept-requires-clause-looked g c =
    all_looked g.P.BlockParser.first (laws g) c.args.self.now.extents.items (text c.args.self.now.root) c.requires.parsed.extents_are

pub overflow_sub-olds : goal.overflow_sub-olds
overflow_sub-olds g c =
    let t = c.args.self.now.root in
    omega (arith, kept_before g.P.BlockParser.first (laws g) (text t) c.args.new.now c.args.cut.now c.requires.cut c.args.self.now.extents.items c.untouched-kept.result.sums c.requires.parsed.extents_are c.untouched-kept.ensures.untouched, c.requires.cut.old_ordered, c.requires.cut.old_within, c.len-bytes.ensures)

pub split_at-requires : goal.split_at-requires
split_at-requires g c =
    let t = c.args.self.now.root in
    kept_boundary g.P.BlockParser.first (laws g) (text t) c.args.new.now c.args.cut.now c.requires.cut c.args.self.now.extents.items c.untouched-kept.result.sums c.requires.parsed.extents_are c.untouched-kept.ensures.untouched c.utf8.new

pub parse_until-requires-clause-bytes : goal.parse_until-requires-clause-bytes
parse_until-requires-clause-bytes g c =
    let t = c.args.self.now.root in
    let es = c.args.self.now.extents.items in
    let k = c.untouched-kept.result.sums.blocks in
    let behind : c.behind.result.now ≡ drop k es = c.behind.ensures in
    omega (arith, ap bytes_in behind, bytes_parts es k, bytes_whole g.P.BlockParser.first (laws g) es (text t) c.requires.parsed.extents_are, c.untouched-kept.ensures.untouched.sums_are.bytes, c.len-bytes.ensures)

pub parse_until-requires-clause-nodes : goal.parse_until-requires-clause-nodes
parse_until-requires-clause-nodes g c =
    let t = c.args.self.now.root in
    let es = c.args.self.now.extents.items in
    let k = c.untouched-kept.result.sums.blocks in
    let behind : c.behind.result.now ≡ drop k es = c.behind.ensures in
    omega (
      arith,
      ap nodes_in behind,
      nodes_parts es k,
      nodes_whole g.P.BlockParser.first (laws g) es (text t) t c.requires.parsed.extents_are c.requires.parsed.fresh,
      ap length c.child_slice-count.ensures.children,
      c.child_slice-count.type_inv.0,
    )

pub parse_until-requires-clause-within : goal.parse_until-requires-clause-within
parse_until-requires-clause-within g c =
    let t = c.args.self.now.root in
    omega (
      arith,
      ap length c.split_at.ensures.back,
      length-drop c.untouched-kept.result.sums.bytes c.args.new.now,
      kept_before g.P.BlockParser.first (laws g) (text t) c.args.new.now c.args.cut.now c.requires.cut c.args.self.now.extents.items c.untouched-kept.result.sums c.requires.parsed.extents_are c.untouched-kept.ensures.untouched,
      c.requires.cut.new_ordered,
    )

pub parse_until-requires-clause-old : goal.parse_until-requires-clause-old
parse_until-requires-clause-old g c =
    let t = c.args.self.now.root in
    omega (
      arith,
      same_tail g.P.BlockParser.first (laws g) (text t) c.args.new.now c.args.cut.now c.requires.cut,
      kept_before g.P.BlockParser.first (laws g) (text t) c.args.new.now c.args.cut.now c.requires.cut c.args.self.now.extents.items c.untouched-kept.result.sums c.requires.parsed.extents_are c.untouched-kept.ensures.untouched,
      c.requires.cut.old_ordered,
      c.len-bytes.ensures,
    )

pub overflow_add-result : goal.overflow_add-result
overflow_add-result g c =
    omega (arith, c.in_ok-new_blocks.ensures.blocks.passed_are.within, ap length c.behind.ensures, length-drop c.untouched-kept.result.sums.blocks c.args.self.now.extents.items, c.untouched-kept.ensures.untouched.sums_are.within, c.untouched-kept.ensures.countable)

pub overflow_add-result-2 : goal.overflow_add-result-2
overflow_add-result-2 g c =
    let f = g.P.BlockParser.first in
    let t = c.args.self.now.root in
    let es = c.args.self.now.extents.items in
    let k = c.untouched-kept.result.sums in
    let behind : c.behind.result.now ≡ drop k.blocks es = c.behind.ensures in
    let tail : length c.args.new.now - c.args.cut.now.new_end ≡ length (text t) - c.args.cut.now.old_end = sym (same_tail f (laws g) (text t) c.args.new.now c.args.cut.now c.requires.cut) in
    omega (
      arith,
      nodes_fit f (laws g) (text t) c.args.new.now c.args.cut.now c.requires.cut es k c.requires.parsed.extents_are c.untouched-kept.ensures.untouched
          c.behind.result.now c.split_at.result.1.now (length c.args.new.now - c.args.cut.now.new_end) c.in_ok-new_blocks.new_blocks behind c.split_at.ensures.back tail c.in_ok-new_blocks.ensures.blocks t c.requires.parsed.fresh,
      ap length c.child_slice-count.ensures.children,
      c.child_slice-count.type_inv.0,
    )

pub returns-clause-change : goal.returns-clause-change
returns-clause-change g c =
    let f = g.P.BlockParser.first in
    let t = c.args.self.now.root in
    let new = c.args.new.now in
    let cut = c.args.cut.now in
    let es = c.args.self.now.extents.items in
    let are = c.requires.parsed.extents_are in
    let fresh = c.requires.parsed.fresh in
    let k = c.untouched-kept.result.sums in
    let w = c.in_ok-new_blocks.new_blocks in
    let olds = c.behind.result.now in
    let rest = c.split_at.result.1.now in
    let behind : olds ≡ drop k.blocks es = c.behind.ensures in
    let tail : length new - cut.new_end ≡ length (text t) - cut.old_end = sym (same_tail f (laws g) (text t) new cut c.requires.cut) in
    record {
      inner = source_inner f (text t) t fresh;
      fits = λ _. (omega arith, nodes_fit f (laws g) (text t) new cut c.requires.cut es k are c.untouched-kept.ensures.untouched olds rest (length new - cut.new_end) w behind c.split_at.ensures.back tail c.in_ok-new_blocks.ensures.blocks t fresh);
      fresh = new_tree f (laws g) (text t) new cut c.requires.cut es k are c.untouched-kept.ensures.untouched olds rest (length new - cut.new_end) w behind c.split_at.ensures.back tail c.in_ok-new_blocks.ensures.blocks t fresh;
      beginning = c.untouched-kept.ensures.beginning;
      ordered = omega arith;
      inside = extents_fit f (laws g) (text t) new cut c.requires.cut es k are c.untouched-kept.ensures.untouched olds rest (length new - cut.new_end) w behind c.split_at.ensures.back tail c.in_ok-new_blocks.ensures.blocks;
      extents_are = new_extents f (laws g) (text t) new cut c.requires.cut es k are c.untouched-kept.ensures.untouched olds rest (length new - cut.new_end) w behind c.split_at.ensures.back tail c.in_ok-new_blocks.ensures.blocks;
      reparsed = reparsed f (laws g) (text t) new cut c.requires.cut es k are c.untouched-kept.ensures.untouched olds rest (length new - cut.new_end) w behind c.split_at.ensures.back tail c.in_ok-new_blocks.ensures.blocks (length new - w.left) refl;
      seams = seams f (laws g) (text t) new cut c.requires.cut es k are c.untouched-kept.ensures.untouched olds rest (length new - cut.new_end) w behind c.split_at.ensures.back tail c.in_ok-new_blocks.ensures.blocks (length new - w.left) refl;
    }

pub returns-in_err-new_blocks-clause-overflow : goal.returns-in_err-new_blocks-clause-overflow
returns-in_err-new_blocks-clause-overflow g c = λ is.
    let f = g.P.BlockParser.first in
    let t = c.args.self.now.root in
    let k = c.untouched-kept.result.sums in
    let e = c.in_err-new_blocks.field-0.0 in
    let was : e ≡ inner.Overflow = inner_overflow c.from_residual.result e c.from_residual.ensures.1 is in
    new_too_large f (laws g) (text t) c.args.new.now c.args.cut.now c.requires.cut c.args.self.now.extents.items k c.requires.parsed.extents_are c.untouched-kept.ensures.untouched
    (subst (IsTooLarge f) c.split_at.ensures.back (c.in_err-new_blocks.ensures.overflow (ap (λ x. Err x) was)))
