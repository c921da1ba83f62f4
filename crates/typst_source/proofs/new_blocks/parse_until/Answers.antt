use Rattle.std.proofs.Common.{ℕ, ◌≡◌, ◌<◌, ◌≤◌, inl, inr, length, drop, [], ◌∷◌, ◌++◌, sym, ap, subst, ◌∙◌, arith, rules, is_ok, IsUtf8, length-append, length-drop}
use Rattle.std.proofs.ResultArms.{chosen}
use Rattle.std.proofs.lemmas.Bool.{cases_lt}
use Rattle.std.proofs.lemmas.Str.{IsUtf8-drop}
use Rattle.std.specs.Str.{IsCharBoundary}
use Rattle.typst_source.specs.declared.extents.Extent.{Extent}
use Rattle.typst_source.specs.Extents.{bytes_in}
use Rattle.typst_source.proofs.Laws.{AreLaws}
use Rattle.typst_source.proofs.Sums.{bytes_parts}
use Rattle.typst_source.proofs.SoFar.{so_far_step, so_far_left, earliest_more}
use Rattle.typst_source.proofs.TooLarge.{next_too_large}
use Rattle.typst_source.proofs.new_blocks.parse_until.Given as given
use Rattle.typst_source.proofs.new_blocks.parse_until.Goals as goal
use Rattle.typst_source.proofs.new_blocks.parse_until.Goals.{else-rest-tail-via-then-rest-tail+else-olds-passed, else-rest-tail-via-else-rest-tail}

laws : (g : given.Over) → AreLaws g.P.BlockParser.first
laws g = record {
  positive = g.met.P.BlockParser.positive;
  within = g.met.P.BlockParser.within;
  boundary = g.met.P.BlockParser.boundary;
  keeps_text = g.met.P.BlockParser.keeps_text;
  looked = g.met.P.BlockParser.looked;
  local = g.met.P.BlockParser.local;
}

pub overflow_sub-olds : goal.overflow_sub-olds
overflow_sub-olds g c = omega (arith, c.pass-passed.ensures.sums.bytes, bytes_parts c.args.olds.now.extents.now c.pass-passed.result.blocks, c.requires.bytes)

pub returns-then-olds-passed-clause-blocks : goal.returns-then-olds-passed-clause-blocks
returns-then-olds-passed-clause-blocks g c =
    let s = c.loop-rest.invariant.so_far in
    record {
      many = s.many;
      extents_are = s.extents_are;
      nodes_are = s.nodes_are;
      passed_are = c.pass-passed.ensures.sums;
      meet = (
        c.if-rest-tail.true,
        so_far_left g.P.BlockParser.first (laws g) c.args.text.now c.loop-rest.rest.now c.loop-rest.nodes.items c.loop-rest.extents.items s,
        omega (arith, c.pass-passed.ensures.sums.bytes, bytes_parts c.args.olds.now.extents.now c.pass-passed.result.blocks, c.requires.bytes, c.if-olds-passed.true),
      );
      earliest = c.loop-rest.invariant.earliest;
    }

pub parse_block-requires : goal.parse_block-requires
parse_block-requires g c =
    elim c.else-rest-tail.branch as (λ _. 0 < length c.loop-rest.rest.now) [
      | else-rest-tail-via-then-rest-tail+else-olds-passed w ↦ omega (arith, w.if-olds-passed.false, c.pass-passed.ensures.left, c.pass-passed.ensures.sums.bytes, bytes_parts c.args.olds.now.extents.now c.pass-passed.result.blocks, c.requires.bytes)
      | else-rest-tail-via-else-rest-tail w ↦ omega (arith, w.if-rest-tail.false)
    ]

pub loop-rest-smaller : goal.loop-rest-smaller
loop-rest-smaller g c =
    let some : 0 < length c.loop-rest.rest.now =
    elim c.else-rest-tail.branch as (λ _. 0 < length c.loop-rest.rest.now) [
      | else-rest-tail-via-then-rest-tail+else-olds-passed w ↦ omega (arith, w.if-olds-passed.false, c.pass-passed.ensures.left, c.pass-passed.ensures.sums.bytes, bytes_parts c.args.olds.now.extents.now c.pass-passed.result.blocks, c.requires.bytes)
      | else-rest-tail-via-else-rest-tail w ↦ omega (arith, w.if-rest-tail.false)
    ] in
    omega (arith, ap length c.split_at.ensures.back, length-drop c.in_ok-block.block.len c.loop-rest.rest.now, c.in_ok-block.ensures.parsed.len, g.met.P.BlockParser.positive c.loop-rest.rest.now some)

pub loop-rest-preserved : goal.loop-rest-preserved
loop-rest-preserved g c =
    let some : 0 < length c.loop-rest.rest.now =
    elim c.else-rest-tail.branch as (λ _. 0 < length c.loop-rest.rest.now) [
      | else-rest-tail-via-then-rest-tail+else-olds-passed w ↦ omega (arith, w.if-olds-passed.false, c.pass-passed.ensures.left, c.pass-passed.ensures.sums.bytes, bytes_parts c.args.olds.now.extents.now c.pass-passed.result.blocks, c.requires.bytes)
      | else-rest-tail-via-else-rest-tail w ↦ omega (arith, w.if-rest-tail.false)
    ] in
    let s = c.loop-rest.invariant.so_far in
    let extent : ℕ → Extent = λ (n : ℕ). record { bytes = c.in_ok-block.block.len; nodes = n; reach = c.in_ok-block.block.reach } in
    let more_is : c.push.new.self.items ≡ c.loop-rest.extents.items ++ extent (length c.in_ok-block.block.nodes.items) ∷ [] =
    chosen _ _ _ _ c.push.ensures.items (ap is_ok c.in_ok-push.was) ∙ ap (λ (n : ℕ). c.loop-rest.extents.items ++ extent n ∷ []) (c.len.ensures ∙ c.in_ok-block.block.nodes.ok.0) in
    let shorter : length c.split_at.result.1.now ≤ length c.loop-rest.rest.now = omega (arith, ap length c.split_at.ensures.back, length-drop c.in_ok-block.block.len c.loop-rest.rest.now) in
    record {
      utf8 = subst IsUtf8 (sym c.split_at.ensures.back) (IsUtf8-drop _ _ c.loop-rest.invariant.utf8 (subst (IsCharBoundary c.loop-rest.rest.now) (sym c.in_ok-block.ensures.parsed.len) (g.met.P.BlockParser.boundary c.loop-rest.rest.now c.loop-rest.invariant.utf8)));
      so_far = so_far_step g.P.BlockParser.first (laws g) c.args.text.now c.loop-rest.rest.now c.split_at.result.1.now c.loop-rest.nodes.items c.append.new.self.items c.loop-rest.extents.items c.push.new.self.items c.in_ok-block.block
          s some c.in_ok-block.ensures.parsed (chosen _ _ _ _ c.append.ensures.items (ap is_ok c.in_ok-append.was)) more_is c.split_at.ensures.back;
      passed_are = c.pass-passed.ensures.sums;
      skipped = λ k below. elim (cases_lt k c.loop-rest.passed.blocks) as (λ _. length c.split_at.result.1.now < bytes_in (drop k c.args.olds.now.extents.now)) [
        | inl less ↦ omega (arith, c.loop-rest.invariant.skipped k less)
        | inr late ↦ omega (arith, c.pass-passed.ensures.skipped k late below)
      ];
      earliest = λ many passed left h p meet.
          earliest_more g.P.BlockParser.first (laws g) c.args.text.now c.loop-rest.rest.now c.args.olds.now.extents.now c.args.tail (length c.loop-rest.extents.items) c.pass-passed.result.blocks
          (so_far_left g.P.BlockParser.first (laws g) c.args.text.now c.loop-rest.rest.now c.loop-rest.nodes.items c.loop-rest.extents.items s)
          (λ k below. elim (cases_lt k c.loop-rest.passed.blocks) as (λ _. length c.loop-rest.rest.now < bytes_in (drop k c.args.olds.now.extents.now)) [ inl less ↦ c.loop-rest.invariant.skipped k less | inr late ↦ c.pass-passed.ensures.skipped k late below ])
          c.pass-passed.ensures.left
          (λ short same. elim c.else-rest-tail.branch as (λ _. ⊥) [
            | else-rest-tail-via-then-rest-tail+else-olds-passed w ↦ absurd (omega (arith, w.if-olds-passed.false, same, c.pass-passed.ensures.sums.bytes, bytes_parts c.args.olds.now.extents.now c.pass-passed.result.blocks, c.requires.bytes))
            | else-rest-tail-via-else-rest-tail w ↦ absurd (omega (arith, w.if-rest-tail.false, short))
          ])
          c.loop-rest.invariant.earliest many passed left (omega (arith, h, ap length more_is, length-append c.loop-rest.extents.items (extent (length c.in_ok-block.block.nodes.items) ∷ []))) p meet;
    }

pub returns-in_err-block-clause-overflow : goal.returns-in_err-block-clause-overflow
returns-in_err-block-clause-overflow g c = λ is.
    let some : 0 < length c.loop-rest.rest.now =
    elim c.else-rest-tail.branch as (λ _. 0 < length c.loop-rest.rest.now) [
      | else-rest-tail-via-then-rest-tail+else-olds-passed w ↦ omega (arith, w.if-olds-passed.false, c.pass-passed.ensures.left, c.pass-passed.ensures.sums.bytes, bytes_parts c.args.olds.now.extents.now c.pass-passed.result.blocks, c.requires.bytes)
      | else-rest-tail-via-else-rest-tail w ↦ omega (arith, w.if-rest-tail.false)
    ] in
    next_too_large g.P.BlockParser.first (laws g) c.args.text.now c.loop-rest.rest.now c.loop-rest.nodes.items c.loop-rest.extents.items c.loop-rest.invariant.so_far some
    (c.in_err-block.ensures.overflow (search (rules, is)))
