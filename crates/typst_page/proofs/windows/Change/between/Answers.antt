use Rattle.std.proofs.Common.{◌≡◌, ◌-◌, length, take, drop, ap, ◌∙◌, arith, length-drop}
use Rattle.std.specs.Prelude.{slice_range}
use Rattle.typst_node.specs.Tree.{trees}
use Rattle.typst_page.specs.Change.{old_end}
use Rattle.typst_page.proofs.Parts.{first_kept, last_kept, rest_of}
use Rattle.typst_page.proofs.windows.Change.between.Goals as goal

pub returns : goal.returns
returns c =
    let olds = trees c.args.old.now.children in
    let news = trees c.args.new.now.children in
    let from = c.beginning_before-from.result in
    let to = c.ending_by-to.result in
    let old_to = old_end olds news to in
    let old_all = ap length c.child_slice-old_children.ensures.children in
    let new_all = ap length c.child_slice-new_children.ensures.children in
    let up_to : c.saturating_sub.result ≡ old_to = omega (arith, old_all, new_all) in
    let old_is : c.part-old_parsed.result.now ≡ slice_range olds from old_to =
    c.part-old_parsed.ensures ∙ (ap (slice_range c.child_slice-old_children.result.now from) up_to ∙ ap (λ ts. slice_range ts from old_to) c.child_slice-old_children.ensures.children) in
    let new_is : c.part-new_parsed.result.now ≡ slice_range news from to = c.part-new_parsed.ensures ∙ ap (λ ts. slice_range ts from to) c.child_slice-new_children.ensures.children in
    let first = first_kept olds news c.part-old_parsed.result.now c.part-new_parsed.result.now from to old_to c.count_common_first-first.result old_is new_is c.count_common_first-first.ensures.is in
    let last = last_kept olds news c.part-old_parsed.result.now c.part-new_parsed.result.now from to old_to c.count_common_first-first.result c.count_common_last-last.result old_is new_is c.count_common_first-first.ensures.is c.count_common_first-first.ensures.within c.count_common_last-last.ensures.is in
    let rest : length (take (length c.part-new_parsed.result.now - c.count_common_first-first.result) (drop c.count_common_first-first.result c.part-new_parsed.result.now)) ≡ length (slice_range news from to) - c.count_common_first-first.result =
    omega (arith, ap length new_is, length-drop c.count_common_first-first.result c.part-new_parsed.result.now, ap length (rest_of c.part-new_parsed.result.now c.count_common_first-first.result)) in
    record {
      from = from;
      to = to;
      first = c.beginning_before-from.ensures;
      last = c.ending_by-to.ensures;
      among = record { before = omega (arith, first); changed = omega (arith, first, last, rest); behind = omega (arith, last, new_all) };
    }
