use Rattle.std.proofs.Common.{◌≡◌, ◌+◌, ◌-◌, ◌++◌, List, length, take, drop, sym, ap, subst, ◌∙◌, arith, length-take, length-drop}
use Rattle.std.specs.Prelude.{slice_range}
use Rattle.typst_node.specs.Tree.{Tree}
use Rattle.typst_node.specs.Count.{count_of_all}
use Rattle.typst_node.specs.Numbered.{Rise}
use Rattle.typst_node.specs.OpenNumbers.{open_from, open_to}
use Rattle.typst_node.specs.Moves.{numbers}
use Rattle.typst_node.proofs.Opens.{count_append}
use Rattle.typst_node.proofs.Following.{length_numbers}
use Rattle.typst_node.proofs.Noted.{stays, few, rises, gap}
use Rattle.typst_node.proofs.node.InnerNode.noted.Goals as goal

pub note-requires : goal.note-requires
note-requires c =
    let xs = c.args.self.now.children.items in
    let e = c.args.edit.now in
    let many : c.len.result ≡ length e.others.items = omega arith in
    let h = few c.args.first c.args.self.now.upper e.from e.to e.others.items xs c.args.window c.requires.order c.requires.inside c.requires.start c.requires.changed c.requires.end in
    let one : count_of_all (slice_range c.deref.result.now c.args.window.start e.from) ≡ count_of_all (slice_range xs c.args.window.start e.from) = ap (λ (ts : List Tree). count_of_all (slice_range ts c.args.window.start e.from)) c.deref.ensures.value in
    let last = e.to + (c.args.window.end - (e.from + c.len.result)) in
    let two : count_of_all (slice_range c.deref-2.result.now e.to last) ≡ count_of_all (slice_range xs e.to (e.to + (c.args.window.end - (e.from + length e.others.items)))) = (λ i. count_of_all (slice_range (c.deref-2.ensures.value i) e.to (e.to + (c.args.window.end - (e.from + many i))))) in
    omega (arith, h, one, two, c.requires.fits.1)

pub returns : goal.returns
returns c =
    let xs = c.args.self.now.children.items in
    let e = c.args.edit.now in
    let many : c.len.result ≡ length e.others.items = omega arith in
    let up = c.args.self.now.upper in
    let w = c.args.window in
    let parts : slice_range c.deref.result.now w.start e.from ++ slice_range c.deref-2.result.now e.to (e.to + (w.end - (e.from + c.len.result))) ≡ slice_range xs w.start e.from ++ slice_range xs e.to (e.to + (w.end - (e.from + length e.others.items))) =
    (λ i. slice_range (c.deref.ensures.value i) w.start e.from ++ slice_range (c.deref-2.ensures.value i) e.to (e.to + (w.end - (e.from + many i)))) in
    record {
      olds = c.in_ok-noted.ensures.olds ∙ ap numbers (parts ∙ sym (stays c.args.first up e.from e.to e.others.items xs w c.requires.order c.requires.inside c.requires.start c.requires.changed c.requires.end));
      room = c.in_ok-noted.ensures.room ∙ (sym (count_append (slice_range c.deref.result.now w.start e.from) (slice_range c.deref-2.result.now e.to (e.to + (w.end - (e.from + c.len.result)))))
          ∙ (sym (length_numbers (slice_range c.deref.result.now w.start e.from ++ slice_range c.deref-2.result.now e.to (e.to + (w.end - (e.from + c.len.result))))) ∙ ap length (sym c.in_ok-noted.ensures.olds)));
      rise = subst Rise (sym (c.in_ok-noted.ensures.olds ∙ ap numbers parts))
          (rises c.args.first up e.from e.to e.others.items xs w c.requires.order c.requires.inside c.requires.start c.requires.changed c.requires.end c.requires.rise);
      ahead = omega (
        arith,
        c.in_ok-noted.ensures.ahead,
        c.requires.start,
        c.requires.order,
        c.requires.inside,
        length-take (e.from - w.start) (drop w.start c.deref.result.now),
        length-drop w.start c.deref.result.now,
        ap length c.deref.ensures.value,
        length-take e.from xs,
      );
      behind = omega (
        arith,
        c.in_ok-noted.ensures.behind,
        c.requires.order,
        c.requires.inside,
        c.requires.changed,
        c.requires.end,
        many,
        length-take (e.to + (w.end - (e.from + c.len.result)) - e.to) (drop e.to c.deref-2.result.now),
        length-drop e.to c.deref-2.result.now,
        ap length c.deref-2.ensures.value,
        length-take e.from xs,
      );
      gone = c.in_ok-noted.ensures.gone ∙ gap c.args.first up e.from e.to e.others.items xs w c.requires.order c.requires.inside c.requires.start c.requires.changed c.requires.end
          (record { start = c.open_behind.result; end = c.open_before.result })
          (c.open_behind.ensures ∙ ap (open_from c.args.first) (c.split_at.ensures.front ∙ ap (take e.from) c.deref-3.ensures.value))
          (c.open_before.ensures ∙ ap (open_to up) (c.split_at-2.ensures.back ∙ ap (drop e.to) c.deref-4.ensures.value));
    }
