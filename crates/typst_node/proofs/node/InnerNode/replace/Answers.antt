use Rattle.std.proofs.Common.{◌≡◌, ◌+◌, ◌-◌, length, drop, subst, ◌∙◌}
use Rattle.std.specs.Prelude.{slice_range, IfOk, IfSome}
use Rattle.typst_node.specs.Moves.{AreNoted}
use Rattle.typst_node.specs.Window.{Site, site_at, site_among}
use Rattle.typst_node.specs.ChangedChildren.{kept_first, kept_last, common_first, common_last}
use Rattle.typst_node.specs.EditBelow.{AreReplaced}
use Rattle.typst_node.proofs.node.InnerNode.replace.Goals as goal

pub returns-clause-made : goal.returns-clause-made
returns-clause-made c =
    let xs = c.args.self.now.children.items in
    let ys = c.args.edit.others.items in
    let a = c.args.edit.from in
    let b = c.args.edit.to in
    let p : c.count_common_first-first.result ≡ kept_first a b ys xs = c.count_common_first-first.ensures.is ∙ (λ i. common_first (slice_range (c.deref.ensures.value i) a b) (c.deref-2.ensures.value i)) in
    let left : c.split_at.result.1.now ≡ drop (kept_first a b ys xs) ys = c.split_at.ensures.back ∙ (λ i. drop (p i) (c.deref-3.ensures.value i)) in
    let e : c.count_common_last-last.result ≡ kept_last a b ys xs = c.count_common_last-last.ensures.is ∙ (λ i. common_last (slice_range (c.deref-4.ensures.value i) (a + p i) b) (left i)) in
    let q : c.trim.new.nodes.items ≡ slice_range ys (kept_first a b ys xs) (length ys - kept_last a b ys xs) = c.trim.ensures ∙ (λ i. slice_range ys (p i) (length ys - e i)) in
    let at : site_at (c.args.parent.number + 1) c.args.self.now.upper (a + c.count_common_first-first.result) (b - c.count_common_last-last.result) c.trim.new.nodes.items xs ≡ site_among (c.args.parent.number + 1) c.args.self.now.upper a b ys xs =
    λ i. site_at (c.args.parent.number + 1) c.args.self.now.upper (a + p i) (b - e i) (q i) xs in
    subst (λ (s : Site). AreReplaced s c.args.edit.growth c.args.parent.id c.args.self.now c.replace_changed.new.self c.replace_changed.new.len c.replace_changed.result) at c.replace_changed.ensures.made

pub returns-clause-noted : goal.returns-clause-noted
returns-clause-noted c =
    let xs = c.args.self.now.children.items in
    let ys = c.args.edit.others.items in
    let a = c.args.edit.from in
    let b = c.args.edit.to in
    let p : c.count_common_first-first.result ≡ kept_first a b ys xs = c.count_common_first-first.ensures.is ∙ (λ i. common_first (slice_range (c.deref.ensures.value i) a b) (c.deref-2.ensures.value i)) in
    let left : c.split_at.result.1.now ≡ drop (kept_first a b ys xs) ys = c.split_at.ensures.back ∙ (λ i. drop (p i) (c.deref-3.ensures.value i)) in
    let e : c.count_common_last-last.result ≡ kept_last a b ys xs = c.count_common_last-last.ensures.is ∙ (λ i. common_last (slice_range (c.deref-4.ensures.value i) (a + p i) b) (left i)) in
    let q : c.trim.new.nodes.items ≡ slice_range ys (kept_first a b ys xs) (length ys - kept_last a b ys xs) = c.trim.ensures ∙ (λ i. slice_range ys (p i) (length ys - e i)) in
    let at : site_at (c.args.parent.number + 1) c.args.self.now.upper (a + c.count_common_first-first.result) (b - c.count_common_last-last.result) c.trim.new.nodes.items xs ≡ site_among (c.args.parent.number + 1) c.args.self.now.upper a b ys xs =
    λ i. site_at (c.args.parent.number + 1) c.args.self.now.upper (a + p i) (b - e i) (q i) xs in
    subst (λ (s : Site). IfOk c.replace_changed.result (λ r. IfSome c.replace_changed.new.noted (AreNoted s r.window))) at c.replace_changed.ensures.noted
