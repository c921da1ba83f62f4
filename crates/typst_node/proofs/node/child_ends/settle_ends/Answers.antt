use Rattle.std.proofs.Common.{arith, ◌≡◌, ◌+◌, ◌++◌, List, ℕ, length, map, take, drop, sym, ap, ◌∙◌, length-take}
use Rattle.std.proofs.lemmas.List.{take-append-drop}
use Rattle.typst_node.specs.Ends.{moved}
use Rattle.typst_node.specs.Text.{text_of_all}
use Rattle.typst_node.specs.ChildEnds.{ends_from}
use Rattle.typst_node.proofs.Settled.{ends_stay, shifted, ends_whole}
use Rattle.typst_node.proofs.Trees.{length_of_ends}
use Rattle.typst_node.proofs.node.child_ends.settle_ends.Goals as goal

pub shift-requires : goal.shift-requires
shift-requires c =
    let ts = c.args.children.now in
    let es = c.write_ends.new.ends in
    let to = c.args.change.now.from + c.args.change.now.many in
    omega (arith, ap length c.write_ends.ensures.before, length-take to es, length-take to (ends_from 0 ts), length_of_ends 0 ts)

pub returns-then-gone-added : goal.returns-then-gone-added
returns-then-gone-added c =
    ends_stay c.args.ends.now c.args.children.now c.args.change.now.from c.args.change.now.to c.args.change.now.many c.args.change.now.gone.len c.args.change.now.added.len
    (omega arith) (omega arith) c.requires.inside (omega arith) c.requires.added c.requires.stale

pub returns-then-gone-added-2 : goal.returns-then-gone-added-2
returns-then-gone-added-2 c =
    let ts = c.args.children.now in
    let es = c.write_ends.new.ends in
    let new = c.shift.new.self in
    let change = c.args.change.now in
    let to = change.from + change.many in
    let a = length (text_of_all (take change.from ts)) in
    let rest : drop to es ≡ ends_from (a + change.gone.len) (drop to ts) = c.write_ends.ensures.behind ∙ c.requires.stale.behind in
    let tail : drop to new ≡ ends_from (a + change.added.len) (drop to ts) =
    c.shift.ensures.behind ∙ (ap (map (moved change.gone.len change.added.len)) rest ∙ shifted a change.gone.len change.added.len (drop to ts)) in
    sym (take-append-drop to new) ∙ (ap (λ (zs : List ℕ). zs ++ drop to new) c.shift.ensures.before
    ∙ ends_whole es (drop to new) ts change.from to change.added.len (omega arith) c.requires.inside c.write_ends.ensures.before c.requires.added tail)

pub returns-else-gone-added-2 : goal.returns-else-gone-added-2
returns-else-gone-added-2 c =
    let ts = c.args.children.now in
    let es = c.write_ends.new.ends in
    let change = c.args.change.now in
    let to = change.from + change.many in
    let a = length (text_of_all (take change.from ts)) in
    let tail : drop to es ≡ ends_from (a + change.added.len) (drop to ts) = c.write_ends.ensures.behind ∙ (c.requires.stale.behind ∙ ap (λ n. ends_from (a + n) (drop to ts)) c.if-gone-added-2.false) in
    sym (take-append-drop to es) ∙ ends_whole es (drop to es) ts change.from to change.added.len (omega arith) c.requires.inside c.write_ends.ensures.before c.requires.added tail
