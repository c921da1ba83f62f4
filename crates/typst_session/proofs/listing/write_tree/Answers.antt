use Rattle.std.proofs.Common.{◌≡◌, ◌+◌, arith, drop, length, subst, sym, take, ℕ}
use Rattle.std.specs.List.{AllZip}
use Rattle.typst_node.specs.Count.{count}
use Rattle.typst_node.specs.Preorder.{subtrees}
use Rattle.typst_session.specs.Reading.{IsInfo}
use Rattle.typst_session.proofs.Listed.{length_subtrees}
use Rattle.typst_session.proofs.listing.write_tree.Goals as goal

pub returns : goal.returns
returns c =
    let many = sym (length_subtrees c.args.node.now) in
    let far : 0 + count c.args.node.now ≡ length (subtrees c.args.node.now) = omega (arith, length_subtrees c.args.node.now) in
    record {
      begin = subst (λ (k : ℕ). AllZip IsInfo (subtrees c.args.node.now) (take k c.write_subtree.new.out)) many c.write_subtree.ensures.told;
      rest = subst (λ (k : ℕ). drop k c.write_subtree.new.out ≡ drop k c.args.out.now) far c.write_subtree.ensures.behind;
    }
