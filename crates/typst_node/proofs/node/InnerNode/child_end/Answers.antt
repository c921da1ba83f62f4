use Rattle.std.proofs.Common.{arith, ℕ, ◌≡◌, ◌+◌, ◌%◌, ◌^◌, ◌≤◌, List, length, take, ap, subst}
use Rattle.std.proofs.lemmas.List.{take_all}
use Rattle.std.specs.Prelude.{Some, None, MatchOption, slice_index, slice_range}
use Rattle.typst_node.specs.Tree.{Tree}
use Rattle.typst_node.specs.Text.{text_of_all}
use Rattle.typst_node.proofs.Trees.{within_ends, kept_end_is}
use Rattle.typst_node.proofs.Settled.{text_front, text_parts}
use Rattle.typst_node.proofs.node.InnerNode.child_end.Goals as goal

same_part : (ts us : List Tree) (first end : ℕ) → ts ≡ us → length (text_of_all (slice_range ts first end)) ≡ length (text_of_all (slice_range us first end))
same_part ts us first end same = ap (λ vs. length (text_of_all (slice_range vs first end))) same

pub end-requires : goal.end-requires
end-requires c = within_ends c.args.self.now.extras.ends c.args.self.now.children.items c.args.index c.requires.index c.requires.measured.ends

pub joined_len-requires : goal.joined_len-requires
joined_len-requires c =
    let items = c.args.self.now.children.items in
    let part = same_part c.deref.result.now items 0 (c.args.index + 1) c.deref.ensures.value in
    omega (arith, text_front items (c.args.index + 1), text_parts items 0 (c.args.index + 1) (omega arith), c.requires.len, part)

pub returns-in-Some : goal.returns-in-Some
returns-in-Some c =
    let items = c.args.self.now.children.items in
    let low : c.in-Some.end ≡ length (text_of_all (take (c.args.index + 1) items)) % 2 ^ 32 =
    kept_end_is c.args.self.now.extras.ends items c.args.index c.in-Some.end c.requires.index c.requires.measured.ends
    (subst (λ r. MatchOption c.args.self.now.extras.ends (r ≡ None) (λ ends. r ≡ Some (slice_index ends c.args.index))) c.in-Some.is c.end.ensures) in
    omega (arith, low, text_front items (c.args.index + 1), c.requires.len, c.if-len-lt-LIMIT.true)

-- the text of a beginning and that of the rest, read from another list that is the same
rest_of : (ts us : List Tree) (first : ℕ) → ts ≡ us → first ≤ length us → length (text_of_all (take first us)) + length (text_of_all (slice_range ts first (length ts))) ≡ length (text_of_all us)
rest_of ts us first same inside =
    let parts = text_parts us first (length us) inside in
    let all : length (text_of_all (take (length us) us)) ≡ length (text_of_all us) = ap (λ vs. length (text_of_all vs)) (take_all (length us) us (omega arith)) in
    omega (arith, parts, all, ap (λ vs. length (text_of_all (slice_range vs first (length vs)))) same)

pub joined_len-requires-in_default-2 : goal.joined_len-requires-in_default-2
joined_len-requires-in_default-2 c =
    omega (arith, rest_of c.deref-in_default-2.result.now c.args.self.now.children.items (c.args.index + 1) c.deref-in_default-2.ensures.value (omega (arith, c.requires.index)), c.requires.len)

pub overflow_sub-result : goal.overflow_sub-result
overflow_sub-result c =
    omega (arith, rest_of c.deref-in_default-2.result.now c.args.self.now.children.items (c.args.index + 1) c.deref-in_default-2.ensures.value (omega (arith, c.requires.index)), c.requires.len)

pub returns-in_default-2 : goal.returns-in_default-2
returns-in_default-2 c =
    omega (arith, rest_of c.deref-in_default-2.result.now c.args.self.now.children.items (c.args.index + 1) c.deref-in_default-2.ensures.value (omega (arith, c.requires.index)), c.requires.len)
