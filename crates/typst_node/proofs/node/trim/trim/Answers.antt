use Rattle.std.proofs.Common.{◌≡◌, ℕ, ◌+◌, ◌-◌, ◌≤◌, List, ◌++◌, length, take, drop, arith, ap, ◌∙◌, length-take, length-drop, length-append}
use Rattle.std.specs.Prelude.{slice_range}
use Rattle.std.proofs.lemmas.List.{take_at, drop-take}
use Rattle.typst_node.proofs.node.trim.trim.Goals as goal

trimmed : {X : Type 0} (xs t r : List X) (first last : ℕ) → first + last ≤ length xs → t ≡ take (length xs - last) xs → r ≡ drop first t ++ take first t → take (length r - first) r ≡ slice_range xs first (length xs - last)
trimmed xs t r first last h t_is r_is =
    let many : length t ≡ length xs - last = ap length t_is ∙ omega (arith, length-take (length xs - last) xs) in
    let all : length r ≡ length t = ap length r_is ∙ omega (arith, length-append (drop first t) (take first t), length-drop first t, length-take first t) in
    let front : take (length r - first) r ≡ drop first t = ap (take (length r - first)) r_is ∙ take_at (drop first t) (take first t) (length r - first) (omega (arith, length-drop first t)) in
    let split : length xs - last ≡ first + (length xs - last - first) = omega arith in
    front ∙ (ap (drop first) (t_is ∙ ap (λ n. take n xs) split) ∙ drop-take first (length xs - last - first) xs)

pub returns : goal.returns
returns c =
    let many : c.len.result ≡ length c.args.nodes.now.items = omega arith in
    let left : c.len-2.result ≡ length c.rotate_left.new.self.items = omega arith in
    c.truncate-2.ensures.items
    ∙ (ap (λ n. take (n - c.args.first) c.rotate_left.new.self.items) left
    ∙ trimmed c.args.nodes.now.items c.truncate.new.self.items c.rotate_left.new.self.items c.args.first c.args.last c.requires (c.truncate.ensures.items ∙ ap (λ n. take (n - c.args.last) c.args.nodes.now.items) many) c.rotate_left.ensures.items)
