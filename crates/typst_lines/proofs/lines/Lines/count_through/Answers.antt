use Rattle.std.proofs.Common.{◌≡◌, ◌-◌, ◌+◌, ◌<◌, length, take, drop, leb, ap, ◌∙◌, arith, rules}
use Rattle.std.proofs.lemmas.List.Sorted.{IsPartitionPoint-from_clause}
use Rattle.typst_lines.specs.LineStarts.{begins_line}
use Rattle.typst_lines.specs.LineTable.{LineTable}
use Rattle.typst_lines.proofs.Seamed.{near_parted, far_parted, counted}
use Rattle.typst_lines.proofs.lines.Lines.count_through.Goals as goal

pub returns : goal.returns
returns c = λ text lines le.
    let p = begins_line c.args.self.now.ends text in
    let b = length text + 1 in
    let m = c.args.place in
    let seam = c.self.inside.seam in
    let end = c.self.inside.end in
    let kept = c.self.inside.kept.items in
    let e = ap (λ (v : LineTable). v.starts) c.self.view_is ∙ lines.starts in
    let less : c.args.place < length text + 1 = omega arith in
    let inside = c.self.invariant in
    let near = c.split_at.result.0.now in
    let far = c.split_at.result.1.now in
    let near_is : c.split_at.result.0.now ≡ take c.self.inside.seam c.self.inside.kept.items = c.split_at.ensures.front ∙ ap (take seam) c.deref.ensures.value in
    let far_is : c.split_at.result.1.now ≡ drop c.self.inside.seam c.self.inside.kept.items = c.split_at.ensures.back ∙ ap (drop seam) c.deref.ensures.value in
    let near_point = IsPartitionPoint-from_clause (λ y. leb y c.args.place) _ _ c.partition_point.ensures.partitioned (near_parted p b m seam end kept e less inside near far near_is far_is) (λ a r q k. search rules) in
    let far_point = IsPartitionPoint-from_clause (λ left. leb (c.self.inside.end - left) c.args.place) _ _ c.partition_point-2.ensures.partitioned (far_parted p b m seam end kept e less inside near far near_is far_is) (λ a r q k. search rules) in
    counted p b m seam end kept e less inside near far near_is far_is c.partition_point.result c.partition_point-2.result near_point c.partition_point.ensures.bound far_point c.partition_point-2.ensures.bound
