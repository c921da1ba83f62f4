use Rattle.std.proofs.Common.{◌≡◌, ◌*◌, ◌-◌, ◌≤◌, ◌⊎◌, take, drop, ap, ◌∙◌, arith}
use Rattle.typst_node.specs.Count.{count_of_all}
use Rattle.typst_node.specs.OpenNumbers.{open_from, open_to}
use Rattle.typst_node.specs.Room.{new_count}
use Rattle.typst_node.specs.WindowNumbers.{open_start, open_end, open_count}
use Rattle.typst_node.specs.Window.{trees_in}
use Rattle.typst_node.specs.Sites.{recorded}
use Rattle.typst_node.proofs.Opens.{fewer_in, drop_min}
use Rattle.typst_node.proofs.node.window.room.Goals as goal

pub window_stride-requires : goal.window_stride-requires
window_stride-requires c = omega (arith, fewer_in (recorded c.args.site.now) c.args.width, c.requires.nodes, c.requires.total)

pub returns-in-None : goal.returns-in-None
returns-in-None c =
    let s = recorded c.args.site.now in
    let w = c.args.width in
    let from : c.open_behind-start.result ≡ open_start s w = c.open_behind-start.ensures ∙ (ap (open_from s.first) c.split_at.ensures.front ∙ ap (λ n. open_from s.first (take n s.before)) c.saturating_sub.ensures) in
    let to : c.open_before-end.result ≡ open_end s w =
    c.open_before-end.ensures ∙ (ap (open_to s.end) (c.split_at-2.ensures.back ∙ (ap (λ n. drop n s.behind) c.min.ensures ∙ drop_min w s.behind))) in
    let o : c.saturating_sub-2.result ≡ open_count s w = c.saturating_sub-2.ensures ∙ (λ i. to i - from i) in
    let d : c.args.nodes ≡ count_of_all (trees_in s w) = c.requires.nodes in
    let n : c.args.site.now.total ≡ new_count s = c.requires.total in
    λ h. c.in-None.ensures.enough (coe 1 0 (i. (2 * d i ≤ o i) ⊎ (n i ≤ o i)) h)

pub returns-in-Some : goal.returns-in-Some
returns-in-Some c =
    let s = recorded c.args.site.now in
    let w = c.args.width in
    let from : c.open_behind-start.result ≡ open_start s w = c.open_behind-start.ensures ∙ (ap (open_from s.first) c.split_at.ensures.front ∙ ap (λ n. open_from s.first (take n s.before)) c.saturating_sub.ensures) in
    let to : c.open_before-end.result ≡ open_end s w =
    c.open_before-end.ensures ∙ (ap (open_to s.end) (c.split_at-2.ensures.back ∙ (ap (λ n. drop n s.behind) c.min.ensures ∙ drop_min w s.behind))) in
    let o : c.saturating_sub-2.result ≡ open_count s w = c.saturating_sub-2.ensures ∙ (λ i. to i - from i) in
    let d : c.args.nodes ≡ count_of_all (trees_in s w) = c.requires.nodes in
    let n : c.args.site.now.total ≡ new_count s = c.requires.total in
    let stride = c.in-Some.stride in
    record {
      room = coe 0 1 (i. (2 * d i ≤ o i) ⊎ (n i ≤ o i)) c.in-Some.ensures.enough;
      start = from;
      positive = c.in-Some.ensures.stride.0;
      fits = coe 0 1 (i. stride * d i ≤ o i) c.in-Some.ensures.stride.1;
      half = coe 0 1 (i. 2 * d i ≤ o i → 2 * (stride * d i) ≤ o i) c.in-Some.ensures.stride.2;
    }
