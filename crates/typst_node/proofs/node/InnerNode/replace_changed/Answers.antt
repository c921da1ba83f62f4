use Rattle.std.proofs.Common.{◌≡◌, ap, ◌∙◌, ℕ, ◌+◌, ◌-◌, ◌*◌, ◌/◌, ◌^◌, ◌≤◌, length, take, drop, min, sym, subst, arith, rules, Option, Some, IfSome, MatchOption, length-take, length-drop}
use Rattle.std.specs.Prelude.{slice_range}
use Rattle.typst_node.specs.Tree.{forest}
use Rattle.typst_node.specs.Count.{count_of_all}
use Rattle.typst_node.specs.Text.{text_of_all}
use Rattle.typst_node.specs.Interval.{IsWithin}
use Rattle.typst_node.specs.Window.{site_at, trees_before, trees_in, trees_behind, window_start, window_end, width}
use Rattle.typst_node.specs.WindowNumbers.{open_start, open_count}
use Rattle.typst_node.specs.Renumbering.{AreIn}
use Rattle.typst_node.proofs.Replaced.{old_within, site_above, site_ordered, site_below, put_window, new_before, new_behind, new_half, new_within}
use Rattle.typst_node.proofs.Settled.{len_after}
use Rattle.typst_node.proofs.Plain.{same_text_of_all}
use Rattle.typst_node.proofs.Ordered.{rise_in}
use Rattle.typst_node.proofs.node.InnerNode.replace_changed.Goals as goal

if_some : (o : Option ℕ) (id : ℕ) (P : ℕ → Type 0) → o ≡ Some id → IfSome o P → P id
if_some o id P is h = subst (λ (p : Option ℕ). IfSome p P) is h

pub renumber-requires-clause-low : goal.renumber-requires-clause-low
renumber-requires-clause-low c =
    let found = c.in-Some-window.ensures in
    let xs = c.args.self.now.children.items in
    let ys = c.args.edit.others.items in
    let s = site_at (c.args.parent.number + 1) c.args.self.now.upper c.args.edit.from c.args.edit.to ys xs in
    let within = if_some c.args.parent.id c.in-Some-id.id (λ file. IsWithin file (c.args.parent.number + 1) c.args.self.now.upper (forest xs)) c.in-Some-id.is c.requires.within in
    let h = old_within c.in-Some-id.id c.args.parent.number c.args.self.now.upper c.args.edit.from c.args.edit.to xs ys c.requires.window within in
    omega (arith, site_above c.in-Some-id.id s (slice_range xs c.args.edit.from c.args.edit.to) c.in-Some-window.found.width h, found.numbering.start)

pub renumber-requires-clause-high : goal.renumber-requires-clause-high
renumber-requires-clause-high c =
    let found = c.in-Some-window.ensures in
    let xs = c.args.self.now.children.items in
    let ys = c.args.edit.others.items in
    let s = site_at (c.args.parent.number + 1) c.args.self.now.upper c.args.edit.from c.args.edit.to ys xs in
    let w = c.in-Some-window.found.width in
    let within = if_some c.args.parent.id c.in-Some-id.id (λ file. IsWithin file (c.args.parent.number + 1) c.args.self.now.upper (forest xs)) c.in-Some-id.is c.requires.within in
    let h = old_within c.in-Some-id.id c.args.parent.number c.args.self.now.upper c.args.edit.from c.args.edit.to xs ys c.requires.window within in
    let ordered = site_ordered c.in-Some-id.id s (slice_range xs c.args.edit.from c.args.edit.to) w h in
    let below = site_below c.in-Some-id.id s (slice_range xs c.args.edit.from c.args.edit.to) w h in
    let upper : c.args.self.now.upper ≤ 2 ^ 47 = if_some c.args.parent.id c.in-Some-id.id (λ file. c.args.self.now.upper ≤ 2 ^ 47) c.in-Some-id.is c.requires.upper in
    let window = put_window c.in-Some-id.id c.args.parent.number c.args.self.now.upper c.args.edit.from c.args.edit.to w c.saturating_sub-start.result (c.args.edit.from + c.len.result + c.min.result) c.in-Some-window.found.numbering.start c.in-Some-window.found.numbering.stride xs ys
    c.put.new.self.children.items c.put.new.self.children.items c.requires.window c.requires.inside c.saturating_sub-start.ensures (omega arith) c.in_ok-put.ensures.ok in
    rw window (omega (arith, found.numbering.start, found.numbering.fits))

pub overflow_sub-len-2 : goal.overflow_sub-len-2
overflow_sub-len-2 c =
    let change = c.in-Some.ensures.1 in
    (len_after c.args.self.now.children.items c.args.edit.others.items c.args.edit.from c.args.edit.to c.args.len.now c.in-Some.change.gone.len c.in-Some.change.added.len
    c.requires.window c.requires.len change.gone.len change.added.len).0

pub overflow_add-len : goal.overflow_add-len
overflow_add-len c =
    let change = c.in-Some.ensures.1 in
    let after = len_after c.args.self.now.children.items c.args.edit.others.items c.args.edit.from c.args.edit.to c.args.len.now c.in-Some.change.gone.len c.in-Some.change.added.len
    c.requires.window c.requires.len change.gone.len change.added.len in
    omega (arith, after.1, change.fits.0)

pub returns-clause-made : goal.returns-clause-made
returns-clause-made c =
    let found = c.in-Some-window.ensures in
    let xs = c.args.self.now.children.items in
    let ys = c.args.edit.others.items in
    let s = site_at (c.args.parent.number + 1) c.args.self.now.upper c.args.edit.from c.args.edit.to ys xs in
    let f = c.in-Some-window.found in
    let w = f.width in
    let e : w ≡ width (f.tried - 1) = found.width in
    let start = c.saturating_sub-start.result in
    let stop = c.args.edit.from + c.len.result + c.min.result in
    let stops : stop ≡ c.args.edit.from + length ys + min w (length xs - c.args.edit.to) = omega arith in
    let new = c.renumber.new.self.children.items in
    let within = if_some c.args.parent.id c.in-Some-id.id (λ file. IsWithin file (c.args.parent.number + 1) c.args.self.now.upper (forest xs)) c.in-Some-id.is c.requires.within in
    let put = c.put.new.self.children.items in
    let change = c.in-Some.ensures.1 in
    record {
      len =
          let after = len_after xs ys c.args.edit.from c.args.edit.to c.args.len.now c.in-Some.change.gone.len c.in-Some.change.added.len c.requires.window c.requires.len change.gone.len change.added.len in
          after.1 ∙ (ap (λ ts. length (text_of_all ts)) (sym c.in_ok-put.ensures.ok) ∙ ap length (sym (same_text_of_all new put c.renumber.ensures.plain)));
      measured = search rules;
      upper = search rules;
      warnings = search rules;
      err = tt;
      overflow = search rules;
      unnumberable = search rules;
      ok = record {
        k = f.tried - 1;
        tried = omega (arith, found.tried);
        first = found.first;
        window = record {
          start = coe 0 1 (i. start ≡ window_start s (e i)) (omega (arith, length-take c.args.edit.from xs));
          end = coe 0 1 (i. stop ≡ window_end s (e i)) (omega (arith, length-take c.args.edit.from xs, length-drop c.args.edit.to xs));
          before = coe 0 1 (i. take start new ≡ trees_before s (e i))
              (new_before c.in-Some-id.id c.args.parent.number c.args.self.now.upper c.args.edit.from c.args.edit.to w start stop f.numbering.start f.numbering.stride xs ys c.put.new.self.children.items new c.requires.window c.requires.inside c.saturating_sub-start.ensures stops c.in_ok-put.ensures.ok
              c.renumber.ensures.before c.renumber.ensures.behind);
          behind = coe 0 1 (i. drop stop new ≡ trees_behind s (e i))
              (new_behind c.in-Some-id.id c.args.parent.number c.args.self.now.upper c.args.edit.from c.args.edit.to w start stop f.numbering.start f.numbering.stride xs ys c.put.new.self.children.items new c.requires.window c.requires.inside c.saturating_sub-start.ensures stops c.in_ok-put.ensures.ok
              c.renumber.ensures.before c.renumber.ensures.behind);
          half = coe 0 1 (i. 2 * count_of_all (trees_in s (e i)) ≤ open_count s (e i) → AreIn (open_start s (e i)) (open_start s (e i) + open_count s (e i) / 2) (slice_range new start stop))
              (λ room. new_half c.in-Some-id.id c.args.parent.number c.args.self.now.upper c.args.edit.from c.args.edit.to w start stop f.numbering.start f.numbering.stride xs ys c.put.new.self.children.items new c.requires.window c.requires.inside c.saturating_sub-start.ensures stops c.in_ok-put.ensures.ok
              c.renumber.ensures.before c.renumber.ensures.behind found.numbering.start c.renumber.ensures.within (found.numbering.half room));
        };
      };
      plain = search rules;
      within = subst (λ (p : Option ℕ). MatchOption p ⊥ (λ file. IsWithin file (c.args.parent.number + 1) c.args.self.now.upper (forest new))) (sym c.in-Some-id.is)
          (new_within c.in-Some-id.id c.args.parent.number c.args.self.now.upper c.args.edit.from c.args.edit.to w start stop f.numbering.start f.numbering.stride xs ys c.put.new.self.children.items new c.requires.window c.requires.inside c.saturating_sub-start.ensures stops c.in_ok-put.ensures.ok
          c.renumber.ensures.before c.renumber.ensures.behind found.numbering.start c.renumber.ensures.within within found.numbering.fits);
    }

pub note-requires-clause-rise : goal.note-requires-clause-rise
note-requires-clause-rise c =
    let xs = c.args.self.now.children.items in
    let within = if_some c.args.parent.id c.in-Some-id.id (λ file. IsWithin file (c.args.parent.number + 1) c.args.self.now.upper (forest xs)) c.in-Some-id.is c.requires.within in
    rise_in c.in-Some-id.id (c.args.parent.number + 1) c.args.self.now.upper (forest xs) within
