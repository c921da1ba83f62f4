-- What was noted of an edit, and the children after it, give its moves.
use Rattle.std.proofs.Common.{◌≡◌, ℕ, ◌+◌, ◌-◌, ◌≤◌, List, [], ◌∷◌, ◌++◌, length, map, set, get_or, get_or-set_same, sym, ap, subst, ◌∙◌, arith, Option, length-take, length-drop}
use Rattle.std.specs.Prelude.{slice_range}
use Rattle.std.specs.List.{splice}
use Rattle.std.proofs.lemmas.List.{length-set}
use Rattle.typst_node.specs.Tree.{Tree, forest, trees}
use Rattle.typst_node.specs.Labels.{number, bound}
use Rattle.typst_node.specs.Count.{count_of_all}
use Rattle.typst_node.specs.Plain.{plain}
use Rattle.typst_node.specs.Paths.{IsPath, no_tree, tree_at, trees_at, with_children}
use Rattle.typst_node.specs.PlainEdit.{edited}
use Rattle.typst_node.specs.ChangedChildren.{kept_first, kept_last}
use Rattle.typst_node.specs.Edit.{Edit, site_by}
use Rattle.typst_node.specs.Accepted.{IsAccepted}
use Rattle.typst_node.specs.Moves.{AreNoted, AreMoves, numbers}
use Rattle.typst_node.specs.declared.node.moves.Noted.{Noted}
use Rattle.typst_node.specs.declared.node.replace.Renumbered.{Renumbered}
use Rattle.typst_node.proofs.Trees.{trees_of_forest}
use Rattle.typst_node.proofs.EditStep.{kids_plain}
use Rattle.typst_node.proofs.Trimmed.{trimmed_plain}
use Rattle.typst_node.proofs.Outside.{p_old, e_old}
use Rattle.typst_node.proofs.Noted.{room_after, within_after}

-- a path to a node leads to it when it has other children
pub path_put : (path : List ℕ) (ks : List Tree) (t : Tree) → IsPath path t → IsPath path (with_children path ks t)
path_put [] ks t h = tt
path_put (i ∷ path) ks t h =
    let kids = trees t.children in
    let child = with_children path ks (get_or kids i no_tree) in
    let is : get_or (trees (forest (set kids i child))) i no_tree ≡ child = ap (λ ts. get_or ts i no_tree) (trees_of_forest (set kids i child)) ∙ get_or-set_same kids i child no_tree h.0 in
    (omega (arith, h.0, ap length (trees_of_forest (set kids i child)), length-set kids i child), subst (IsPath path) (sym is) (path_put path ks (get_or kids i no_tree) h.1))

module _ (e : Edit) (old new : Tree) (r : Renumbered) (m : Noted) (done : IsAccepted e old r new) (plains : plain (tree_at e.path new) ≡ plain (edited e.from e.to e.others (tree_at e.path old))) (noted : AreNoted (site_by e old) r.window m) where
  abbrev ts : List Tree
  ts = trees_at e.path old

  abbrev us : List Tree
  us = trees_at e.path new

  abbrev from : ℕ
  from = e.from + kept_first e.from e.to e.others ts

  abbrev to : ℕ
  to = e.to - kept_last e.from e.to e.others ts

  abbrev ys : List Tree
  ys = slice_range e.others (kept_first e.from e.to e.others ts) (length e.others - kept_last e.from e.to e.others ts)

  order : from ≤ to
  order = omega (arith, done.fits.2, p_old e.from e.to e.others ts done.fits.2 done.fits.3, e_old e.from e.to e.others ts done.fits.2 done.fits.3)

  inside : to ≤ length ts
  inside = omega (arith, done.fits.3)

  from_is : length (site_by e old).before ≡ from
  from_is = omega (arith, order, inside, length-take from ts)

  behind_is : length (site_by e old).behind ≡ length ts - to
  behind_is = length-drop to ts

  starts : r.window.start ≤ from
  starts = omega (arith, done.window.window.start, from_is)

  changed : from + length ys ≤ r.window.end
  changed = omega (arith, done.window.window.end, from_is)

  ends : r.window.end + to ≤ from + length ys + length ts
  ends = omega (arith, done.window.window.end, from_is, behind_is, inside)

  same : map plain us ≡ map plain (splice ts from to ys)
  same =
      kids_plain (tree_at e.path new) (edited e.from e.to e.others (tree_at e.path old)) plains
      ∙ (ap (map plain) (trees_of_forest (splice ts e.from e.to e.others)) ∙ sym (trimmed_plain ts e.others e.from e.to done.fits.2 done.fits.3))

  pub path_there : IsPath e.path new
  path_there = subst (IsPath e.path) (sym done.beside) (path_put e.path us old done.fits.0)

  pub rows_fit : r.window.start + m.ahead + m.behind ≤ r.window.end
  rows_fit = omega (arith, noted.ahead, noted.behind)

  pub window_fits : r.window.end ≤ length us
  window_fits = within_after (number (tree_at e.path old).label + 1) (bound (tree_at e.path old).label) from to ys ts r.window order inside starts changed ends us same

  front_is : from ≡ r.window.start + m.ahead
  front_is = omega (arith, noted.ahead, from_is)

  back_is : from + length ys ≡ r.window.end - m.behind
  back_is = omega (arith, noted.behind, from_is)

  pub room_there : length m.room.items ≡ count_of_all (slice_range us r.window.start (r.window.start + m.ahead)) + count_of_all (slice_range us (r.window.end - m.behind) r.window.end)
  room_there =
      room_after (number (tree_at e.path old).label + 1) (bound (tree_at e.path old).label) from to ys ts r.window order inside starts changed ends us same m noted
      ∙ (λ i. count_of_all (slice_range us r.window.start (front_is i)) + count_of_all (slice_range us (back_is i) r.window.end))

  pub moves_there : (file : Option ℕ)
      → AreMoves (site_by e old) r.window us record { file = file; olds = m.olds.items; news = numbers (slice_range us r.window.start (r.window.start + m.ahead) ++ slice_range us (r.window.end - m.behind) r.window.end); gone = m.gone }
  moves_there file = record {
    olds = noted.olds;
    news = λ i. numbers (slice_range us r.window.start (sym (from_is ∙ front_is) i) ++ slice_range us (sym (ap (λ n. n + length ys) from_is ∙ back_is) i) r.window.end);
    gone = noted.gone;
  }
