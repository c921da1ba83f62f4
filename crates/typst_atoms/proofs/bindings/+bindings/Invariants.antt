use Rattle.std.proofs.Common.{◌≡◌, ◌++◌, ◌+◌, ◌*◌, drop, map, Some}
use Rattle.std.specs.List.{flat_map}
use Rattle.std.specs.Option.{option_copied}
use Rattle.typst_atoms.specs.Bindings.{count_in, names_bound, names_of_item}
use Rattle.typst_atoms.specs.Classes.{is_destructuring_item_kind}
use Rattle.typst_node.specs.Children.{all_in}
use Rattle.typst_atoms.specs.View.{atom_node}
use Rattle.typst_node.specs.Count.{count, count_of_all}
use Rattle.typst_atoms.proofs.bindings.+bindings.Given as goal

abbrev pub decreases-push_pattern : goal.decreases-push_pattern
decreases-push_pattern l = 3 * count_in (option_copied l.pattern)

abbrev pub decreases-push_item : goal.decreases-push_item
decreases-push_item l = 3 * count l.item.now + 1

abbrev pub decreases-push_items : goal.decreases-push_items
decreases-push_items l = 3 * count_of_all l.nodes.now + 2

abbrev pub invariant-push_items-loop-node : goal.invariant-push_items-loop-node
invariant-push_items-loop-node l =
    map atom_node l.names.items ++ map Some (flat_map (names_of_item names_bound) (all_in is_destructuring_item_kind (drop l.node-index l.nodes)))
    ≡ map atom_node l.initial.names.items ++ map Some (flat_map (names_of_item names_bound) (all_in is_destructuring_item_kind l.nodes))
