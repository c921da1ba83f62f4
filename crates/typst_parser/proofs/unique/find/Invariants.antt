use Rattle.std.proofs.Common.{◌≡◌, ◌≤◌, ◌++◌, ◌∷◌, [], length, map, reverse}
use Rattle.std.specs.Option.{option_map}
use Rattle.typst_parser.specs.FoundViews.{found_of, left_of}
use Rattle.typst_parser.specs.Unique.{found_back}
use Rattle.typst_parser.specs.Roles.{root_role}
use Rattle.typst_parser.proofs.unique.find.Given as goal

abbrev pub invariant-loop-search : goal.invariant-loop-search
invariant-loop-search l = record {
  within : l.search.left ≤ length l.events;
  so_far : map (option_map found_of) l.found.items ++ left_of l.what l.events l.search
      ≡ found_back l.what (root_role l.what ∷ []) l.text (reverse l.events);
}

abbrev pub decreases-loop-search : goal.decreases-loop-search
decreases-loop-search l = l.search.left
