-- How contracts see what the code found.
use Rattle.std.specs.Prelude.{◌≡◌, List, [], ◌∷◌, Option, Some, None, reverse, take}
use Rattle.std.specs.Option.{option_map}
use Rattle.typst_parser.specs.Unique.{Found, found_back}
use Rattle.typst_parser.specs.declared.event.Event.{Event}
use Rattle.typst_parser.specs.declared.unique.Found.{Found as CodeFound}
use Rattle.typst_parser.specs.declared.unique.Search.{Search as CodeSearch}
use Rattle.typst_grammar.specs.declared.row.Unique.{Unique}

-- how contracts see a name or a sink that the code found
abbrev pub found_of : CodeFound → Found
found_of f = record { list = f.list; name = option_map (λ n. n.now) f.name; fault = f.fault }

-- what is found at the events that a search didn't pass yet
abbrev pub left_of : Unique → List Event → CodeSearch → List (Option Found)
left_of what es s = found_back what (reverse s.roles.items) s.text.now (reverse (take s.left es))

-- what a search tells of the next event: what is found at it, unless none was left
abbrev pub IsNext : List (Option Found) → List (Option Found) → Option (Option CodeFound) → Type 0
IsNext old new None = old ≡ []
IsNext old new (Some one) = old ≡ option_map found_of one ∷ new
