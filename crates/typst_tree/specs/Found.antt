-- Working form: the reply that gives the answer of a search.
use Rattle.std.specs.Prelude.{ℕ, ◌≡◌, Option, Some, None}
use Rattle.typst_node.specs.Text.{offset}
use Rattle.typst_linked.specs.Place.{Place}
use Rattle.typst_tree.specs.declared.session.Reply.{Reply}
use Rattle.typst_tree.specs.declared.session.Reply.TheVariants.{Renumbered, Misfit, Refused, Found, NotFound, NoMemory}

-- a reply gives a place, or says that there is none, or that memory for the path was refused
abbrev pub TellsPlace : Option Place → ℕ → Reply → Type 0
TellsPlace None looks reply = reply ≡ NotFound looks
TellsPlace (Some place) looks (Found path o l) = (path.items ≡ place.path) × (o ≡ offset place.path place.root) × (l ≡ looks)
TellsPlace (Some place) looks NoMemory = Unit {0}
TellsPlace (Some place) looks Misfit = ⊥
TellsPlace (Some place) looks (Refused e) = ⊥
TellsPlace (Some place) looks (Renumbered r) = ⊥
TellsPlace (Some place) looks (NotFound l) = ⊥
