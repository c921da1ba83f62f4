-- Names that come again in the last tree, and second sinks. Lists of events that are named `back` have the last event first, and
-- `text` ends with it.
use Rattle.std.specs.Prelude.{ℕ, zero, suc, ◌+◌, ◌==◌, ◌&&◌, ◌||◌, min, eqb, Bool, true, false, List, [], ◌∷◌, ◌++◌, drop, length, replicate, reverse, Option, Some, None, if◌then◌else◌}
use lib.Pointwise.{pointwise}
use Rattle.typst_base.specs.declared.kind.SyntaxKind.{SyntaxKind}
use Rattle.typst_base.specs.declared.kind.SyntaxKind.TheVariants as kinds
use Rattle.typst_parser.specs.Events.{but_last, bytes_of, kind_of, last_some}
use Rattle.typst_parser.specs.Faults.{name_in}
use Rattle.typst_parser.specs.Roles.{first_role, others_role, root_role}
use Rattle.typst_parser.specs.Spans.{children_of, span, width}
use Rattle.typst_parser.specs.declared.event.Event.{Event}
use Rattle.typst_parser.specs.declared.event.Event.TheVariants.{Error}
use Rattle.typst_parser.specs.declared.fault.Fault.{Fault}
use Rattle.typst_parser.specs.declared.fault.Fault.TheVariants as faults
use Rattle.typst_parser.specs.declared.role.Role.{Role}
use Rattle.typst_parser.specs.declared.role.Role.TheVariants as roles
use Rattle.typst_grammar.specs.declared.row.Unique.{Unique}
use Rattle.typst_grammar.specs.declared.row.Unique.TheVariants as uniques

-- A name or a sink that was found: the number of the list in which it may not come again, its name, if it isn't a sink, and why it is
-- an error if it comes again. The names that a pattern binds, and those of arguments, are in one list, with the number 0.
pub record Found : Type 0 where
  pub list : ℕ
  pub name : Option (List ℕ)
  pub fault : Fault

-- a name in a list
abbrev pub name_found : Unique → ℕ → List ℕ → Option Found
name_found what list name = Some (record { list = list; name = Some name; fault = faults.Duplicate what })

-- a name that a pattern binds, unless only sinks are looked for
abbrev pub bound_found : Unique → List ℕ → Option Found
bound_found uniques.Sink name = None
bound_found what name = name_found what 0 name

-- what is found in a tree of this role and kind, with this text if it is a leaf
abbrev pub found_in : Unique → Role → SyntaxKind → List ℕ → Option Found
found_in what roles.Name kinds.Ident text = name_found what 0 text
found_in what (roles.Key list) kinds.Ident text = name_found what list text
found_in what (roles.Key list) kinds.Str text = name_found what list (name_in text)
found_in what roles.Pattern kinds.Ident text = bound_found what text
found_in what (roles.Element list) kinds.Ident text = bound_found what text
found_in what (roles.Element list) kinds.Spread text = Some (record { list = list; name = None; fault = faults.SecondSinkOfPattern })
found_in what (roles.Parameter list) kinds.Ident text = bound_found what text
found_in what (roles.Parameter list) kinds.Spread text = Some (record { list = list; name = None; fault = faults.SecondSink })
found_in what role kind text = None

-- the roles of the children of a tree, the last child first
abbrev pub child_roles : Role → Role → ℕ → List Role
child_roles first others zero = []
child_roles first others (suc n) = replicate n others ++ first ∷ []

-- the roles of the children of an event, of which there are no more than events; its number is that of the events before it
abbrev pub roles_below : Role → Event → List Event → List Role
roles_below role e back =
    child_roles (first_role role (kind_of e) (length back)) (others_role role (kind_of e) (length back)) (min (children_of e) (length back))

-- what is found at each event of the last trees, which have these roles
unfoldable pub found_back : Unique → List Role → List ℕ → List Event → List (Option Found)
found_back what [] text back = []
found_back what (role ∷ roles) text [] = []
found_back what (role ∷ roles) text (e ∷ back) =
    found_in what role (kind_of e) (last_some (bytes_of e) text) ∷ found_back what (roles_below role e back ++ roles) (but_last (bytes_of e) text) back

-- whether two names are the same, or both are sinks
abbrev pub is_same_name : Option (List ℕ) → Option (List ℕ) → Bool
is_same_name None None = true
is_same_name None (Some m) = false
is_same_name (Some n) None = false
is_same_name (Some n) (Some m) = pointwise eqb n m

-- whether the same name, or a sink, was found twice in the same list
abbrev pub is_same : Found → Found → Bool
is_same one other = (one.list == other.list) && is_same_name one.name other.name

-- whether something is among what was found
abbrev pub is_among : Found → List (Option Found) → Bool
is_among one [] = false
is_among one (None ∷ fs) = is_among one fs
is_among one (Some f ∷ fs) = is_same one f || is_among one fs

-- why it is an error, if it comes before in the text
abbrev pub fault_among : Option Found → List (Option Found) → Option Fault
fault_among None before = None
fault_among (Some f) before = if is_among f before then Some f.fault else None

-- why each event's tree is an error, if what was found at it comes before in the text
abbrev pub faults_of : List (Option Found) → List (Option Fault)
faults_of [] = []
faults_of (f ∷ fs) = fault_among f fs ∷ faults_of fs

-- what comes of an event, if its tree has a fault, where so many bytes are in the text
abbrev pub fault_put : Option Fault → ℕ → Event → List Event → List Event
fault_put None end e back = e ∷ []
fault_put (Some f) end e back = Error f (min (bytes_of e + width (children_of e) back) end) ∷ []

-- how many events go, if its tree has a fault
abbrev pub fault_gone : Option Fault → Event → List Event → ℕ
fault_gone None e back = 0
fault_gone (Some f) e back = span (children_of e) back

-- The events, with errors in place of the trees that have faults. So many events are passed over, since their tree became an error.
unfoldable pub faulted_back : ℕ → ℕ → List (Option Fault) → List Event → List Event
faulted_back n end [] back = drop n back
faulted_back n end (f ∷ fs) [] = []
faulted_back (suc n) end (f ∷ fs) (e ∷ back) = faulted_back n end fs back
faulted_back zero end (f ∷ fs) (e ∷ back) = fault_put f end e back ++ faulted_back (fault_gone f e back) end fs back

-- the events after names that come again in the last tree, and second sinks, have become errors
abbrev pub made_unique : Unique → List ℕ → List Event → List Event
made_unique what text es =
    reverse (faulted_back 0 (length text) (faults_of (found_back what (root_role what ∷ []) text (reverse es))) (reverse es))
