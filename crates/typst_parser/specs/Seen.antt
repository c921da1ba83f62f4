-- Sets of the names and sinks that were seen.
use Rattle.std.specs.Prelude.{ℕ, Bool, true, Option, None, Some, if◌then◌else◌}
use Rattle.std.specs.BTreeMap.{is_at}
use Rattle.std.specs.BTreeSet.{BTreeSet, contains}
use Rattle.std.specs.Cmp.Lexicographic.{slice_cmp}
use Rattle.std.specs.Option.{option_cmp}
use Rattle.std.specs.Ordering.{nat_cmp, ordering_then}
use Rattle.std.specs.declared.cmp.Ordering.{Ordering}
use Rattle.std.specs.Prelude.{List}
use Rattle.typst_parser.specs.declared.fault.Fault.{Fault}
use Rattle.typst_parser.specs.declared.unique.Found.{Found as CodeFound}
use denote.Ref.{Bor}

-- what a set keeps of a name: the number of its list, and its bytes, if it isn't a sink
abbrev pub Key : Type 0
Key = ℕ × Option (Bor (List ℕ))

-- the order of keys: by their numbers, and then by their bytes
abbrev pub key_cmp : Key → Key → Ordering
key_cmp x y = ordering_then (nat_cmp x.0 y.0) (option_cmp (λ a b. slice_cmp nat_cmp a.now b.now) x.1 y.1)

-- whether what was found was seen before
abbrev pub is_seen : BTreeSet Key → CodeFound → Bool
is_seen s q = contains key_cmp s (q.list, q.name)

-- whether it was seen, once another name or sink was seen, too
abbrev pub seen_after : BTreeSet Key → CodeFound → CodeFound → Bool
seen_after s f q = if is_at (key_cmp (f.list, f.name)) (q.list, q.name) then true else is_seen s q

-- why it is an error, if it was seen before
abbrev pub fault_seen : BTreeSet Key → CodeFound → Option Fault
fault_seen s f = if is_seen s f then Some f.fault else None

-- the same, where nothing may have been found
abbrev pub seen_with : BTreeSet Key → Option CodeFound → CodeFound → Bool
seen_with s None q = is_seen s q
seen_with s (Some f) q = seen_after s f q

-- why what was found is an error, if anything was found and it was seen before
abbrev pub fault_if_seen : BTreeSet Key → Option CodeFound → Option Fault
fault_if_seen s None = None
fault_if_seen s (Some f) = fault_seen s f
