-- What an inner node keeps apart from its children, their number and its bound.
use Rattle.std.specs.Prelude.{ℕ, List, [], Option, None}
use Rattle.typst_node.specs.declared.diagnosis.Diagnosis.{Diagnosis}
use Rattle.typst_node.specs.declared.node.Warning.{Warning}
use Rattle.typst_node.specs.declared.node.extras.Kept.{Kept}
use Rattle.typst_node.specs.declared.node.extras.Kept.TheVariants.{Plain, Listed}

-- the diagnosis of the children, the ends of their texts, if they are kept, and the warnings from the innermost to the
-- outermost
pub record ExtraParts : Type 0 where
  pub diagnosis : Diagnosis
  pub ends : Option (List ℕ)
  pub warnings : List Warning

-- what is kept; without a box there are no ends and no warnings
abbrev pub extras_seen : Kept → ExtraParts
extras_seen (Plain diagnosis) = record { diagnosis = diagnosis; ends = None; warnings = [] }
extras_seen (Listed diagnosis lists) = record { diagnosis = diagnosis; ends = lists.value.ends; warnings = lists.value.warnings.items }
