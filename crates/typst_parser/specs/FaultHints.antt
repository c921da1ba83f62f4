-- The hints of errors.
use Rattle.std.specs.Prelude.{ℕ, List, [], ◌∷◌, codes, if◌then◌else◌}
use Rattle.typst_node.specs.Converted.{keyword_hints}
use Rattle.typst_node.specs.Hints.{plain_hints}
use Rattle.typst_node.specs.Tree.{HintText}
use Rattle.typst_parser.specs.Spans.{is_byte}
use Rattle.typst_parser.specs.declared.fault.Fault.{Fault}
use Rattle.typst_parser.specs.declared.fault.Fault.TheVariants as faults
use Rattle.typst_grammar.specs.Expectations.{expectation_what}

-- the hints at a character that isn't valid in code: `#`, `&` or `|`
abbrev pub character_hints : List ℕ → List (List ℕ)
character_hints text =
    if is_byte 35 text then codes "this is code already: try removing the hash" ∷ codes "to write a hash as text, escape it: `\\#`" ∷ []
    else if is_byte 38 text then codes "in Typst, `and` is used for logical AND" ∷ []
    else if is_byte 124 text then codes "in Typst, `or` is used for logical OR" ∷ []
    else []

-- the hint at `*/` outside of a block comment
abbrev pub comment_hint : List ℕ
comment_hint = codes "consider escaping the `*` with a backslash or opening the block comment with `/*`"

-- the hints of an error with this text
abbrev pub fault_hints : Fault → List ℕ → List HintText
fault_hints (faults.Mistake what kind) text = keyword_hints (expectation_what what) kind text
fault_hints faults.CommentEnd text = plain_hints (comment_hint ∷ [])
fault_hints faults.InvalidCharacter text = plain_hints (character_hints text)
fault_hints fault text = []
