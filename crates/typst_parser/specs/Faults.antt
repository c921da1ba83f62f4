-- What errors say.
use Rattle.std.specs.Prelude.{ℕ, ◌+◌, ◌-◌, ◌&&◌, ◌||◌, ◌==◌, Bool, List, ◌++◌, length, take, drop, codes, slice_index, nat_lt, not, if◌then◌else◌}
use Rattle.std.specs.Char.{is_ascii_digit, is_ascii_alphanumeric}
use Rattle.std.specs.List.{prefix_len}
use Rattle.typst_node.specs.Converted.{expected_message, unexpected_message}
use Rattle.typst_parser.specs.declared.fault.Fault.{Fault}
use Rattle.typst_parser.specs.declared.fault.Fault.TheVariants as faults
use Rattle.typst_grammar.specs.Expectations.{expectation_text, expectation_what}
use Rattle.typst_grammar.specs.declared.row.Unique.{Unique}
use Rattle.typst_grammar.specs.declared.row.Unique.TheVariants as uniques

-- what the names are that may not come again
abbrev pub unique_word : Unique → List ℕ
unique_word uniques.Argument = codes "argument"
unique_word uniques.Parameter = codes "parameter"
unique_word uniques.Binding = codes "binding"
unique_word uniques.Key = codes "key"
unique_word uniques.Sink = codes "sink"

-- the text without its last byte, if that is this one
abbrev pub without_end : ℕ → List ℕ → List ℕ
without_end b text = if nat_lt 0 (length text) && (slice_index text (length text - 1) == b) then take (length text - 1) text else text

-- a name, or the value of a string, which is what is between its quotes
abbrev pub name_in : List ℕ → List ℕ
name_in text = if slice_index text 0 == 34 then without_end 34 (drop 1 text) else text

-- what is between the braces of `\u{..}`
abbrev pub digits_in : List ℕ → List ℕ
digits_in text = if slice_index text 2 == 123 then without_end 125 (drop 3 text) else text

-- a digit or a dot
abbrev pub is_digit_or_dot : ℕ → Bool
is_digit_or_dot b = is_ascii_digit b || (b == 46)

-- a digit, a plus or a minus
abbrev pub is_digit_or_sign : ℕ → Bool
is_digit_or_sign b = is_ascii_digit b || (b == 43) || (b == 45)

-- whether an exponent is next: an `e` or `E`, but not `em`, which is a unit
abbrev pub begins_exponent : List ℕ → Bool
begins_exponent bs = (slice_index bs 0 == 69) || ((slice_index bs 0 == 101) && not (slice_index bs 1 == 109))

-- the length of an exponent, if one is next
abbrev pub exponent_len : List ℕ → ℕ
exponent_len bs = if begins_exponent bs then prefix_len is_digit_or_sign (drop 1 bs) + 1 else 0

-- the length of digits and dots
abbrev pub mantissa_len : List ℕ → ℕ
mantissa_len text = prefix_len is_digit_or_dot text

-- the length of a number without its suffix: digits and dots, and an exponent
abbrev pub number_len : List ℕ → ℕ
number_len text = mantissa_len text + exponent_len (drop (mantissa_len text) text)

-- whether a number begins with `0b` or `0o`, which letters may follow
abbrev pub is_base_mark : ℕ → Bool
is_base_mark b = (b == 98) || (b == 111)

-- The length of a number with a base: the digits, the letter of the base, and the digits behind it. In base sixteen letters
-- are among them.
abbrev pub based_len : List ℕ → ℕ
based_len text = if is_base_mark (slice_index text 1) then prefix_len is_ascii_digit (drop 2 text) + 2 else prefix_len is_ascii_alphanumeric text

-- "duplicate WHAT: NAME"
abbrev pub duplicate_message : Unique → List ℕ → List ℕ
duplicate_message what text = codes "duplicate " ++ (unique_word what ++ (codes ": " ++ name_in text))

-- "the character `TEXT` is not valid in code"
abbrev pub character_message : List ℕ → List ℕ
character_message text = codes "the character `" ++ (text ++ codes "` is not valid in code")

-- what an error with this text says
abbrev pub fault_text : Fault → List ℕ → List ℕ
fault_text (faults.Unexpected kind) text = unexpected_message kind
fault_text (faults.Expected what) text = expectation_text what
fault_text (faults.Mistake what kind) text = expected_message (expectation_what what) kind
fault_text faults.Unclosed text = codes "unclosed delimiter"
fault_text faults.TooDeep text = codes "too many open delimiters"
fault_text faults.TooTall text = codes "too many levels"
fault_text faults.NoRow text = codes "unexpected token"
fault_text (faults.Duplicate what) text = duplicate_message what text
fault_text faults.SecondSink text = codes "only one argument sink is allowed"
fault_text faults.SecondSinkOfPattern text = codes "only one destructuring sink is allowed"
fault_text faults.CommentEnd text = codes "unexpected end of block comment"
fault_text faults.UnclosedRaw text = codes "unclosed raw text"
fault_text faults.UnclosedEscape text = codes "unclosed Unicode escape sequence"
fault_text faults.InvalidEscape text = codes "invalid Unicode codepoint: " ++ digits_in text
fault_text faults.UnbalancedLink text = codes "automatic links cannot contain unbalanced brackets, use the `link` function instead"
fault_text faults.UnclosedLabel text = codes "unclosed label"
fault_text faults.UnclosedStr text = codes "unclosed string"
fault_text faults.InvalidBinary text = codes "invalid binary number: " ++ take (based_len text) text
fault_text faults.InvalidOctal text = codes "invalid octal number: " ++ take (based_len text) text
fault_text faults.InvalidHexadecimal text = codes "invalid hexadecimal number: " ++ take (based_len text) text
fault_text faults.SuffixedBinary text = codes "binary numbers cannot have a suffix"
fault_text faults.SuffixedOctal text = codes "octal numbers cannot have a suffix"
fault_text faults.SuffixedHexadecimal text = codes "hexadecimal numbers cannot have a suffix"
fault_text faults.InvalidFloat text = codes "invalid floating point number: " ++ take (number_len text) text
fault_text faults.InvalidSuffix text = codes "invalid number suffix: " ++ drop (number_len text) text
fault_text faults.InvalidCharacter text = character_message text
