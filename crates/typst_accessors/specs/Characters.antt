-- The characters that accessors answer.
use Rattle.std.specs.Prelude.{ℕ, Option}
use Rattle.typst_accessors.specs.declared.accessor.CharacterAccessor.{CharacterAccessor}
use Rattle.typst_accessors.specs.declared.accessor.CharacterAccessor.TheVariants.{EscapeGet, ShorthandGet, MathShorthandGet}
use Rattle.typst_atoms.specs.Escapes.{escaped_char}
use Rattle.typst_atoms.specs.Shorthands.{char_for, markup_shorthands, math_shorthands}
use Rattle.typst_atoms.specs.Texts.{text_in}
use Rattle.typst_node.specs.Tree.{Tree}

-- the character that an accessor answers of a node of its view
abbrev pub character_of : CharacterAccessor → Option Tree → ℕ
character_of EscapeGet node = escaped_char (text_in node)
character_of ShorthandGet node = char_for markup_shorthands (text_in node)
character_of MathShorthandGet node = char_for math_shorthands (text_in node)
