-- The characters that end lines.
use Rattle.std.specs.Prelude.{ℕ, ◌≡◌, ◌≤◌, ◌⊎◌}

-- the character is LF, VT, FF, CR, NEL, or the separator of lines or of paragraphs
abbrev pub IsNewline : ℕ → Type 0
IsNewline c = ((10 ≤ c) × (c ≤ 13)) ⊎ ((c ≡ 0x85) ⊎ ((c ≡ 0x2028) ⊎ (c ≡ 0x2029)))
