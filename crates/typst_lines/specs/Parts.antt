-- A text in three parts, of which the middle one has replaced another.
use Rattle.std.specs.Prelude.{ℕ, ◌+◌, List, ◌++◌, length, min}
use Rattle.typst_lines.specs.LineStarts.{starts_between}
use Rattle.typst_lines.specs.declared.parts.Parts.{Parts}

-- the text that the parts make up
abbrev pub whole : Parts → List ℕ
whole parts = parts.front.now ++ (parts.middle.now ++ parts.back.now)

-- the text that the parts made up with another middle part
abbrev pub whole_with : Parts → List ℕ → List ℕ
whole_with parts gone = parts.front.now ++ (gone ++ parts.back.now)

-- how many bytes after the middle part can belong to a line end that depends on the middle part
abbrev pub near : Parts → ℕ
near parts = min (length parts.back.now) 2

-- the places where lines begin that depend on the middle part
abbrev pub starts_about : Parts → List ℕ
starts_about parts =
    starts_between parts.ends (whole parts) (length parts.front.now) (length parts.front.now + length parts.middle.now + near parts + 1)

-- the places where lines began before the middle part that is gone
abbrev pub starts_before : Parts → List ℕ → List ℕ
starts_before parts gone = starts_between parts.ends (whole_with parts gone) 0 (length parts.front.now)

-- the places where lines began, up to the last one that depended on the middle part that is gone
abbrev pub starts_through : Parts → List ℕ → List ℕ
starts_through parts gone =
    starts_between parts.ends (whole_with parts gone) 0 (length parts.front.now + length gone + near parts + 1)

-- the places where lines began after those
abbrev pub starts_behind : Parts → List ℕ → List ℕ
starts_behind parts gone =
    starts_between parts.ends (whole_with parts gone) (length parts.front.now + length gone + near parts + 1) (length (whole_with parts gone) + 1)
