-- The name of a label.
use Rattle.std.specs.Prelude.{ℕ, ◌==◌, List}
use Rattle.typst_atoms.specs.Trims.{without_leading, without_trailing}

-- the text without all `<`, byte 60, at its front, and then without all `>`, byte 62, at its end
abbrev pub label_name : List ℕ → List ℕ
label_name bs = without_trailing (λ b. b == 62) (without_leading (λ b. b == 60) bs)
