-- How it is told whether something holds.
use Rattle.std.specs.Prelude.{ℕ, ◌≡◌, ◌≤◌, ◌↔◌}

-- the number is 1 if the fact holds, and 0 if not
abbrev pub IsFlag : ℕ → Type 0 → Type 0
IsFlag told fact = (told ≤ 1) × ((told ≡ 1) ↔ fact)
