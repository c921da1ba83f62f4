-- How a place moves when the bytes before it change.
use Rattle.std.specs.Prelude.{ℕ, ◌+◌, ◌-◌}

-- where a place is once `added` bytes have replaced `gone` bytes before it
abbrev pub moved_place : ℕ → ℕ → ℕ → ℕ
moved_place gone added place = place - gone + added
