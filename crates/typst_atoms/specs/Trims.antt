-- Texts without the bytes at one end that pass a test.
use Rattle.std.specs.Prelude.{ℕ, ◌-◌, Bool, List, length, take, drop}
use Rattle.std.specs.List.{prefix_len, suffix_len}

-- the text without all bytes at the beginning that pass
abbrev pub without_leading : (ℕ → Bool) → List ℕ → List ℕ
without_leading p bs = drop (prefix_len p bs) bs

-- the text without all bytes at the end that pass
abbrev pub without_trailing : (ℕ → Bool) → List ℕ → List ℕ
without_trailing p bs = take (length bs - suffix_len p bs) bs

-- the longest ending of bytes that pass
abbrev pub ending : (ℕ → Bool) → List ℕ → List ℕ
ending p bs = drop (length bs - suffix_len p bs) bs
