-- Tokens that bytes of ASCII decide at once. The code looks for one before it runs the machine.
use Rattle.std.specs.Prelude.{ℕ, ◌≡◌, ◌<◌, ◌+◌, ◌-◌, ◌&&◌, not, nat_lt, Bool, List, length, slice_index, take, None}
use Rattle.std.specs.Char.{is_ascii_alphanumeric}
use Rattle.typst_lexer.specs.declared.head.FirstToken.{FirstToken}
use Rattle.typst_lexer.specs.declared.mode.Mode.{Mode}
use Rattle.typst_lexer.specs.declared.place.Behind.{Behind}
use Rattle.typst_lexer.specs.declared.place.Place.{Place}
use Rattle.typst_lexer.specs.declared.place.Reading.{Reading}
use Rattle.typst_lexer.specs.declared.quick.Quick.{Quick}
use Rattle.typst_lexer.specs.Bytes.{behind_byte}
use Rattle.typst_lexer.specs.FirstToken.{first}
use Rattle.typst_lexer.specs.Machine.{stay}

-- A token that is quickly found is the first one, unless it has no bytes.
abbrev pub IsQuick : Mode → Behind → List ℕ → Quick → Type 0
IsQuick mode before bytes quick =
    0 < quick.len → (
    let token : FirstToken = record { kind = quick.kind; len = quick.len; look = quick.len + 10; behind = behind_byte (slice_index bytes (quick.len - 1)) } in
    token ≡ first mode before bytes
    )

-- A token inside of this ends before the text.
abbrev pub Stops : Place → List ℕ → Type 0
Stops inside text =
    (before : Behind) → 0 < length text → (let state : Reading = record { place = inside; behind = before } in stay state (take 10 text) ≡ None)

-- a byte of ASCII, but no letter and no digit
abbrev pub is_no_word : ℕ → Bool
is_no_word b = nat_lt b 128 && not (is_ascii_alphanumeric b)
