-- The text of a block comment as a tree: comments within comments, and bytes between them.
use Rattle.std.specs.Prelude.{ℕ, ◌≡◌, ◌||◌, Bool, false, List, ◌∷◌, ◌++◌, codes}
use Rattle.typst_lexer.specs.Characters.{begins_with}

-- what is between `/*` and the `*/` that closes it
pub data Nested : Type 0 where
  nothing : Nested
  -- a byte, and what follows it
  byte : ℕ → Nested → Nested
  -- a comment, and what follows it
  comment : Nested → Nested → Nested

-- the bytes of it, before this text
abbrev pub written : Nested → List ℕ → List ℕ
written nothing after = after
written (byte b more) after = b ∷ written more after
written (comment inner more) after = codes "/*" ++ written inner (codes "*/" ++ written more after)

-- the text begins with `/*` or `*/`
abbrev pub begins_mark : List ℕ → Bool
begins_mark text = begins_with (codes "/*") text || begins_with (codes "*/") text

-- No `/*` and no `*/` begins at a byte that is outside of all inner comments' marks.
abbrev pub IsNested : Nested → List ℕ → Type 0
IsNested nothing after = Unit {0}
IsNested (byte b more) after = (begins_mark (b ∷ written more after) ≡ false) × IsNested more after
IsNested (comment inner more) after = IsNested inner (codes "*/" ++ written more after) × IsNested more after

-- this rest of a text closes the comment in which it begins, and this is after the comment
abbrev pub IsClosedBefore : List ℕ → List ℕ → Type 0
IsClosedBefore after rest =
    (nested : Nested) × IsNested nested (codes "*/" ++ after) × (rest ≡ written nested (codes "*/" ++ after))
