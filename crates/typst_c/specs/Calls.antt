-- What calls on a handle do.
use Rattle.std.specs.Prelude.{ℕ, ◌≡◌, Option, Some, None, Result, Ok, Err}
use Rattle.typst_session.specs.Codes.{code_of}
use Rattle.typst_session.specs.declared.session.Session.{Session}
use Rattle.typst_session.specs.declared.refusal.Refusal.{Refusal}

-- the status of a call: 0 if the call was done, else the code of the refusal
abbrev pub status_of : {X : Type 0} → Result X Refusal → ℕ
status_of (Ok x) = 0
status_of (Err refusal) = code_of refusal

-- A call that may change what a handle holds. If it holds nothing, the status is 1, it still holds nothing, and what the
-- call writes to is the same.
abbrev pub Changes : Type 0 → (Session → Session → Type 0) → Option Session → ℕ → Option Session → Type 0
Changes same call None status new = (status ≡ 1) × (new ≡ None) × same
Changes same call (Some old) status None = ⊥
Changes same call (Some old) status (Some new) = call old new

-- a call has an outcome, and the caller is told of it
abbrev pub Told : {X : Type 0} → (Result X Refusal → Type 0) → (Result X Refusal → Type 0) → Type 0
Told {X} IsToldOf HasOutcome = (outcome : Result X Refusal) × IsToldOf outcome × HasOutcome outcome

-- the status says what the outcome is, and nothing else does
abbrev pub IsStatus : {X : Type 0} → ℕ → Result X Refusal → Type 0
IsStatus status outcome = status ≡ status_of outcome

-- a call on a session has an outcome with this status
abbrev pub HasOutcome : (Session → Result (Unit {0}) Refusal → Session → Type 0) → ℕ → Session → Session → Type 0
HasOutcome call status old new = Told (IsStatus status) (λ outcome. call old outcome new)

-- a call that returns only a status
abbrev pub Does : (Session → Result (Unit {0}) Refusal → Session → Type 0) → Option Session → ℕ → Option Session → Type 0
Does call old status new = Changes (Unit {0}) (HasOutcome call status) old status new

-- A call that reads what a handle holds. If it holds nothing, the status is 1, and what the call writes to is the same.
abbrev pub Reads : Type 0 → (Session → Type 0) → Option Session → ℕ → Type 0
Reads same call None status = (status ≡ 1) × same
Reads same call (Some s) status = call s
