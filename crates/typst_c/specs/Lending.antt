-- What a handle lends.
use Rattle.std.specs.Prelude.{◌≡◌, ⊤, Some}
use mathlib.Core.Option.{none}
use Rattle.std.specs.Borrow.{Lends, MutBor, Fml, follows_so}
use Rattle.typst_session.specs.contracts.session.Session as state
use Rattle.typst_session.specs.declared.session.Session.{Session}
use Rattle.typst_c.specs.declared.at.At.{At}
use Rattle.typst_c.specs.contracts.at.At as at
use Rattle.typst_c.specs.declared.handle.Handle.{Handle}
use Rattle.typst_c.specs.contracts.handle.Handle as handle

-- the same pointer, with this session behind it
abbrev pub with_session : At → Session → At
with_session a s = record { at = a.at; value = Some s }

-- once the borrow r ends, the session behind a is the last one written through r
abbrev pub AtLends : MutBor At → MutBor Session → Fml
AtLends a r = Lends at.the_row state.the_row a r (with_session a.now)

-- a handle is the same two words as before, and holds what it held
abbrev pub IsSameHandle : Handle → Handle → Type 0
IsSameHandle old new = (new.made ≡ old.made) × (new.at.at ≡ old.at.at) × (new.at.value ≡ old.at.value)

-- once what was lent ends, the handle behind h is as it was
abbrev pub HandleKeeps : MutBor Handle → Fml
HandleKeeps h = follows_so handle.the_row handle.the_row h.ghost_name none (λ _ _. ⊤) (IsSameHandle h.now)
