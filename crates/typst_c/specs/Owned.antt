-- What a box owns if it is kept as its pointer.
use base.Fml.{Fml, ftrue}
use mir.Syntax.{Ty}
use denote.RattleType.{RattleType}
use denote.RawPtr.{Ptr}
use Rattle.std.specs.Prelude.{Option, Some, None}
use Rattle.std.specs.Box.Ownership.{box_owns}
use Rattle.std.specs.contracts.impls.GlobalAllocator.TheImpl.{ghosts}
use Rattle.std.specs.declared.alloc.Global.{Global}

-- the heap has no bytes, and is always the same
abbrev pub heap : Global
heap = record { memory = record { seal = tt } }

-- the right to free a block of the heap
abbrev pub freeable : Ty → Ptr → Fml
freeable = ghosts.dealloc_token heap

-- the block at a pointer holds a value and is its owner's, or there is no value
abbrev pub owned_at : (R : RattleType) → Ptr → Option R.Denot → Fml
owned_at R p None = ftrue
owned_at R p (Some x) = box_owns freeable R p x
