-- What C holds.
use Rattle.std.specs.Prelude.{Option, None, Some, Bool, true, false}
use Rattle.std.specs.Borrow.{ftrue}
use base.Fml.{Fml}
use denote.RawPtr.{Ptr}
use Rattle.std.specs.Box.Ownership.{box_owns}
use Rattle.std_heap.specs.declared.Global.{Global}
use Rattle.std_heap.specs.contracts.GlobalAllocator.TheImpl.{ghosts}
use Rattle.hub_session.specs.declared.session.Session.{Session}
use Rattle.hub_session.specs.contracts.session.Session.{the_row}

-- a session on the heap, where there is one
abbrev pub owned : Ptr → Global → Option Session → Fml
owned at heap None = ftrue
owned at heap (Some s) = box_owns (ghosts.dealloc_token heap) the_row at s

-- whether there is one
abbrev pub is_held : Option Session → Bool
is_held None = false
is_held (Some s) = true
