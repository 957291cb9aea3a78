-- What the handles of a session and of a search own. For the proof alone a handle has the state of its session, or the
-- search itself.
use Rattle.std.specs.Prelude.{ℕ, Option, None, Some}
use Rattle.std.specs.declared.alloc.Global.{Global}
use Rattle.std.specs.contracts.alloc.Global as global
use Rattle.std.specs.contracts.impls.GlobalAllocator.TheImpl as heap
use Rattle.std.specs.contracts.prelude.U32Ord.TheImpl as order
use Rattle.std.specs.contracts.prelude.U32PartialEq.TheImpl as equality
use Rattle.std.specs.contracts.prelude.U32PartialOrd.TheImpl as partial_order
use Rattle.std.specs.Box.Ownership.{box_owns}
use Rattle.rectangle_pack.specs.Session.{State}
use Rattle.rectangle_pack.specs.contracts.session.Session as session
use Rattle.rectangle_pack_search.specs.contracts.search.Search as search_type
use base.Fml.{Fml, feq}
use denote.Builtin.{u32}
use denote.RattleType.{RattleType}
use denote.RawPtr.{Ptr, null_ptr}

-- the sessions of this crate: the ids of their boxes and of their bins are numbers
abbrev pub session_row : RattleType
session_row = session.the_row u32 u32 global.the_row order.ghosts equality.ghosts partial_order.ghosts heap.ghosts

-- what the handle owns: nothing, and then its pointer is null; or the session at its pointer, in this state, with the
-- right to free it
abbrev pub holds : Global → Ptr → Option (State ℕ ℕ) → Fml
holds alloc at None = feq Ptr at null_ptr
holds alloc at (Some state) = box_owns (heap.ghosts.dealloc_token alloc) session_row at state

-- the searches of this crate
abbrev pub search_row : RattleType
search_row = search_type.the_row global.the_row heap.ghosts

-- what the handle of a search owns: nothing, and then its pointer is null; or the search at its pointer, with the right to
-- free it
abbrev pub holds_search : Global → Ptr → Option search_row.Denot → Fml
holds_search alloc at None = feq Ptr at null_ptr
holds_search alloc at (Some search) = box_owns (heap.ghosts.dealloc_token alloc) search_row at search
