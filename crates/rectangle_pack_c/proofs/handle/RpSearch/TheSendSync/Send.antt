-- A handle may go to another thread: it owns what a box of its search owns, or nothing.
use Rattle.rectangle_pack_c.proofs.Std.{[], Global, Option, None, Some}
use Rattle.rectangle_pack_c.specs.Handle.{search_row, holds_search}
use Rattle.rectangle_pack_c.specs.contracts.handle.RpSearch.{the_row, the_type}
use Rattle.rectangle_pack_search.proofs.search.Search.TheSendSync as search_type
use Rattle.std.proofs.Crossing.{Box-send, crosses, send as heap_send}
use base.Shift.{Keyless}
use denote.Param.Send.{IsSend, owning_send, sendable}
use denote.RawPtr.{Ptr}

search_send : IsSend search_row
search_send = search (sendable, crosses, search_type.the_send, heap_send)

holds_search-keyless : (alloc : Global) (at : Ptr) (state : Option search_row.Denot) → Keyless (holds_search alloc at state)
holds_search-keyless alloc at None = tt
holds_search-keyless alloc at (Some state) = ((Box-send search_row search_send).owned (record { ptr = at; alloc = alloc; value = state }) []).1

pub send : IsSend the_row
send = owning_send the_type (search sendable, (search sendable, tt)) (λ d. holds_search-keyless d.alloc d.at d.state) (λ k d w. tt)
