-- A handle may go to another thread: it owns what a box of its session owns, or nothing.
use Rattle.rectangle_pack_c.proofs.Std.{[], Global, Option, None, Some}
use Rattle.rectangle_pack_c.specs.Handle.{session_row, holds}
use Rattle.rectangle_pack_c.specs.contracts.handle.RpSession.{the_row, the_type}
use Rattle.rectangle_pack.proofs.session.Session.TheSendSync as session
use Rattle.std.proofs.Crossing.{Box-send, crosses, send as heap_send}
use base.Shift.{Keyless}
use denote.Param.Send.{IsSend, owning_send, sendable}
use denote.RawPtr.{Ptr}

session_send : IsSend session_row
session_send = search (sendable, crosses, session.the_send, heap_send)

holds-keyless : (alloc : Global) (at : Ptr) (state : Option session_row.Denot) → Keyless (holds alloc at state)
holds-keyless alloc at None = tt
holds-keyless alloc at (Some state) = ((Box-send session_row session_send).owned (record { ptr = at; alloc = alloc; value = state }) []).1

pub send : IsSend the_row
send = owning_send the_type (search sendable, (search sendable, tt)) (λ d. holds-keyless d.alloc d.at d.state) (λ k d w. tt)
