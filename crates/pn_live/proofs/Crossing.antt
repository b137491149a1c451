-- States of tablets, fronts and readers of live regions may go to another thread.
use Rattle.std.proofs.Crossing.{crosses, Vec-send}
use Rattle.std.specs.contracts.alloc.Global as global
use denote.Param.Send.{IsSend, IsSync, sendable, view_send}
use denote.Param.SendFields.{declared_send}
use denote.Struct.Record.{declared}
use Rattle.left_right.proofs.part.Part.TheSendSync as part
use Rattle.atomic_table.proofs.shared.Seat.TheSendSync as spot
use Rattle.atomic_table.proofs.shared.Shared.TheSendSync as shared
use Rattle.atomic_table.proofs.send_lease.SendLease.TheSendSync as lease
use Rattle.logbook.proofs.tokens.Seen.TheSendSync as seen
use Rattle.pn_record.proofs.Crossing.{key_send, key_sync, mark_table_sync, record_table_sync}
use Rattle.pn_tablet.specs.contracts.state.TabletState as state
use Rattle.pn_tablet.specs.contracts.layout.Layout as layout
use Rattle.pn_live.specs.contracts.published_state.PublishedState as shown
use Rattle.pn_live.specs.contracts.reader_handle.ReaderHandle as handle
use Rattle.pn_live.specs.contracts.tablet_reader.TabletReader as tablet_reader
use Rattle.pn_live.specs.contracts.tablet_reader.TabletReader.TheInside as tablet_reader_inside
use Rattle.pn_live.specs.contracts.reader.LiveReader as reader
use Rattle.pn_live.specs.contracts.reader.LiveReader.TheInside as reader_inside
use Rattle.pn_live.specs.contracts.front.TabletNote as note
use Rattle.pn_live.specs.contracts.front.TabletNote.TheInside as note_inside
use Rattle.pn_live.specs.contracts.front.Front as front
use Rattle.pn_live.specs.contracts.front.Front.TheInside as front_inside

pub state_sync : IsSync state.the_row
state_sync = search (sendable, crosses, record_table_sync, mark_table_sync, key_sync) depth 40 fits 20000

-- Readers of live regions may go to another thread.

shown_sync : IsSync shown.the_row
shown_sync = search (sendable, crosses, state_sync, seen.the_sync) depth 40 fits 20000

handle_send : IsSend handle.the_row
handle_send = search (sendable, crosses, shown_sync, seen.the_send, part.the_send, spot.the_send, shared.the_send, shared.the_sync, lease.the_send, lease.the_sync) depth 40 fits 20000

layout_send : IsSend layout.the_row
layout_send = search (sendable, crosses, key_send) depth 40

tablet_reader_inside_send : IsSend tablet_reader_inside.the_row
tablet_reader_inside_send = declared_send (declared tablet_reader_inside.struct tablet_reader_inside.the_propositions) (handle_send, tt)

tablet_reader_send : IsSend tablet_reader.the_row
tablet_reader_send = view_send _ _ _ _ _ tablet_reader_inside_send

global_send : IsSend global.the_row
global_send = search (sendable, crosses) depth 40

reader_inside_send : IsSend reader_inside.the_row
reader_inside_send = declared_send (declared reader_inside.struct reader_inside.the_propositions) (layout_send, (Vec-send _ tablet_reader_send, (global_send, tt)))

pub reader_send : IsSend reader.the_row
reader_send = view_send _ _ _ _ _ reader_inside_send

-- Fronts of live regions may go to another thread.

note_inside_send : IsSend note_inside.the_row
note_inside_send = declared_send (declared note_inside.struct note_inside.the_propositions) (search (sendable, crosses, seen.the_send) depth 40 fits 20000, tt)

note_send : IsSend note.the_row
note_send = view_send _ _ _ _ _ note_inside_send

front_inside_send : IsSend front_inside.the_row
front_inside_send = declared_send (declared front_inside.struct front_inside.the_propositions) (Vec-send _ note_send, tt)

pub front_send : IsSend front.the_row
front_send = view_send _ _ _ _ _ front_inside_send
