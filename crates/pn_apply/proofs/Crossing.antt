-- Shares may go to another thread, and may be read by several.
use denote.Param.Send.{IsSend, IsSync, sendable}
use Rattle.std.proofs.Crossing.{crosses}
use Rattle.pn_record.proofs.Crossing.{cell_send, cell_sync, content_send, content_sync, key_send, key_sync, record_table_send, record_table_sync}
use Rattle.pn_apply.specs.contracts.share.Share as share

pub share_sync : IsSync share.the_row
share_sync = search (sendable, crosses, record_table_sync, content_sync, cell_sync, key_sync) depth 40 fits 20000

pub share_send : IsSend share.the_row
share_send = search (sendable, crosses, record_table_send, content_send, cell_send, key_send) depth 40 fits 20000
