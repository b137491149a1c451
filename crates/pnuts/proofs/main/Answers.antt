-- What goes to threads may go to them.
use denote.Param.Send.{IsSend, IsSync, sendable}
use denote.Param.SendFields.{declared_send}
use denote.Struct.Record.{declared}
use Rattle.std.proofs.Crossing.{crosses}
use Rattle.std.specs.contracts.alloc.Global as global
use Rattle.std.specs.contracts.impls.GlobalAllocator as global_allocator
use Rattle.std.specs.contracts.io.buffered.BufReader as buf_reader
use Rattle.std.specs.contracts.rt.LibcRuntime as host
use Rattle.pn_serve.proofs.Crossing.{name_send}
use Rattle.pn_stay.specs.contracts.counters.CountingSource as counting
use Rattle.pn_stay.specs.contracts.streams.input.StreamInput as stream_input
use Rattle.pn_stay.specs.contracts.streams.origin.StreamOrigin as origin
use Rattle.pn_stay.proofs.Crossing.{fifo_poll_send, input_send, input_sync, positions_send, seldom_send, socket_publishers_send}
use Rattle.pn_stay.proofs.Crossing.{status_send, status_sync, stream_listener_send, stream_listener_sync, messenger_send, turns_send}
use Rattle.pnuts.proofs.main.Goals as goal

source_send : IsSend (counting.the_row (buf_reader.the_row (stream_input.the_row host.the_row) global.the_row global_allocator.TheImpl.ghosts))
source_send =
    search (sendable, crosses, input_send, input_sync, positions_send, status_send, status_sync, stream_listener_send, stream_listener_sync) depth 40 fits 20000

origin_send : IsSend (origin.the_row host.the_row)
origin_send = declared_send (declared (origin.struct host.the_row) _) (
  search (positions_send, messenger_send, input_send, input_sync, status_send, status_sync, sendable, crosses) depth 40 fits 20000,
  (search (source_send, fifo_poll_send, turns_send, seldom_send, socket_publishers_send, sendable, crosses) depth 40 fits 20000, tt),
)

pub read_streams-read-requires-send-S : goal.read_streams-read-requires-send-S
read_streams-read-requires-send-S g c κs =
    search (sendable, crosses, input_send, input_sync, positions_send, status_send, status_sync, stream_listener_send, stream_listener_sync) depth 40 fits 20000

pub read_streams-read-requires-send-O : goal.read_streams-read-requires-send-O
read_streams-read-requires-send-O g c κs = search (origin_send, sendable, crosses) depth 40 fits 20000
