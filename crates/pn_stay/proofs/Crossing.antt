-- What a thread begins with may go to it, and what it shares with others may be shared: sessions, and the origins and sources of streams.
use denote.Param.Send.{IsSend, IsSync, sendable}
use denote.Param.SendFields.{declared_send}
use denote.Struct.Record.{declared}
use Rattle.std.proofs.Crossing.{crosses}
use Rattle.pn_record.proofs.Crossing.{name_send, name_sync}
use Rattle.pn_live.proofs.Crossing.{reader_send}
use Rattle.pn_serve.proofs.Crossing.{controls_send, controls_sync, counter_send, counter_sync, faults_send, faults_sync, shown_mark_send, shown_mark_sync}
use Rattle.pn_stay.specs.contracts.acceptor.SocketAcceptor as acceptor
use Rattle.pn_stay.specs.contracts.socket_mailbox.SocketMailbox as mailbox
use Rattle.pn_stay.specs.contracts.server.threads.LoopThread as loop
use Rattle.pn_stay.specs.contracts.counters.StreamCounters as stream
use Rattle.pn_stay.specs.contracts.counters.InputCounters as input
use Rattle.pn_stay.specs.contracts.counters.ConnectionCounters as connections
use Rattle.pn_stay.specs.contracts.counters.Counters as counters
use Rattle.pn_stay.specs.contracts.line_counters.LineCounters as line_counters
use Rattle.pn_stay.specs.contracts.line_counters.KindCounters as kinds
use Rattle.pn_stay.specs.contracts.server.control_client.ControlClient as client
use Rattle.pn_stay.specs.contracts.server.control_threads.ControlThread as control
use Rattle.pn_stay.specs.contracts.seldom.Seldom as seldom
use Rattle.pn_stay.specs.contracts.streams.fifo_poll.FifoPoll as fifo_poll
use Rattle.pn_stay.specs.contracts.streams.listener.StreamListener as stream_listener
use Rattle.pn_stay.specs.contracts.streams.notes.StreamMessenger as messenger
use Rattle.pn_stay.specs.contracts.streams.sockets.SocketPublishers as socket_publishers
use Rattle.pn_stay.specs.contracts.streams.status.StreamStatus as status
use Rattle.pn_stay.specs.contracts.streams.turns.Turns as turns
use Rattle.pn_stay.specs.contracts.streams.publisher.StreamPositions as positions
use Rattle.pn_stay.specs.contracts.messages.Messages as messages
use Rattle.pn_stay.specs.contracts.acceptor.AcceptNotes as notes
use Rattle.pn_stay.specs.contracts.server.accepting.AcceptThread as accept
use Rattle.pn_stay.specs.contracts.descriptors.ConnectionLimit as limit
use Rattle.pn_stay.specs.contracts.listener.Listener as listener

pub input_send : IsSend input.the_row
input_send = search (sendable, crosses) depth 40 fits 20000

pub input_sync : IsSync input.the_row
input_sync = search (sendable, crosses) depth 40 fits 20000

pub status_send : IsSend status.the_row
status_send = search (sendable, crosses) depth 40 fits 20000

pub status_sync : IsSync status.the_row
status_sync = search (sendable, crosses) depth 40 fits 20000

stream_send : IsSend stream.the_row
stream_send = search (
  sendable,
  crosses,
  name_send,
  counter_send,
  counter_sync,
  shown_mark_send,
  shown_mark_sync,
  input_send,
  input_sync,
  status_send,
  status_sync,
) depth 40 fits 20000

stream_sync : IsSync stream.the_row
stream_sync = search (
  sendable,
  crosses,
  name_sync,
  counter_send,
  counter_sync,
  shown_mark_send,
  shown_mark_sync,
  input_send,
  input_sync,
  status_send,
  status_sync,
) depth 40 fits 20000

connections_send : IsSend connections.the_row
connections_send = search (sendable, crosses, counter_send) depth 40 fits 20000

connections_sync : IsSync connections.the_row
connections_sync = search (sendable, crosses, counter_sync) depth 40 fits 20000

line_counters_send : IsSend line_counters.the_row
line_counters_send = search (sendable, crosses, counter_send) depth 40 fits 20000

line_counters_sync : IsSync line_counters.the_row
line_counters_sync = search (sendable, crosses, counter_sync) depth 40 fits 20000

kinds_send : IsSend kinds.the_row
kinds_send = search (sendable, crosses, line_counters_send) depth 40 fits 20000

kinds_sync : IsSync kinds.the_row
kinds_sync = search (sendable, crosses, line_counters_sync) depth 40 fits 20000

pub counters_send : IsSend counters.the_row
counters_send = search (sendable, crosses, counter_send, counter_sync, input_send, input_sync, kinds_send, connections_send, stream_send) depth 40 fits 20000

pub counters_sync : IsSync counters.the_row
counters_sync = search (sendable, crosses, counter_send, counter_sync, input_send, input_sync, kinds_sync, connections_sync, stream_sync) depth 40 fits 20000

pub messages_send : IsSend messages.the_row
messages_send = search (sendable, crosses) depth 40 fits 20000

pub messages_sync : IsSync messages.the_row
messages_sync = search (sendable, crosses) depth 40 fits 20000

pub seldom_send : IsSend seldom.the_row
seldom_send = search (sendable, crosses) depth 40 fits 20000

pub turns_send : IsSend turns.the_row
turns_send = search (sendable, crosses, seldom_send) depth 40 fits 20000

pub fifo_poll_send : IsSend fifo_poll.the_row
fifo_poll_send = search (sendable, crosses) depth 40 fits 20000

pub positions_send : IsSend positions.the_row
positions_send = search (sendable, crosses, counter_send, counter_sync, shown_mark_send, shown_mark_sync) depth 40 fits 20000

pub messenger_send : IsSend messenger.the_row
messenger_send = search (sendable, crosses, name_send, messages_send, messages_sync) depth 40 fits 20000

messenger_sync : IsSync messenger.the_row
messenger_sync = search (sendable, crosses, name_sync, messages_send, messages_sync) depth 40 fits 20000

pub stream_listener_send : IsSend stream_listener.the_row
stream_listener_send = search (sendable, crosses, messenger_send, seldom_send) depth 40 fits 20000

pub stream_listener_sync : IsSync stream_listener.the_row
stream_listener_sync = search (sendable, crosses, messenger_sync, seldom_send) depth 40 fits 20000

pub socket_publishers_send : IsSend socket_publishers.the_row
socket_publishers_send = search (sendable, crosses, stream_listener_send, stream_listener_sync, turns_send, seldom_send) depth 40 fits 20000

pub notes_send : IsSend notes.the_row
notes_send = search (sendable, crosses, counters_send, counters_sync, messages_send, messages_sync) depth 40 fits 20000

pub acceptor_send : IsSend acceptor.the_row
acceptor_send = search (sendable, crosses, counters_send, counters_sync, faults_send, faults_sync, messages_send, messages_sync) depth 40 fits 20000

pub mailbox_send : IsSend mailbox.the_row
mailbox_send = search (sendable, crosses) depth 40 fits 20000

pub mailbox_sync : IsSync mailbox.the_row
mailbox_sync = search (sendable, crosses) depth 40 fits 20000

pub loop_send : IsSend loop.the_row
loop_send = search (sendable, crosses, mailbox_send, mailbox_sync, counters_send, counters_sync, reader_send) depth 40 fits 20000

client_send : IsSend client.the_row
client_send = search (sendable, crosses) depth 40 fits 20000

client_sync : IsSync client.the_row
client_sync = search (sendable, crosses) depth 40 fits 20000

pub control_send : IsSend control.the_row
control_send = search (sendable, crosses, controls_send, controls_sync, counters_send, counters_sync, client_send, client_sync) depth 40 fits 20000

listener_send : IsSend listener.the_row
listener_send = search (sendable, crosses) depth 40 fits 20000

limit_send : IsSend limit.the_row
limit_send = search (sendable, crosses) depth 40 fits 20000

limit_sync : IsSync limit.the_row
limit_sync = search (sendable, crosses) depth 40 fits 20000

pub accept_send : IsSend accept.the_row
accept_send = declared_send (declared accept.struct _) (
  listener_send,
  (
    search (sendable, crosses, limit_send, limit_sync) depth 40,
    (search (sendable, crosses, mailbox_send, mailbox_sync) depth 40, (notes_send, tt)),
  ),
)
