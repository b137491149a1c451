-- What prints messages may go to a thread.
use denote.Param.Send.{IsSend, sendable}
use Rattle.std.proofs.Crossing.{crosses}
use Rattle.pn_serve.proofs.Crossing.{counter_send, counter_sync}
use Rattle.pn_stay.specs.contracts.messages.MessagePrinter as printer
use Rattle.pn_stay.proofs.Crossing.{messages_send, messages_sync}
use Rattle.pnuts.proofs.start_printing.Goals as goal

printer_send : IsSend printer.the_row
printer_send = search (sendable, crosses, counter_send, counter_sync, messages_send, messages_sync) depth 40 fits 20000

pub spawn-requires-send-F : goal.spawn-requires-send-F
spawn-requires-send-F g c κs within = search (printer_send, sendable, crosses) depth 40 fits 20000
