-- A reader of a live region may go to another thread with its keys.
use denote.Param.Send.{IsSend, sendable}
use Rattle.std.proofs.Crossing.{crosses}
use Rattle.pn_record.proofs.Crossing.{key_send}
use Rattle.pn_live.proofs.Crossing.{reader_send}
use Rattle.pn_bench.specs.contracts.workload.Runner as runner

pub runner_send : IsSend runner.the_row
runner_send = search (sendable, crosses, reader_send, key_send) depth 40 fits 20000
