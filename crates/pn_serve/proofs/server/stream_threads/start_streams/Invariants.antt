-- There is a thread and a mailbox for each stream so far.
use Rattle.std.proofs.Common.{◌≡◌, map}
use Rattle.pn_serve.specs.Server.Reports.{names_of}
use Rattle.pn_serve.specs.declared.server.mailboxes.AtFault.TheVariants.{Stop}
use Rattle.pn_serve.proofs.server.stream_threads.start_streams.Given as goal

abbrev pub invariant-loop-stream : goal.invariant-loop-stream
invariant-loop-stream g l = record {
  threads : map (λ thread. thread.promise.0.value) l.started.threads.items ≡ l.yielded;
  names : map (λ stream. stream.name) l.started.mailboxes.streams.items ≡ names_of l.yielded;
  at_fault : l.started.mailboxes.at_fault ≡ Stop;
}
