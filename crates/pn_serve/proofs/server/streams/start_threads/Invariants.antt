-- There is a mailbox for each stream so far.
use Rattle.std.proofs.Common.{◌≡◌, map}
use Rattle.pn_serve.specs.declared.server.mailboxes.AtFault.TheVariants.{GoOn}
use Rattle.pn_serve.proofs.server.streams.start_threads.Given as goal

abbrev pub invariant-loop-stream : goal.invariant-loop-stream
invariant-loop-stream g l = record {
  names : map (λ stream. stream.name) l.mailboxes.streams.items ≡ map (λ stream. stream.name) l.yielded;
  at_fault : l.mailboxes.at_fault ≡ GoOn;
}
