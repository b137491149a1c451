-- Each stream so far was read to its end, and the marks reach its last message.
use Rattle.std.proofs.Common.{◌≡◌, ◌++◌, map, All}
use Rattle.std.specs.Vec.Iter.{into_iter_items}
use Rattle.pn_serve.specs.Server.Publishers.{IsTakenWhole}
use Rattle.pn_serve.proofs.server.stream_threads.join_streams.Given as goal

abbrev pub invariant-loop-thread : goal.invariant-loop-thread
invariant-loop-thread g l = record {
  taken : All (IsTakenWhole g.S.Source.left l.marks) (map (λ thread. thread.promise.0.value) l.yielded);
  all : l.yielded ++ into_iter_items l.thread-iterator ≡ l.fn.threads.items;
}
