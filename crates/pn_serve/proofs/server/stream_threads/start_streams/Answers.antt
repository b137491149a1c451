-- The next stream is one of its publisher.
use Rattle.std.proofs.Common.{length, sym, subst, arith}
use Rattle.std.proofs.lemmas.Iterator.Adapters.{YieldsList-from_vec}
use Rattle.std.proofs.lemmas.Iterator.Consumers.{YieldsList-turn}
use Rattle.pn_serve.specs.Server.Publishers.{IsOfPublisher}
use Rattle.pn_serve.proofs.server.stream_threads.start_streams.Goals as goal

pub start_stream-requires-clause-sent : goal.start_stream-requires-clause-sent
start_stream-requires-clause-sent g c κs within known =
    let gives = c.into_iter-stream-iterator.ensures.into_iter_gives in
    let yields = YieldsList-from_vec {s = c.into_iter-stream-iterator.result} c.args.streams.items gives.0 (omega (arith, gives.1, c.args.streams.ok.0)) in
    let at = YieldsList-turn yields c.loop-stream.yielded c.loop-stream.stream-iterator c.loop-stream.yielded_by c.next.result c.next.new.self c.in-Some.stream c.in-Some.is c.next.ensures.steps in
    subst (IsOfPublisher g.M.Sending.sends g.S.Source.left) (sym at.1) (c.requires.sent known (length c.loop-stream.yielded) c.in-Some.stream at.0)
