-- The region that was read is closed, and the number of its readers is written.
use Rattle.std.proofs.Common.{◌≡◌, Err, vec_len}
use Rattle.std.specs.Io.KnownBytes.{Appends}
use Rattle.pn_line.specs.Sent.{AppendsPrefix}
use Rattle.pn_protocol.specs.Reply.Short.{served_line}
use Rattle.pn_stream.specs.Brokers.{IsHonest}
use Rattle.pn_serve.specs.Server.Publishers.{IsSent}
use Rattle.pn_serve.specs.declared.server.fault_log.ServeFault.TheVariants.{Write}
use Rattle.pn_serve.proofs.PublishersRead.{sent_is_honest}
use Rattle.pn_serve.proofs.SentEvents.{serving_on}
use Rattle.pn_serve.proofs.RoundsRead.{serving_ends, no_write, all_back, of_sessions, of_sessions_in_part, fails_by_writing, err_first, ok_err_first}
use Rattle.pn_serve.proofs.server.serve_opened.Goals as goal

pub returns-clause-ends : goal.returns-clause-ends
returns-clause-ends g c =
    serving_ends (IsSent g.M.Sending.known g.M.Sending.sends) g.S.Source.left c.args.streams.items c.args.opened.live c.serve_streams-read.new.region.live c.len-count.result
    c.serve_streams-read.result c.close_region-closed.result c.conclude-served.result c.write_ending.result
    c.serve_streams-read.ensures.ends c.conclude-served.ensures.served c.conclude-served.ensures.closed
    (err_first c.conclude-served.result (λ fault. c.write_ending.result ≡ Err fault) (c.write_ending.new.out ≡ c.args.out.now) c.write_ending.ensures.fault)
    (ok_err_first c.conclude-served.result c.write_ending.result (λ fault. fault ≡ Write) g.W.Sink.may_fail c.write_ending.ensures.write)

pub returns-clause-honest : goal.returns-clause-honest
returns-clause-honest g c = λ broker known honest.
    serving_on (IsSent g.M.Sending.known g.M.Sending.sends) (IsHonest broker) (sent_is_honest broker g.M.Sending.known g.M.Sending.sends known honest) g.S.Source.left c.args.streams.items c.args.opened.live c.write_ending.result
    (returns-clause-ends g c)

pub returns-clause-served : goal.returns-clause-served
returns-clause-served g c =
    of_sessions (vec_len c.args.opened.readers) (λ n. Appends (g.W.Sink.contents c.args.out.now) (g.W.Sink.contents c.write_ending.new.out) (served_line n))
    c.conclude-served.result c.write_ending.result
    (all_back c.len-count.result _ (vec_len c.args.opened.readers) c.serve_streams-read.result c.close_region-closed.result c.conclude-served.result
    c.conclude-served.ensures.served c.conclude-served.ensures.closed c.len-count.ensures c.serve_streams-read.ensures.all)
    c.write_ending.ensures.all c.write_ending.ensures.ok

pub returns-clause-part : goal.returns-clause-part
returns-clause-part g c =
    of_sessions_in_part (vec_len c.args.opened.readers) (λ n. AppendsPrefix (g.W.Sink.contents c.args.out.now) (g.W.Sink.contents c.write_ending.new.out) (served_line n))
    c.conclude-served.result c.write_ending.result
    (all_back c.len-count.result _ (vec_len c.args.opened.readers) c.serve_streams-read.result c.close_region-closed.result c.conclude-served.result
    c.conclude-served.ensures.served c.conclude-served.ensures.closed c.len-count.ensures c.serve_streams-read.ensures.all)
    (no_write (IsSent g.M.Sending.known g.M.Sending.sends) g.S.Source.left c.args.streams.items c.args.opened.live c.serve_streams-read.new.region.live c.len-count.result
    c.serve_streams-read.result c.close_region-closed.result c.conclude-served.result
    c.serve_streams-read.ensures.ends c.conclude-served.ensures.served c.conclude-served.ensures.closed)
    (err_first c.conclude-served.result (λ fault. c.write_ending.result ≡ Err fault) (c.write_ending.new.out ≡ c.args.out.now) c.write_ending.ensures.fault) c.write_ending.ensures.err

pub returns-clause-write : goal.returns-clause-write
returns-clause-write g c =
    fails_by_writing g.W.Sink.may_fail c.conclude-served.result c.write_ending.result
    (no_write (IsSent g.M.Sending.known g.M.Sending.sends) g.S.Source.left c.args.streams.items c.args.opened.live c.serve_streams-read.new.region.live c.len-count.result
    c.serve_streams-read.result c.close_region-closed.result c.conclude-served.result
    c.serve_streams-read.ensures.ends c.conclude-served.ensures.served c.conclude-served.ensures.closed)
    (err_first c.conclude-served.result (λ fault. c.write_ending.result ≡ Err fault) (c.write_ending.new.out ≡ c.args.out.now) c.write_ending.ensures.fault) c.write_ending.ensures.write
