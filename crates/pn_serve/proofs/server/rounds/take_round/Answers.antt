-- The input of a round that memory ran out for waits.
use Rattle.std.proofs.Common.{map}
use Rattle.pn_serve.specs.Server.Publishers.{IsSent}
use Rattle.pn_serve.specs.Server.Rounds.{waiting_value}
use Rattle.pn_serve.specs.declared.server.mailboxes.StreamMailbox.{StreamMailbox}
use Rattle.pn_serve.proofs.EventsRead.{waits_again}
use Rattle.pn_serve.proofs.server.rounds.take_round.Goals as goal

pub returns-in-Some-2-clause-round : goal.returns-in-Some-2-clause-round
returns-in-Some-2-clause-round g c =
    let names = map (λ (s : StreamMailbox g.row.M.Denot g.M.Sending). s.name) in
    waits_again (IsSent g.M.Sending.known g.M.Sending.sends) c.args.mailboxes.now.at_fault c.next_input.new.mailboxes.at_fault (names c.args.mailboxes.now.streams.items) (names c.next_input.new.mailboxes.streams.items)
    (waiting_value c.args.waiting.now) c.marks.result.now c.args.live.now c.run_input.new.live c.in_ok-input.field-0 c.in_ok-back.field-0 c.in-Some.input c.in-Some-2.back
    c.in-Some.is c.in-Some-2.is c.in_ok-input.ensures.at_fault c.marks.ensures.marks c.in_ok-input.ensures.next c.in_ok-input.ensures.sent c.in_ok-back.ensures.runs
