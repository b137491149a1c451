-- Something is held, or the input is at its end.
use Rattle.pn_stay.proofs.Buffers.{more_left}
use Rattle.pn_stay.proofs.server.control_client.HeldInputSource.has_more.Goals as goal

pub returns-clause-more : goal.returns-clause-more
returns-clause-more g c = more_left c.has_input.result c.args.self.now.held c.has_input.new.self.held (g.I.Input.remaining c.args.self.now.input)
    (g.I.Input.remaining c.has_input.new.self.input) c.has_input.ensures.more c.has_input.ensures.kept
