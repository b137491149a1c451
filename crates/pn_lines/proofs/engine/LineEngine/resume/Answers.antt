-- Where the engine stood it stands after an answer is gone on with.
use Rattle.pn_lines.specs.declared.engine.state.Stage.TheVariants.{Pending}
use Rattle.pn_lines.proofs.Steps.{Stands-staged}
use Rattle.pn_lines.proofs.engine.LineEngine.resume.Goals as goal

pub returns-in-Pending-clause-stands : goal.returns-in-Pending-clause-stands
returns-in-Pending-clause-stands g c = λ start taken given ahead last is.
    let M = g.M.LineHandler in
    c.look_on.ensures.stands start taken given ahead last
    (Stands-staged M.handling start taken ahead last given c.args.machine.now c.args.self.now c.take_stage.new.self (Pending c.in-Pending.pending c.in-Pending.ended) (cc (c.take_stage.ensures.stage, c.in-Pending.is)) c.take_stage.ensures.reads is)
