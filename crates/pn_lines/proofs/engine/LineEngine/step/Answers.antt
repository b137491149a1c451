-- Where the engine stood it stands after each kind of step.
use Rattle.std.proofs.Common.{◌++◌}
use Rattle.pn_lines.specs.Engines.{taken_by}
use Rattle.pn_lines.specs.declared.engine.state.Stage.TheVariants.{Reading, Pending}
use Rattle.pn_lines.proofs.Steps.{Stands-gave, Stands-none, Stands-staged}
use Rattle.pn_lines.proofs.engine.LineEngine.step.Goals as goal

pub returns-then-has_text-clause-stands : goal.returns-then-has_text-clause-stands
returns-then-has_text-clause-stands g c = λ start taken out is.
    let M = g.M.LineHandler in
    Stands-gave M.handling start taken c.args.bytes.now c.args.is_last out c.args.machine.now c.args.self.now c.give.new.self c.args.replies.now c.give.new.replies (taken_by c.give.result)
    c.give.ensures.gives c.give.ensures.others c.give.ensures.none is

pub returns-in-Reading-eq0-clause-stands : goal.returns-in-Reading-eq0-clause-stands
returns-in-Reading-eq0-clause-stands g c = λ start taken out is.
    let M = g.M.LineHandler in
    c.read_line.ensures.takes.stands start taken (out ++ c.args.replies.now.items)
    (Stands-staged M.handling start taken c.args.bytes.now c.args.is_last (out ++ c.args.replies.now.items) c.args.machine.now c.args.self.now c.take_stage.new.self (Reading 0) (cc (c.take_stage.ensures.stage, c.in-Reading-eq0.is)) c.take_stage.ensures.reads is)

pub returns-in-Reading-clause-stands : goal.returns-in-Reading-clause-stands
returns-in-Reading-clause-stands g c = λ start taken out is.
    let M = g.M.LineHandler in
    c.drop_line.ensures.takes.stands start taken (out ++ c.args.replies.now.items)
    (Stands-staged M.handling start taken c.args.bytes.now c.args.is_last (out ++ c.args.replies.now.items) c.args.machine.now c.args.self.now c.take_stage.new.self (Reading c.in-Reading.dropped) (cc (c.take_stage.ensures.stage, c.in-Reading.is)) c.take_stage.ensures.reads is)

pub returns-in-Pending-clause-stands : goal.returns-in-Pending-clause-stands
returns-in-Pending-clause-stands g c = λ start taken out is.
    let M = g.M.LineHandler in
    Stands-none M.handling start taken c.args.bytes.now c.args.is_last (out ++ c.args.replies.now.items) c.look_on.new.machine c.look_on.new.self
    (c.look_on.ensures.stands start taken (out ++ c.args.replies.now.items) c.args.bytes.now c.args.is_last
    (Stands-staged M.handling start taken c.args.bytes.now c.args.is_last (out ++ c.args.replies.now.items) c.args.machine.now c.args.self.now c.take_stage.new.self (Pending c.in-Pending.pending c.in-Pending.ended) (cc (c.take_stage.ensures.stage, c.in-Pending.is)) c.take_stage.ensures.reads is))
