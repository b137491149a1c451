-- What came is taken, or there was none.
use Rattle.pn_lines.specs.Turns.{held_in, at}
use Rattle.pn_lines.specs.declared.turns.SourceState.TheVariants.{AtEnd}
use Rattle.pn_lines.proofs.Working.{Worked-came, Worked-ended, Worked-failed, Worked-nothing}
use Rattle.pn_lines.proofs.turns.working.read_on.Goals as goal

pub returns-in-Input-clause-works : goal.returns-in-Input-clause-works
returns-in-Input-clause-works g c = λ written.
    let M = g.M.LineHandler in
    let known = g.R.Input.remaining c.args.input.now in
    let leaves = g.R.Input.remaining c.read_from.new.input in
    let call = c.work_on-worked in
    Worked-came M.handling M.left known leaves written c.args.machine.now c.args.engine.now c.args.buffers.now.input c.read_from.new.self.input c.args.buffers.now.replies c.read_from.new.self.replies c.read_from.ensures.replies c.requires.wants.1.0 c.requires.wants.1.1
    c.args.source.now c.requires.wants.0 c.in-Input.is_all c.args.units call.result.1 (at leaves written call.new.machine (held_in call.new.engine call.new.buffers c.args.source.now)) call.result.0 c.turn_unless.result
    c.in-Input.ensures.comes call.ensures.spent (call.ensures.works leaves written) c.turn_unless.ensures

pub returns-in-End-clause-works : goal.returns-in-End-clause-works
returns-in-End-clause-works g c = λ written.
    let M = g.M.LineHandler in
    let known = g.R.Input.remaining c.args.input.now in
    let leaves = g.R.Input.remaining c.read_from.new.input in
    let call = c.work_on-worked-in-End in
    Worked-ended M.handling M.left known leaves written c.args.machine.now c.args.engine.now c.args.buffers.now.input c.read_from.new.self.input c.args.buffers.now.replies c.read_from.new.self.replies c.read_from.ensures.replies c.requires.wants.1.0 c.requires.wants.1.1
    c.args.source.now c.args.units call.result.1 (at leaves written call.new.machine (held_in call.new.engine call.new.buffers AtEnd)) call.result.0
    c.in-End.ensures.comes call.ensures.spent (call.ensures.works leaves written)

pub returns-in-Nothing-clause-works : goal.returns-in-Nothing-clause-works
returns-in-Nothing-clause-works g c = λ written.
    let M = g.M.LineHandler in
    let known = g.R.Input.remaining c.args.input.now in
    let leaves = g.R.Input.remaining c.read_from.new.input in
    Worked-nothing M.handling M.left known leaves written c.args.machine.now c.args.engine.now c.args.buffers.now.input c.read_from.new.self.input c.args.buffers.now.replies c.read_from.new.self.replies c.read_from.ensures.replies c.requires.wants.1.0 c.requires.wants.1.1
    c.args.source.now c.requires.wants.0 c.args.units c.in-Nothing.ensures.comes

pub returns-in-Fault-clause-works : goal.returns-in-Fault-clause-works
returns-in-Fault-clause-works g c = λ written.
    let M = g.M.LineHandler in
    let known = g.R.Input.remaining c.args.input.now in
    let leaves = g.R.Input.remaining c.read_from.new.input in
    Worked-failed M.handling M.left known leaves written c.args.machine.now c.args.engine.now c.args.buffers.now.input c.read_from.new.self.input c.args.buffers.now.replies c.read_from.new.self.replies c.read_from.ensures.replies c.requires.wants.1.0 c.requires.wants.1.1
    c.args.source.now c.args.units c.in-Fault.ensures.comes
