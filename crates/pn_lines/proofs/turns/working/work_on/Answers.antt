-- The engine is called once over what is at hand.
use Rattle.pn_lines.proofs.Working.{Worked-call}
use Rattle.pn_lines.proofs.turns.working.work_on.Goals as goal

pub returns-clause-works : goal.returns-clause-works
returns-clause-works g c = λ left written.
    let M = g.M.LineHandler in
    let call = c.go_on-progress in
    Worked-call M.handling M.left c.args.units call.result.units call.result.taken left written c.args.machine.now call.new.machine c.args.engine.now call.new.self c.deref.result.now c.buffers.inside.input.items c.drop_first.new.bytes.items
    c.buffers.inside.replies call.new.replies c.args.buffers.now c.args.source c.is_last-last.result call.result.next c.work_at.result
    c.deref.ensures.value c.buffers.view_is c.is_last-last.ensures c.work_at.ensures c.buffers.invariant.2 c.drop_first.ensures.items call.ensures.within call.ensures.stands call.ensures.adds call.ensures.costs call.ensures.advances call.ensures.lines call.ensures.next
