-- Text is made, and then an answer is gone on with.
use Rattle.std.proofs.Common.{sym, subst, arith}
use Rattle.pn_lines.specs.Driving.{Fails, IsAfter}
use Rattle.pn_lines.specs.Engines.{EngineValue}
use Rattle.pn_lines.proofs.Reading.{Fails-then, SameLines-left, SameLines-trans, Writes-then, Writes-went, on_fault}
use Rattle.pn_lines.proofs.driver.buffers.settle.Goals as goal

pub returns-in_err-write_text-clause-err : goal.returns-in_err-write_text-clause-err
returns-in_err-write_text-clause-err g c =
    let M = g.M.LineHandler in
    let handling = M.handling in
    let first = g.W.Sink.contents c.args.output.now in
    let before = g.W.Sink.contents c.answers.output in
    let after = g.W.Sink.contents c.write_text.new.output in
    on_fault c.from_residual.result (Fails handling first after c.args.replies.now.items c.args.machine.now c.answers.machine c.args.engine.now c.write_text.new.engine)
    (Fails-then handling first before after c.args.replies.now.items c.answers.replies.items c.args.machine.now c.answers.machine c.answers.machine c.args.engine.now c.answers.engine c.write_text.new.engine c.answers.invariant.writes c.in_err-write_text.ensures.err)

pub returns-in_err-write_text-clause-after : goal.returns-in_err-write_text-clause-after
returns-in_err-write_text-clause-after g c = λ ended is.
    subst (λ (r : EngineValue g.row.G.Denot). IsAfter ended r.stage) (sym c.write_text.ensures.others) (c.answers.invariant.after ended is)

pub returns-then-not-resume-clause-ok : goal.returns-then-not-resume-clause-ok
returns-then-not-resume-clause-ok g c =
    let M = g.M.LineHandler in
    let handling = M.handling in
    let first = g.W.Sink.contents c.args.output.now in
    let before = g.W.Sink.contents c.answers.output in
    let after = g.W.Sink.contents c.write_text.new.output in
    let text = Writes-then handling first before after c.args.replies.now.items c.answers.replies.items c.write_text.new.replies.items c.args.machine.now c.answers.machine c.answers.machine c.args.engine.now c.answers.engine c.write_text.new.engine c.answers.invariant.writes c.in_ok-write_text.ensures.ok in
    let went = Writes-went handling after c.write_text.new.replies.items c.answers.machine c.resume.new.machine c.write_text.new.engine c.resume.new.self c.resume.ensures.stands in
    Writes-then handling first after after c.args.replies.now.items c.write_text.new.replies.items c.write_text.new.replies.items c.args.machine.now c.answers.machine c.resume.new.machine c.args.engine.now c.write_text.new.engine c.resume.new.self text went

pub returns-then-not-resume-clause-after : goal.returns-then-not-resume-clause-after
returns-then-not-resume-clause-after g c = λ ended is.
    c.resume.ensures.after ended (subst (λ (r : EngineValue g.row.G.Denot). IsAfter ended r.stage) (sym c.write_text.ensures.others) (c.answers.invariant.after ended is))

pub answers-preserved : goal.answers-preserved
answers-preserved g c =
    let M = g.M.LineHandler in
    let handling = M.handling in
    let first = g.W.Sink.contents c.args.output.now in
    let before = g.W.Sink.contents c.answers.output in
    let after = g.W.Sink.contents c.write_text.new.output in
    let was = c.answers.invariant in
    let text = Writes-then handling first before after c.args.replies.now.items c.answers.replies.items c.write_text.new.replies.items c.args.machine.now c.answers.machine c.answers.machine c.args.engine.now c.answers.engine c.write_text.new.engine was.writes c.in_ok-write_text.ensures.ok in
    let went = Writes-went handling after c.write_text.new.replies.items c.answers.machine c.resume.new.machine c.write_text.new.engine c.resume.new.self c.resume.ensures.stands in
    record {
      writes = Writes-then handling first after after c.args.replies.now.items c.write_text.new.replies.items c.write_text.new.replies.items c.args.machine.now c.answers.machine c.resume.new.machine c.args.engine.now c.write_text.new.engine c.resume.new.self text went;
      after = λ ended is. c.resume.ensures.after ended (subst (λ (r : EngineValue g.row.G.Denot). IsAfter ended r.stage) (sym c.write_text.ensures.others) (was.after ended is));
      same = SameLines-trans c.args.engine.now c.write_text.new.engine c.resume.new.self (SameLines-trans c.args.engine.now c.answers.engine c.write_text.new.engine was.same (SameLines-left c.answers.engine c.write_text.new.engine c.write_text.ensures.others)) c.resume.ensures.same;
      grows = omega (arith, was.grows, c.write_text.ensures.grows);
      kept = g.met.M.LineHandler.steady.1.goes_on c.args.machine.now c.answers.machine c.resume.new.machine was.kept c.resume.ensures.kept;
    }
