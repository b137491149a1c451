-- The answer is gone on with.
use Rattle.pn_lines.specs.Answers.{answer_of}
use Rattle.pn_lines.proofs.Standing.{Asked-pending, Stands-answered}
use Rattle.pn_lines.proofs.engine.LineEngine.look_on.Goals as goal

pub returns-clause-stands : goal.returns-clause-stands
returns-clause-stands g c = λ start taken given ahead last is.
    let M = g.M.LineHandler in
    let handling = M.handling in
    let answer = answer_of g.T.PieceText.unmade c.go_on-answer.result.answer in
    let asked = Asked-pending handling start taken given ahead last c.args.machine.now c.args.self.now g.met.M.LineHandler.steady.0 c.go_on-answer.new.self c.args.pending c.args.ended answer
    (λ was between line. c.go_on-answer.ensures.answers was between c.args.ended line) is in
    rw c.take_answer.ensures (Stands-answered handling start taken given ahead last c.go_on-answer.new.self c.args.self.now c.args.ended answer c.requires.made asked)
