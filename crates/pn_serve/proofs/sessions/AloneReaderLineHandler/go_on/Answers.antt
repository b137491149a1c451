-- A line that is looked up so far comes to its reply, or goes on.
use Rattle.std.proofs.Common.{◌≤◌, ap, arith, sym, subst}
use Rattle.pn_lines.specs.Answers.{AnswerValue, AnswersBy, answer_left}
use Rattle.pn_scan.specs.Paging.{Stays}
use Rattle.pn_serve.specs.Session.Resuming.{alone_reads, reader_of, pending_left}
use Rattle.pn_serve.specs.declared.sessions.AloneReader.{AloneReader}
use Rattle.pn_serve.specs.declared.sessions.pending_lookup.PendingLookup.{PendingLookup}
use Rattle.pn_serve.proofs.GoingOn.{given_left}
use Rattle.pn_serve.proofs.Knowing.{stays_preorder}
use Rattle.pn_serve.proofs.Lookups.{goes_by, seen_alone}
use Rattle.pn_serve.proofs.sessions.AloneReaderLineHandler.go_on.Goals as goal

pub returns-clause-answers : goal.returns-clause-answers
returns-clause-answers c =
    λ was between ended text looks moved.
    let now : AloneReader = record { reader = record c.args.self.now.reader { now = c.go_on-answer.new.reader } } in
    subst (λ (a : AnswerValue PendingLookup). AnswersBy alone_reads was ended text now a) (sym c.answered.ensures.answer)
    (seen_alone reader_of was now ended text c.go_on-answer.result.0
    (goes_by Stays stays_preorder (reader_of was) (reader_of between) c.go_on-answer.new.reader ended text c.args.pending c.go_on-answer.result.0 looks.looks
    (λ command so_far. c.go_on-answer.ensures.alone (reader_of was) (reader_of between) command so_far (ap reader_of moved))))

pub returns-clause-nearer : goal.returns-clause-nearer
returns-clause-nearer c = λ some.
    subst (λ (a : AnswerValue PendingLookup). answer_left pending_left a ≤ pending_left c.args.pending) (sym c.answered.ensures.answer)
    (given_left c.go_on-answer.result.0 c.args.pending (c.go_on-answer.ensures.nearer some))

pub returns-clause-few : goal.returns-clause-few
returns-clause-few c = omega (arith, c.answered.ensures.units, c.go_on-answer.ensures.few)
