-- A line that is looked up so far comes to its reply, or goes on.
use Rattle.std.proofs.Common.{◌≤◌, ap, arith, sym, subst, ◌∙◌}
use Rattle.pn_lines.specs.Answers.{AnswerValue, AnswersBy, answer_left}
use Rattle.pn_live.specs.Readers.{LiveReaderValue}
use Rattle.pn_serve.specs.Lines.{given_by}
use Rattle.pn_serve.specs.Session.Resuming.{reads_lines, KnowsNoLess, pending_left}
use Rattle.pn_serve.specs.declared.sessions.pending_lookup.PendingLookup.{PendingLookup}
use Rattle.pn_serve.proofs.GoingOn.{given_left}
use Rattle.pn_serve.proofs.Knowing.{knows_preorder}
use Rattle.pn_serve.proofs.Lookups.{goes_by}
use Rattle.pn_serve.proofs.sessions.counting_reader.CountingReaderLineHandler.go_on.Goals as goal

pub returns-clause-answers : goal.returns-clause-answers
returns-clause-answers c =
    λ was between ended text looks moved.
    subst (λ (a : AnswerValue PendingLookup). AnswersBy (reads_lines KnowsNoLess) was ended text c.count.new.self a) (sym (c.answered.ensures.answer ∙ ap given_by c.count.ensures.same))
    (subst (λ (r : LiveReaderValue). AnswersBy (reads_lines KnowsNoLess) was ended text r (given_by c.go_on-answer.result.0)) (sym c.count.ensures.kept)
    (goes_by KnowsNoLess knows_preorder was between c.go_on-answer.new.reader ended text c.args.pending c.go_on-answer.result.0 looks.looks
    (λ command so_far. c.go_on-answer.ensures.shared was between command so_far (subst (λ (r : LiveReaderValue). KnowsNoLess between r) (sym c.self.view_is) moved))))

pub returns-clause-nearer : goal.returns-clause-nearer
returns-clause-nearer c = λ some.
    subst (λ (a : AnswerValue PendingLookup). answer_left pending_left a ≤ pending_left c.args.pending) (sym (c.answered.ensures.answer ∙ ap given_by c.count.ensures.same))
    (given_left c.go_on-answer.result.0 c.args.pending (c.go_on-answer.ensures.nearer some))

pub returns-clause-few : goal.returns-clause-few
returns-clause-few c = omega (arith, c.answered.ensures.units, c.go_on-answer.ensures.few)

pub returns-clause-kept : goal.returns-clause-kept
returns-clause-kept c = subst (λ (r : LiveReaderValue). KnowsNoLess c.args.self.now r) (sym c.count.ensures.kept) (subst (λ (r : LiveReaderValue). KnowsNoLess r c.go_on-answer.new.reader) c.self.view_is c.go_on-answer.ensures.knows)
