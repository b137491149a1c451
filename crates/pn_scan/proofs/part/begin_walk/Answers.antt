-- The walk begins where the first may be shown, and comes to the answer with what it took of the others.
use Rattle.std.proofs.Common.{drop, max, ◌∙◌, arith}
use Rattle.std.proofs.lemmas.Result.{IfOk-weaker}
use Rattle.pn_record.specs.Cells.{Entries}
use Rattle.pn_scan.proofs.Looking.{begun_answer, same_answer}
use Rattle.pn_scan.proofs.part.begin_walk.Goals as goal

pub returns-in-All-clause-same : goal.returns-in-All-clause-same
returns-in-All-clause-same c =
    let walked = rw c.in-All.is at c.in_ok-more.ensures in
    (λ i. (walked.0 i, walked.1 i)) ∙ begun_answer c.args.query.now c.args.cells.now c.first_index-index.result c.args.room _ c.in_ok-rows.ensures.items c.first_index-index.ensures

pub take_rest-requires-clause-index : goal.take_rest-requires-clause-index
take_rest-requires-clause-index c = let walked = rw c.in-To.is at c.in_ok-more.ensures in omega (arith, walked.3)

pub take_rest-requires-clause-few : goal.take_rest-requires-clause-few
take_rest-requires-clause-few c = (rw c.in-To.is at c.in_ok-more.ensures).1

pub returns-in-To-clause-same : goal.returns-in-To-clause-same
returns-in-To-clause-same c =
    let query = c.args.query.now in
    let cells : Entries = c.args.cells.now in
    let index = c.first_index-index.result in
    let walked = rw c.in-To.is at c.in_ok-more.ensures in
    let same = same_answer query c.args.room c.in-To.next.seen 0 _ (drop c.in-To.next.index cells) _ (drop index cells) walked.0 ∙ begun_answer query cells index c.args.room _ c.in_ok-rows.ensures.items c.first_index-index.ensures in
    IfOk-weaker c.take_rest.result _ _ (λ part is. is ∙ same) c.take_rest.ensures.same

pub returns-in-All-clause-few : goal.returns-in-All-clause-few
returns-in-All-clause-few c = (rw c.in-All.is at c.in_ok-more.ensures).2

pub returns-in-To-clause-few : goal.returns-in-To-clause-few
returns-in-To-clause-few c = IfOk-weaker c.take_rest.result _ _ (λ part is. omega (arith, is (max c.args.budget.work 386))) c.take_rest.ensures.rest
