-- The walk goes on over what is left.
use Rattle.std.proofs.Common.{◌≤◌, ◌*◌, ◌^◌, suc, drop, length, length-drop, max, ap, ◌∙◌, arith}
use Rattle.pn_record.specs.Cells.{Entries}
use Rattle.pn_scan.specs.Paging.{part_work, part_left, walk_answer}
use Rattle.pn_scan.specs.WalkValues.{PartWalkValue}
use Rattle.pn_scan.proofs.Looking.{nearer_part, same_answer}
use Rattle.pn_scan.proofs.walk.PartWalk.go_on.Goals as goal

pub returns-in-All-clause-same : goal.returns-in-All-clause-same
returns-in-All-clause-same c =
    let walked = rw c.in-All.is at c.in_ok-more.ensures in
    (λ i. (walked.0 i, walked.1 i)) ∙ ap (walk_answer c.args.query.now) c.self.view_is

pub returns-in-All-clause-few : goal.returns-in-All-clause-few
returns-in-All-clause-few c = let walked = rw c.in-All.is at c.in_ok-more.ensures in omega (arith, walked.2, c.max.ensures)

pub returns-in-All-clause-less : goal.returns-in-All-clause-less
returns-in-All-clause-less c = omega (arith, ap part_left c.self.view_is, c.recall_seen.ensures)

pub returns-in-To-clause-same : goal.returns-in-To-clause-same
returns-in-To-clause-same c =
    let walked = rw c.in-To.is at c.in_ok-more.ensures in
    let inside = c.self.inside in
    same_answer c.args.query.now inside.room c.in-To.place.seen inside.place.seen _ (drop c.in-To.place.index inside.rest) _ (drop inside.place.index inside.rest) walked.0 ∙ ap (walk_answer c.args.query.now) c.self.view_is

pub returns-in-To-clause-few : goal.returns-in-To-clause-few
returns-in-To-clause-few c =
    let walked = rw c.in-To.is at c.in_ok-more.ensures in
    omega (arith, walked.2, c.max.ensures, ap (part_work c.args.query.now) c.self.view_is)

pub returns-in-To-clause-less : goal.returns-in-To-clause-less
returns-in-To-clause-less c =
    let walked = rw c.in-To.is at c.in_ok-more.ensures in
    let inside = c.self.inside in
    let some = walked.5 (omega (arith, c.max.ensures)) in
    let near = nearer_part (length inside.rest) inside.place.index c.in-To.place.index inside.place.seen c.in-To.place.seen walked.3 walked.4 c.recall_seen.ensures some in
    omega (arith, near, ap part_left c.self.view_is, length-drop inside.place.index inside.rest, length-drop c.in-To.place.index inside.rest)
