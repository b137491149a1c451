-- The next mark comes after those so far, as the names of the least rise.
use Rattle.std.proofs.Common.{◌≡◌, min, ◌∙◌}
use Rattle.pn_join.specs.Marks.{position_of}
use Rattle.pn_join.proofs.LeastFacts.{least_rises}
use Rattle.pn_join.proofs.marks.Table+StreamName+Highest.least.Goals as goal

pub add_last-requires : goal.add_last-requires
add_last-requires c =
    let own = c.args.self.now in
    let others = c.args.others.now in
    let name = c.in-Some.name.now in
    let so_far = rw c.in-Some.ensures.steps at c.loop-name.invariant in
    let at : c.min-position.result ≡ min (position_of own name) (position_of others name) = c.min-position.ensures ∙ (λ i. min (c.position.ensures i) (c.position-in-loop-name.ensures i)) in
    rw at (least_rises own others (name, c.in-Some._position.now) c.next.new.self c.loop-name.both c.recall_order.ensures so_far)
