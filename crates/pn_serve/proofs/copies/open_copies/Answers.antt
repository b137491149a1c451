-- The copies are of no layout, or what its tablets have is of too many streams.
use Rattle.std.proofs.Common.{sym}
use Rattle.pn_serve.specs.Copies.{cut_fault}
use Rattle.pn_serve.proofs.CopyReads.{passed_on}
use Rattle.pn_serve.proofs.Recutting.{cut_stops, not_refused, start_stops}
use Rattle.pn_serve.proofs.copies.open_copies.Goals as goal

pub returns-in_err-layout-clause-faults : goal.returns-in_err-layout-clause-faults
returns-in_err-layout-clause-faults g c =
    passed_on c.from_residual.result (cut_fault c.in_err-layout.field-0.0) _ c.from_residual.ensures.1
    (cut_stops c.args.copies.items c.layout_of_copies.new.copies.items c.in_err-layout.field-0.0 c.layout_of_copies.ensures.same c.layout_of_copies.ensures.order c.in_err-layout.ensures.exact)

pub start_fault-requires : goal.start_fault-requires
start_fault-requires g c = not_refused c.layout_of_copies.new.copies.items c.in_ok-layout.layout c.in-Err.fault (sym c.in_ok-layout.ensures.ranges) c.in-Err.ensures.refused

pub returns-in-Err-clause-faults : goal.returns-in-Err-clause-faults
returns-in-Err-clause-faults g c =
    rw c.start_fault.ensures (start_stops c.args.copies.items c.layout_of_copies.new.copies.items c.in_ok-layout.layout c.in-Err.fault c.layout_of_copies.ensures.same
    c.recall_order.ensures (sym c.in_ok-layout.ensures.ranges) c.in-Err.ensures.refused)
