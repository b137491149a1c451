-- The region starts from the copies, in their order, and serves.
use Rattle.std.proofs.Common.{sym}
use Rattle.pn_region.proofs.Starting.{started_serves}
use Rattle.pn_serve.proofs.Recutting.{not_refused}
use Rattle.pn_serve.proofs.copies.starting.recut_copies.Goals as goal

pub copies_in-requires : goal.copies_in-requires
copies_in-requires c =
    started_serves c.layout_of_copies.new.copies.items c.in_ok-own.own c.in-Ok.region.state
    (record { lawful = c.recall_order.ensures; own = sym c.in_ok-own.ensures.ranges; lead = c.in-Ok.ensures.starts })

pub start_fault-requires : goal.start_fault-requires
start_fault-requires c = not_refused c.layout_of_copies.new.copies.items c.in_ok-own.own c.in-Err.fault (sym c.in_ok-own.ensures.ranges) c.in-Err.ensures.refused
