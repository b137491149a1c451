-- A delivery whose round has a fault.
use Rattle.pn_serve.proofs.Turns.{turned_fault_of_round}
use Rattle.pn_serve.proofs.machine.deliver.Goals as goal

pub returns-in-Err : goal.returns-in-Err
returns-in-Err g c = turned_fault_of_round c.args.region.now c.round.new.self c.args.deliveries.items c.in-Err.fault c.refuse.result c.in-Err.ensures.refused c.in-Err.ensures.err c.in-Err.ensures.broken c.refuse.ensures
