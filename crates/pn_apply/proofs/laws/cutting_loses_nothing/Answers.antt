-- The laws are lemmas.
use Rattle.pn_apply.proofs.ReduceLaws.{cells_cut, operations_cut}
use Rattle.pn_apply.proofs.laws.cutting_loses_nothing.Goals as goal

pub returns-clause-cells : goal.returns-clause-cells
returns-clause-cells c = cells_cut

pub returns-clause-operations : goal.returns-clause-operations
returns-clause-operations c = operations_cut
