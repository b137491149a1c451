-- The number that is read is that of the text.
use Rattle.std.proofs.Common.{◌∙◌}
use Rattle.pn_arguments.proofs.PlannedArguments.{of_none, of_number}
use Rattle.pn_arguments.proofs.bounds.permissions_of.Goals as goal

pub returns-in-Ok : goal.returns-in-Ok
returns-in-Ok c = c.within_most.ensures ∙ of_number c.args.text.now c.in-Ok.permissions c.in-Ok.ensures.value

pub returns-in-Err : goal.returns-in-Err
returns-in-Err c = of_none c.args.text.now c.in-Err.ensures.value
