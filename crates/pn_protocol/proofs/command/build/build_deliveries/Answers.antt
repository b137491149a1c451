use Rattle.pn_protocol.specs.Command.Lines.{batch_in}
use Rattle.pn_protocol.proofs.CommandLimits.{next_there}
use Rattle.pn_protocol.proofs.command.build.build_deliveries.Goals as goal

pub build_delivery-requires : goal.build_delivery-requires
build_delivery-requires c = next_there batch_in _ c.loop-batch.deliveries.items _ _ c.in-Some.batch c.loop-batch.invariant c.in-Some.ensures.steps.0 c.requires
