-- The rest has the same first fault as all.
use Rattle.std.proofs.Common.{◌≡◌, drop}
use Rattle.pn_protocol.specs.Command.Checks.{each_fits, batch_fits}
use Rattle.pn_protocol.proofs.command.ranges.check_batches.Given as goal

abbrev pub invariant-loop-batch : goal.invariant-loop-batch
invariant-loop-batch l = each_fits batch_fits l.batches ≡ each_fits batch_fits (drop l.batch-index l.batches)
