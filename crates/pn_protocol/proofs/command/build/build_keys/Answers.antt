use Rattle.pn_protocol.proofs.CommandLimits.{key_at}
use Rattle.pn_protocol.proofs.command.build.build_keys.Goals as goal

pub of_fitting-requires : goal.of_fitting-requires
of_fitting-requires c = key_at c.args.from.now c.loop-text.text-index _ c.loop-text-test.true c.requires
