use Rattle.pn_record.specs.Grammar.{image_in}
use Rattle.pn_protocol.proofs.CommandLimits.{next_there}
use Rattle.pn_protocol.proofs.command.build.build_images.Goals as goal

pub image_from-requires : goal.image_from-requires
image_from-requires c = next_there image_in _ c.loop-value.images.items _ _ c.in-Some.value c.loop-value.invariant c.in-Some.ensures.steps.0 c.requires
