-- The rest has the same first fault as all.
use Rattle.std.proofs.Common.{◌≡◌, drop}
use Rattle.pn_protocol.specs.Command.Checks.{each_fits, image_fits}
use Rattle.pn_protocol.proofs.command.ranges.check_images.Given as goal

abbrev pub invariant-loop-image : goal.invariant-loop-image
invariant-loop-image l = each_fits image_fits l.images ≡ each_fits image_fits (drop l.image-index l.images)
