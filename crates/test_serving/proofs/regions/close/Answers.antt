-- Readers that are the region's own, one after another.
use Rattle.std.proofs.lemmas.List.Elements.{recursion_from_All}
use Rattle.pn_live.specs.LiveRegions.{IsReaderIn}
use Rattle.test_serving.proofs.regions.close.Goals as goal

pub close-requires : goal.close-requires
close-requires g c = recursion_from_All (IsReaderIn c.args.live) c.args.readers.items c.requires
