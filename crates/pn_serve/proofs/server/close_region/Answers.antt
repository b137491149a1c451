-- All readers are the region's own.
use Rattle.std.proofs.lemmas.List.Elements.{recursion_from_All}
use Rattle.pn_live.specs.LiveRegions.{IsReaderIn}
use Rattle.pn_serve.proofs.server.close_region.Goals as goal

pub close-requires : goal.close-requires
close-requires g c = recursion_from_All (IsReaderIn c.args.live) c.args.readers.items c.requires
