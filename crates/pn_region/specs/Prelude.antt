-- The names that contracts of the crates above cite, passed on by one module. Declares nothing.
pub use Rattle.pn_region.specs.Events.{AreHonestEvents, IsHonestCopy}
pub use Rattle.pn_region.specs.Reads.{HoldsStill}
pub use Rattle.pn_region.specs.Log.{with_notices, refused_log, IsSince}
pub use Rattle.pn_region.specs.Rounds.{is_memory, new_marks, IsHalfTaken, Leaves, changed_count, joins, round}
pub use Rattle.pn_region.specs.Recovery.{after_adoption, after_loss, after_op}
pub use Rattle.pn_region.specs.Regions.{AreRegionMarks, IsLawfulRegion, IsRegion, IsSound, all_cells, new_region}
