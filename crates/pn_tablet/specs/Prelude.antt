-- The names that contracts of the crates above cite, passed on. Declares nothing.
pub use Rattle.pn_tablet.specs.Steps.{answer, changes, version_at, AreJoins, IsSpelled, HasPositions, Answers, Refuses, recovering_tablet, state_of, step, tablet_after}
pub use Rattle.pn_tablet.specs.Copies.{IsCopy, TabletCopyValue, copy_of}
pub use Rattle.pn_tablet.specs.CopyReading.{copy_at}
pub use Rattle.pn_tablet.specs.Tablets.{counts_of, deleted_in, is_deleted, need_shortfall, TabletStateValue, empty_tablet, lie_in, same_range, entries_weight, record_weight}
pub use Rattle.pn_tablet.specs.Layouts.{Bounds, IsLayout, tablet_ends, tablet_of, Ends, in_range, is_before, is_end, is_from, key_data, meet}
pub use Rattle.pn_tablet.specs.declared.layout.TheConstants.{MAX_BOUNDS}
