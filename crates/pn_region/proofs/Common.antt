-- The names that most proofs cite, passed on by one module.
pub use Rattle.std.specs.FinMap.{find, is_sorted}
pub use Rattle.std.specs.List.{flat_map, range_with_len, AllByRecursion}
pub use Rattle.std.specs.Option.{option_or}
pub use Rattle.std.specs.Ordering.{eq_by_cmp}
pub use Rattle.std.specs.Prelude.{Ok, Err, MatchResult, Some, slice_get, Result, IsSome}
pub use Rattle.pn_join.specs.Marks.{Positions, Reaches, position_of, raised_marks, name_cmp, are_positions}
pub use Rattle.pn_record.specs.Cells.{Entries, table_of, spell, SameImages}
pub use Rattle.pn_record.specs.Sets.{bytes_cmp, CellValue, Stamp}
pub use Rattle.pn_record.specs.declared.records.Image.{Image}
pub use Rattle.pn_stream.specs.Brokers.{BrokerRecord, up_to, AreHonest, DeliveryValue}
pub use Rattle.pn_tablet.specs.Steps.{changes, tablet_after, recovering_tablet, step, after_step}
pub use Rattle.pn_tablet.specs.Copies.{TabletCopyValue}
pub use Rattle.pn_tablet.specs.Layouts.{Bounds, IsLayout, tablet_ends, tablet_of, Ends, in_range}
pub use Rattle.pn_tablet.specs.Tablets.{need_shortfall, TabletStateValue, empty_tablet, lie_in, same_range}
pub use Rattle.pn_tablet.specs.declared.change.Change.{Change}
pub use Rattle.pn_tablet.specs.declared.fault.OpFault.TheVariants.{WrongRange}
pub use Rattle.pn_tablet.specs.declared.fault.Shortfall.{Shortfall}
pub use Rattle.pn_tablet.specs.declared.state.TabletOp.{TabletOp}
pub use Rattle.pn_tablet.specs.declared.state.TabletOp.TheVariants.{Join, Lose, Adopt}
pub use Rattle.pn_tablet.specs.declared.state.Status.TheVariants.{Serving, Recovering}
pub use Rattle.pn_apply.specs.Applying.{all_stepped, AreOldOrStepped, all_changes}
pub use Rattle.pn_apply.specs.Reducing.{all_images, images_in, join_in, ranges, joined_cells}
pub use Rattle.pn_scan.specs.Pages.{refusal, first_refusal, first_page}
pub use Rattle.pn_region.specs.Laws.{IsFaithful, AreFaithful, HasImages, AreIn, HasBetween}
pub use Rattle.pn_region.specs.declared.notices.TheConstants.{MAX_NOTICES, LAST_NUMBER}
pub use Rattle.pn_region.specs.Log.{entries_of, LoggedRegion}
pub use Rattle.pn_region.specs.Rounds.{new_marks, last_position, with_images, with_delivery, leaves_gap, marks_after, of_few_streams, with_deliveries, joins, IsHalfTaken}
pub use Rattle.pn_region.specs.Reads.{look_for, get_in, page_in, all_looks, AllServe}
pub use Rattle.pn_region.specs.Recovery.{tablets_after_op, tablet_for, after_adoption_by}
pub use Rattle.pn_region.specs.Regions.{RegionValue, IsTabletOf, AreTabletsOf, IsRegion, new_region, all_cells, IsSound}
pub use Rattle.pn_region.specs.declared.fault.RoundFault.{RoundFault}
pub use Rattle.pn_region.specs.declared.fault.RoundFault.TheVariants.{Gap, TooManyStreams, Memory}
