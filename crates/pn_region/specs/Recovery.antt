-- Regions after losses and adoptions, after a change of layout, and after an advance of their marks.
use Rattle.std.specs.Prelude.{ℕ, zero, suc, List, [], ◌∷◌, slice_get, Option, None, Some, Result, Ok, Err, Bool, true, false, map, filter, fold, nat_lt, if◌then◌else◌, length}
use Rattle.std.specs.List.{position, flat_map}
use Rattle.std.specs.Option.{option_and_then}
use Rattle.std.specs.Result.{result_map_both}
use Rattle.pn_join.specs.Marks.{Positions, least_marks, raised_marks}
use Rattle.pn_tablet.specs.Copies.{TabletCopyValue}
use Rattle.pn_tablet.specs.Tablets.{need_shortfall, TabletStateValue, same_range}
use Rattle.pn_tablet.specs.Steps.{tablet_after}
use Rattle.pn_tablet.specs.declared.fault.Shortfall.{Shortfall}
use Rattle.pn_tablet.specs.declared.state.TabletOp.{TabletOp}
use Rattle.pn_tablet.specs.declared.state.TabletOp.TheVariants.{Lose, Adopt}
use Rattle.pn_tablet.specs.declared.fault.OpFault.{OpFault}
use Rattle.pn_tablet.specs.declared.fault.OpFault.TheVariants.{WrongRange, TooOld}
use Rattle.pn_tablet.specs.Layouts.{Bounds, Ends, in_range, meet}
use Rattle.pn_tablet.specs.declared.state.Status.{Status}
use Rattle.pn_tablet.specs.declared.state.Status.TheVariants.{Serving, Recovering}
use Rattle.pn_apply.specs.Reducing.{ranges}
use Rattle.pn_region.specs.Regions.{RegionValue}
use Rattle.pn_region.specs.declared.fault.RelayoutFault.{RelayoutFault}
use Rattle.pn_region.specs.declared.fault.RelayoutFault.TheVariants.{StillRecovering, Memory}
use Rattle.pn_region.specs.declared.fault.AdvanceFault.{AdvanceFault}
use Rattle.pn_region.specs.declared.fault.AdvanceFault.TheVariants.{TooManyStreams, Memory as NoMemory}
use Rattle.pn_region.specs.declared.marking.TheConstants.{MAX_STREAMS}

-- Regions after losses and adoptions.

-- the tablets after an operation on the one with this number
abbrev pub tablets_after_op : ℕ → TabletOp → List TabletStateValue → List TabletStateValue
tablets_after_op tablet op [] = []
tablets_after_op zero op (state ∷ states) = tablet_after state op ∷ states
tablets_after_op (suc tablet) op (state ∷ states) = state ∷ tablets_after_op tablet op states

-- the region after an operation on the tablet with this number
abbrev pub after_op : RegionValue → ℕ → TabletOp → RegionValue
after_op region tablet op = record region { tablets = tablets_after_op tablet op region.tablets }

-- the region after a loss of the tablet with this number
abbrev pub after_loss : RegionValue → ℕ → RegionValue
after_loss region tablet = after_op region tablet Lose

-- the number of the tablet with the copy's range
abbrev pub tablet_for : RegionValue → TabletCopyValue → Option ℕ
tablet_for region copy = position (λ state. same_range state.range copy.range) region.tablets

-- the first stream in which the copy does not reach what the tablet needs
abbrev pub lacks : RegionValue → TabletCopyValue → ℕ → Option Shortfall
lacks region copy tablet = option_and_then (λ state. need_shortfall state.status copy.marks) (slice_get region.tablets tablet)

-- the tablet takes the copy, unless the copy falls short
abbrev pub after_adoption_unless : RegionValue → TabletCopyValue → ℕ → Option Shortfall → Result (ℕ × RegionValue) OpFault
after_adoption_unless region copy tablet None = Ok (tablet, after_op region tablet (Adopt copy))
after_adoption_unless region copy tablet (Some short) = Err (TooOld short.stream short.has short.wanted)

-- the tablet that was found takes the copy, or none was found
abbrev pub after_adoption_by : RegionValue → TabletCopyValue → Option ℕ → Result (ℕ × RegionValue) OpFault
after_adoption_by region copy None = Err WrongRange
after_adoption_by region copy (Some tablet) = after_adoption_unless region copy tablet (lacks region copy tablet)

-- the number of the tablet that takes the copy and the region then, or why the copy is refused
abbrev pub after_adoption : RegionValue → TabletCopyValue → Result (ℕ × RegionValue) OpFault
after_adoption region copy = after_adoption_by region copy (tablet_for region copy)

-- Regions after a change of layout.

-- the tablets whose ranges have a key in common with this one
abbrev pub parts_of : List TabletStateValue → Ends → List TabletStateValue
parts_of tablets range = filter (λ tablet. meet tablet.range range) tablets

-- per stream the least of the covers
abbrev pub least_cover : List TabletStateValue → Positions
least_cover [] = []
least_cover (tablet ∷ tablets) = fold (λ cover part. least_marks cover part.cover) tablet.cover tablets

-- per stream the greatest of the reaches
abbrev pub greatest_reach : List TabletStateValue → Positions
greatest_reach tablets = fold (λ reach part. raised_marks reach part.reach) [] tablets

-- the tablet that serves a range with the records of the old ones
abbrev pub made_of : List TabletStateValue → Ends → TabletStateValue
made_of tablets range = record {
  range = range;
  cells = filter (λ entry. in_range range entry.0) (flat_map (λ tablet. tablet.cells) tablets);
  cover = least_cover (parts_of tablets range);
  reach = greatest_reach (parts_of tablets range);
  status = Serving;
}

-- the region in another layout: each of its tablets is made of the old ones
abbrev pub with_layout : RegionValue → Bounds → RegionValue
with_layout region bounds = record region { layout = bounds; tablets = map (made_of region.tablets) (ranges bounds) }

-- the tablet is recovering
abbrev pub is_recovering : Status → Bool
is_recovering Serving = false
is_recovering (Recovering need) = true

-- the number of the first tablet that is recovering
abbrev pub first_recovering : List TabletStateValue → Option ℕ
first_recovering tablets = position (λ tablet. is_recovering tablet.status) tablets

-- the region in another layout, unless a tablet is recovering
abbrev pub with_layout_unless : RegionValue → Bounds → Option ℕ → Result RegionValue RelayoutFault
with_layout_unless region bounds None = Ok (with_layout region bounds)
with_layout_unless region bounds (Some tablet) = Err (StillRecovering tablet)

-- the region in another layout, or why that is refused
abbrev pub after_relayout : RegionValue → Bounds → Result RegionValue RelayoutFault
after_relayout region bounds = with_layout_unless region bounds (first_recovering region.tablets)

-- the fault says that memory ran out
abbrev pub is_memory : RelayoutFault → Bool
is_memory Memory = true
is_memory _ = false

-- Regions whose marks advance to what all tablets have taken.

-- the marks, unless they are of more streams than a region takes
abbrev pub if_few : Positions → Result Positions AdvanceFault
if_few marks = if nat_lt MAX_STREAMS (length marks) then Err TooManyStreams else Ok marks

-- what all tablets have taken: per stream the least of their covers
abbrev pub common_marks : List TabletStateValue → Result Positions AdvanceFault
common_marks tablets = if_few (least_cover tablets)

-- the region with other marks
abbrev pub with_marks : RegionValue → Positions → RegionValue
with_marks region marks = record region { marks = marks }

-- the region after its marks advanced, or why that is refused
abbrev pub after_advance : RegionValue → Result RegionValue AdvanceFault
after_advance region = result_map_both (with_marks region) (λ fault. fault) (common_marks region.tablets)

-- the fault says that memory ran out
abbrev pub is_no_advance : AdvanceFault → Bool
is_no_advance NoMemory = true
is_no_advance _ = false
