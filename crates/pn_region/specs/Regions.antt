-- The state of a region, whose marks name streams in rising order, and past which no tablet took a stream.
use Rattle.std.specs.Prelude.{◌≡◌, ◌≤◌, IsTrue, List, [], ◌∷◌, length, map}
use Rattle.std.specs.List.{flat_map, AllByRecursion}
use Rattle.pn_join.specs.Marks.{Positions, Reaches, are_positions}
use Rattle.pn_record.specs.Cells.{Entries}
use Rattle.pn_tablet.specs.Layouts.{Bounds, IsLayout, Ends}
use Rattle.pn_tablet.specs.Steps.{IsSpelled, Rise}
use Rattle.pn_tablet.specs.Tablets.{TabletStateValue, empty_tablet, lie_in}
use Rattle.pn_apply.specs.Reducing.{ranges}
use Rattle.pn_region.specs.declared.marking.TheConstants.{MAX_STREAMS}

-- The state of a region.

-- a layout, the tablets of its ranges, and the marks
pub record RegionValue : Type 0 where
  pub layout : Bounds
  pub tablets : List TabletStateValue
  pub marks : Positions

-- a tablet of the range: its keys lie there, its cells are those of images, its cover reaches the marks, and its reach the cover
pub record IsTabletOf (marks : Positions) (ends : Ends) (tablet : TabletStateValue) : Type 0 where
  pub range : tablet.range ≡ ends
  pub inside : IsTrue (lie_in ends tablet.cells)
  pub spelled : IsSpelled tablet.cells
  pub covered : Reaches tablet.cover marks
  pub reached : Reaches tablet.reach tablet.cover

-- the tablet has the range, and its cover reaches the marks
pub record IsPartOf (marks : Positions) (ends : Ends) (tablet : TabletStateValue) : Type 0 where
  pub range : tablet.range ≡ ends
  pub covered : Reaches tablet.cover marks

-- there is one tablet for each range, in order
abbrev pub ArePartsOf : Positions → List Ends → List TabletStateValue → Type 0
ArePartsOf marks [] [] = Unit {0}
ArePartsOf marks (range ∷ others) (tablet ∷ tablets) = IsPartOf marks range tablet × ArePartsOf marks others tablets
ArePartsOf marks _ _ = ⊥

-- its keys lie in its range, its cells are those of images, and its reach reaches its cover
pub record IsSound (tablet : TabletStateValue) : Type 0 where
  pub inside : IsTrue (lie_in tablet.range tablet.cells)
  pub spelled : IsSpelled tablet.cells
  pub reached : Reaches tablet.reach tablet.cover

-- each range has its own tablet, in order
abbrev pub AreTabletsOf : Positions → List Ends → List TabletStateValue → Type 0
AreTabletsOf marks [] [] = Unit {0}
AreTabletsOf marks (range ∷ others) (tablet ∷ tablets) = IsTabletOf marks range tablet × AreTabletsOf marks others tablets
AreTabletsOf marks _ _ = ⊥

-- a lawful layout, and a tablet for each of its ranges whose cover reaches the marks
pub record IsRegion (region : RegionValue) : Type 0 where
  pub lawful : IsLayout region.layout
  pub tablets : AreTabletsOf region.marks (ranges region.layout) region.tablets

-- marks of at most 16 streams, whose positions are those of messages
pub record AreRegionMarks (marks : Positions) : Type 0 where
  pub few : length marks ≤ MAX_STREAMS
  pub positions : IsTrue (are_positions marks)

-- a region with such marks
pub record IsLawfulRegion (region : RegionValue) : Type 0 where
  pub is_region : IsRegion region
  pub are_marks : AreRegionMarks region.marks

-- a region that has taken nothing
abbrev pub new_region : Bounds → RegionValue
new_region bounds = record { layout = bounds; tablets = map empty_tablet (ranges bounds); marks = [] }

-- the cells of all tablets together
abbrev pub all_cells : RegionValue → Entries
all_cells region = flat_map (λ tablet. tablet.cells) region.tablets

-- Regions whose marks, covers and reaches name streams in rising order, as all do that events make.

-- the names of the marks rise, and those of each cover and reach
pub record AllRise (region : RegionValue) : Type 0 where
  pub marks : Rise region.marks
  pub covers : AllByRecursion (λ tablet. Rise tablet.cover) region.tablets
  pub reaches : AllByRecursion (λ tablet. Rise tablet.reach) region.tablets

-- Regions in which no tablet took a stream past the marks.

-- no tablet's reach is past the marks
abbrev pub NoneAhead : RegionValue → Type 0
NoneAhead region = AllByRecursion (λ tablet. Reaches region.marks tablet.reach) region.tablets
