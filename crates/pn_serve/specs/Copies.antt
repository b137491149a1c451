-- Texts of copies, live regions that start from them, and copies of another layout's tablets.
pub mod Cutting
pub mod Faulty
pub mod Reading
use Rattle.std.specs.Prelude.{◌≡◌, List, map, Err, ℕ, [], ◌∷◌, ◌++◌, length, Result, Ok}
use Rattle.std.specs.List.Sorted.{IsPermutation, IsSortedByKey}
use Rattle.std.specs.Option.{option_cmp}
use Rattle.pn_record.specs.Sets.{bytes_cmp}
use Rattle.pn_tablet.specs.Copies.{TabletCopyValue, copy_of}
use Rattle.pn_tablet.specs.Layouts.{layout_with, Bounds, IsLayout}
use Rattle.pn_tablet.specs.declared.layout.CutFault.{CutFault}
use Rattle.pn_tablet.specs.Tablets.{TabletStateValue}
use Rattle.pn_tablet.specs.declared.fault.CopyFault.{CopyFault}
use Rattle.pn_tablet.specs.declared.layout.CutFault.TheVariants as cut
use Rattle.pn_tablet.specs.declared.fault.OpFault.TheVariants as adopt
use Rattle.pn_apply.specs.Reducing.{ranges}
use Rattle.pn_region.specs.Regions.{new_region, RegionValue}
use Rattle.pn_region.specs.Recovery.{after_relayout}
use Rattle.pn_region.specs.Events.{StartsFrom}
use Rattle.pn_region.specs.declared.fault.AdvanceFault.TheVariants as advance
use Rattle.pn_live.specs.LiveRegions.{LiveRegionValue, StartsLive, StopsStart}
use Rattle.pn_live.specs.declared.fault.StartFault.{StartFault}
use Rattle.pn_live.specs.declared.fault.StartFault.TheVariants.{Adopt, Advance}
use Rattle.pn_serve.specs.declared.copies.fault.CopiesFault.{CopiesFault}
use Rattle.pn_serve.specs.declared.copies.fault.CopiesFault.TheVariants.{Line, Memory, NoCopy, Read, TooMany, TooManyStreams, TwoCopies, Unequal}

-- Texts of copies, and live regions that start from them.

-- in some order the copies are those of a layout's tablets, one each, and the live region started from them
pub record StartsOrdered (copies : List TabletCopyValue) (live : LiveRegionValue) : Type 0 where
  pub ordered : List TabletCopyValue
  pub same : IsPermutation copies ordered
  pub bounds : Bounds
  pub lawful : IsLayout bounds
  pub own : map (λ copy. copy.range) ordered ≡ ranges bounds
  pub starts : StartsLive ordered bounds live

-- in the order in which their ranges begin, the copies are those of no layout
pub record AreNoLayout (copies : List TabletCopyValue) (fault : CutFault) : Type 0 where
  pub ordered : List TabletCopyValue
  pub same : IsPermutation copies ordered
  pub order : IsSortedByKey (λ copy. copy.range.0) (option_cmp bytes_cmp) ordered
  pub fault_is : layout_with (map (λ copy. copy.range) ordered) ≡ Err fault

-- the copies are those of a layout's tablets, one each, but what these have is of too many streams
pub record AreOfTooManyStreams (copies : List TabletCopyValue) : Type 0 where
  pub ordered : List TabletCopyValue
  pub same : IsPermutation copies ordered
  pub bounds : Bounds
  pub lawful : IsLayout bounds
  pub own : map (λ copy. copy.range) ordered ≡ ranges bounds
  pub stops : StopsStart ordered (new_region bounds) (Advance advance.TooManyStreams)

-- why a live region does not start from copies
abbrev pub StopsOpen : List TabletCopyValue → CopiesFault → Type 0
StopsOpen copies TooMany = AreNoLayout copies cut.TooMany
StopsOpen copies (NoCopy key) = AreNoLayout copies (cut.NoCopy key)
StopsOpen copies (TwoCopies key) = AreNoLayout copies (cut.TwoCopies key)
StopsOpen copies TooManyStreams = AreOfTooManyStreams copies
StopsOpen copies Memory = Unit {0}
StopsOpen copies (Line n fault) = ⊥
StopsOpen copies Read = ⊥
StopsOpen copies (Unequal n why) = ⊥

-- the fault of copies that are those of no layout
abbrev pub cut_fault : CutFault → CopiesFault
cut_fault cut.TooMany = TooMany
cut_fault (cut.NoCopy key) = NoCopy key
cut_fault (cut.TwoCopies key) = TwoCopies key
cut_fault cut.Memory = Memory

-- no copy was refused but for memory
abbrev pub NoRefusal : StartFault → Type 0
NoRefusal (Adopt adopt.WrongRange) = ⊥
NoRefusal (Adopt (adopt.TooOld stream has needs)) = ⊥
NoRefusal _ = Unit {0}

-- the fault where a live region of all tablets does not start
abbrev pub start_fault : StartFault → CopiesFault
start_fault (Advance advance.TooManyStreams) = TooManyStreams
start_fault _ = Memory

-- Copies of another layout's tablets, made of those of one's.

-- what each tablet gives as a copy
abbrev pub copies_from : List TabletStateValue → List (Result TabletCopyValue CopyFault)
copies_from tablets = map (λ tablet. copy_of tablet []) tablets

-- the region in this layout gives these copies, one of each tablet, in their order
pub record AreGiven (region : RegionValue) (bounds : Bounds) (copies : List TabletCopyValue) : Type 0 where
  pub relaid : RegionValue
  pub relays : after_relayout region bounds ≡ Ok relaid
  pub given : copies_from relaid.tablets ≡ map Ok copies

-- the tablet of this number gives no copy, as it joins what copies of different marks had
abbrev pub IsShortAt : ℕ → Result TabletCopyValue CopyFault → CopiesFault → Type 0
IsShortAt n (Err why) fault = fault ≡ Unequal n why
IsShortAt n (Ok copy) fault = ⊥

-- the first of these tablets that gives no copy
pub record StopsGiving (tablets : List TabletStateValue) (fault : CopiesFault) : Type 0 where
  pub before : List TabletCopyValue
  pub short : Result TabletCopyValue CopyFault
  pub later : List (Result TabletCopyValue CopyFault)
  pub given : copies_from tablets ≡ map Ok before ++ short ∷ later
  pub is_short : IsShortAt (length before) short fault

-- the first tablet of the region in this layout that gives no copy
pub record GivesNone (region : RegionValue) (bounds : Bounds) (fault : CopiesFault) : Type 0 where
  pub relaid : RegionValue
  pub relays : after_relayout region bounds ≡ Ok relaid
  pub stops : StopsGiving relaid.tablets fault

-- in some order the copies are those of a layout's tablets, a region started from them, and gives these in the other layout
pub record AreRecut (copies : List TabletCopyValue) (bounds : Bounds) (recut : List TabletCopyValue) : Type 0 where
  pub ordered : List TabletCopyValue
  pub same : IsPermutation copies ordered
  pub own : Bounds
  pub started : RegionValue
  pub starts : StartsFrom ordered own started
  pub given : AreGiven started bounds recut

-- so far copies are recut, and then a tablet of the other layout gives none
pub record AreUnequal (copies : List TabletCopyValue) (bounds : Bounds) (fault : CopiesFault) : Type 0 where
  pub ordered : List TabletCopyValue
  pub same : IsPermutation copies ordered
  pub own : Bounds
  pub started : RegionValue
  pub starts : StartsFrom ordered own started
  pub none : GivesNone started bounds fault

-- why copies are not recut
abbrev pub StopsRecut : List TabletCopyValue → Bounds → CopiesFault → Type 0
StopsRecut copies bounds (Unequal n why) = AreUnequal copies bounds (Unequal n why)
StopsRecut copies bounds fault = StopsOpen copies fault
