-- Sequences of events of a region, regions that start from copies, and the images that events take.
use Rattle.std.specs.Prelude.{◌≡◌, ℕ, List, [], ◌∷◌, Ok, ◌++◌, map, ◌⊎◌, Contains, IsTrue}
use Rattle.std.specs.List.{AllByRecursion, flat_map}
use Rattle.pn_record.specs.Cells.{table_of}
use Rattle.pn_record.specs.declared.records.Image.{Image}
use Rattle.pn_tablet.specs.Copies.{TabletCopyValue, IsCopy}
use Rattle.pn_tablet.specs.Layouts.{Bounds, IsLayout, in_range}
use Rattle.pn_tablet.specs.Tablets.{needed, TabletStateValue}
use Rattle.pn_stream.specs.Brokers.{BrokerRecord, up_to, AreHonest, DeliveryValue}
use Rattle.pn_apply.specs.Reducing.{images_in, ranges, all_images}
use Rattle.pn_region.specs.Recovery.{after_advance, after_loss, after_adoption, after_relayout}
use Rattle.pn_region.specs.Regions.{RegionValue, new_region}
use Rattle.pn_region.specs.Rounds as rounds

-- Copies of tablets that are honest about what brokers published.

-- an honest copy: its cells are those of the images in its range, up to its marks
abbrev pub IsHonestCopy : BrokerRecord → TabletCopyValue → Type 0
IsHonestCopy broker copy = copy.cells ≡ table_of (images_in copy.range (up_to broker copy.marks))

-- Sequences of events of a region.

-- a round, a round that ran out of memory, the loss of a tablet, the adoption of a copy, a change of layout, or marks that advance
pub data RegionEvent : Type 0 where
  round : List DeliveryValue → RegionEvent
  half_round : List DeliveryValue → RegionEvent
  loss : ℕ → RegionEvent
  adoption : TabletCopyValue → RegionEvent
  relayout : Bounds → RegionEvent
  advance : RegionEvent

-- the copy is adopted
pub record IsAdoption (copy : TabletCopyValue) (old new : RegionValue) : Type 0 where
  pub tablet : ℕ
  pub lawful : IsCopy copy.range copy.marks copy.cells
  pub adopted : after_adoption old copy ≡ Ok (tablet, new)

-- the layout becomes this one
pub record IsRelayout (bounds : Bounds) (old new : RegionValue) : Type 0 where
  pub lawful : IsLayout bounds
  pub relaid : after_relayout old bounds ≡ Ok new

-- the event leads from one region to another
abbrev pub LeadsTo : RegionEvent → RegionValue → RegionValue → Type 0
LeadsTo (round deliveries) old new = rounds.round old deliveries ≡ Ok new
LeadsTo (half_round deliveries) old new = rounds.IsHalfTaken old deliveries new
LeadsTo (loss tablet) old new = new ≡ after_loss old tablet
LeadsTo (adoption copy) old new = IsAdoption copy old new
LeadsTo (relayout bounds) old new = IsRelayout bounds old new
LeadsTo advance old new = after_advance old ≡ Ok new

-- the events lead from one region to another, one after another
abbrev pub AllLeadTo : List RegionEvent → RegionValue → RegionValue → Type 0
AllLeadTo [] old new = new ≡ old
AllLeadTo (event ∷ events) old new = (next : RegionValue) × LeadsTo event old next × AllLeadTo events next new

-- what the event brings is honest
abbrev pub IsHonestEvent : BrokerRecord → RegionEvent → Type 0
IsHonestEvent broker (round deliveries) = AreHonest broker deliveries
IsHonestEvent broker (half_round deliveries) = AreHonest broker deliveries
IsHonestEvent broker (loss tablet) = Unit {0}
IsHonestEvent broker (adoption copy) = IsHonestCopy broker copy
IsHonestEvent broker (relayout bounds) = Unit {0}
IsHonestEvent broker advance = Unit {0}

abbrev pub AreHonestEvents : BrokerRecord → List RegionEvent → Type 0
AreHonestEvents broker events = AllByRecursion (IsHonestEvent broker) events

-- Regions that start from copies.

-- each copy is adopted, and then the marks advance
abbrev pub start_events : List TabletCopyValue → List RegionEvent
start_events copies = map adoption copies ++ advance ∷ []

-- the copies are those of a layout's tablets, in order; a new region adopted each, and then its marks advanced
pub record StartsFrom (copies : List TabletCopyValue) (bounds : Bounds) (region : RegionValue) : Type 0 where
  pub lawful : IsLayout bounds
  pub own : map (λ copy. copy.range) copies ≡ ranges bounds
  pub lead : AllLeadTo (start_events copies) (new_region bounds) region

-- each copy is honest
abbrev pub AreHonestCopies : BrokerRecord → List TabletCopyValue → Type 0
AreHonestCopies broker copies = AllByRecursion (IsHonestCopy broker) copies

-- the event is a round that was accepted
abbrev pub IsAccepted : RegionEvent → Type 0
IsAccepted (round deliveries) = Unit {0}
IsAccepted _ = ⊥

-- all events are rounds that were accepted
abbrev pub AreAccepted : List RegionEvent → Type 0
AreAccepted events = AllByRecursion IsAccepted events

-- The images that events take, the reaches and covers that come to them, and the tablets that hold them.

-- the images that an event takes: those of a round, and those in a copy's range up to its marks
abbrev pub taken_by : BrokerRecord → RegionEvent → List Image
taken_by broker (round deliveries) = all_images deliveries
taken_by broker (adoption copy) = images_in copy.range (up_to broker copy.marks)
taken_by broker _ = []

abbrev pub all_taken : BrokerRecord → List RegionEvent → List Image
all_taken broker events = flat_map (taken_by broker) events

-- the images that an event may have left in some tablets: those of a round that ran out of memory
abbrev pub left_by : RegionEvent → List Image
left_by (half_round deliveries) = all_images deliveries
left_by _ = []

abbrev pub all_left : List RegionEvent → List Image
all_left events = flat_map left_by events

-- in its range, a tablet's reach has come to each image taken, and its cover to no others but those that may have been left
pub record CoverTells (broker : BrokerRecord) (taken left : List Image) (tablet : TabletStateValue) : Type 0 where
  pub all : (image : Image) → Contains taken image → IsTrue (in_range tablet.range image.key) → Contains (up_to broker tablet.reach) image
  pub no_others : (image : Image) → Contains (up_to broker tablet.cover) image → IsTrue (in_range tablet.range image.key) → Contains (taken ++ left) image

-- those of each tablet have
abbrev pub CoversTell : BrokerRecord → List Image → List Image → List TabletStateValue → Type 0
CoversTell broker taken left tablets = AllByRecursion (CoverTells broker taken left) tablets

-- its cells are those of images in its range: all those taken but what it needs, and no others but those that may have been left
pub record HoldsTaken (broker : BrokerRecord) (taken left : List Image) (tablet : TabletStateValue) : Type 0 where
  pub images : List Image
  pub cells : tablet.cells ≡ table_of (images_in tablet.range images)
  pub all : (image : Image) → Contains taken image → IsTrue (in_range tablet.range image.key)
      → Contains images image ⊎ Contains (up_to broker (needed tablet.status)) image
  pub no_others : (image : Image) → Contains images image → IsTrue (in_range tablet.range image.key) → Contains (taken ++ left) image

-- each tablet does
abbrev pub HoldTaken : BrokerRecord → List Image → List Image → List TabletStateValue → Type 0
HoldTaken broker taken left tablets = AllByRecursion (HoldsTaken broker taken left) tablets

-- the event is a round
abbrev pub IsRound : RegionEvent → Type 0
IsRound (round deliveries) = Unit {0}
IsRound (half_round deliveries) = Unit {0}
IsRound _ = ⊥

-- all events are rounds
abbrev pub AreRounds : List RegionEvent → Type 0
AreRounds events = AllByRecursion IsRound events

-- the event is neither a loss nor an adoption
abbrev pub LosesNothing : RegionEvent → Type 0
LosesNothing (loss tablet) = ⊥
LosesNothing (adoption copy) = ⊥
LosesNothing _ = Unit {0}

-- none of the events is a loss or an adoption
abbrev pub LoseNothing : List RegionEvent → Type 0
LoseNothing events = AllByRecursion LosesNothing events

-- the event is no change of layout
abbrev pub KeepsLayout : RegionEvent → Type 0
KeepsLayout (relayout bounds) = ⊥
KeepsLayout _ = Unit {0}

-- none of the events is a change of layout
abbrev pub KeepLayout : List RegionEvent → Type 0
KeepLayout events = AllByRecursion KeepsLayout events
