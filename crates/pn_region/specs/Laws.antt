-- What the laws of regions speak of, and tablets that are faithful to what brokers published.
use Rattle.std.specs.Prelude.{◌≡◌, ◌⊎◌, ℕ, ◌+◌, ◌≤◌, ◌<◌, length, List, [], ◌∷◌, ◌++◌, map, Contains, IsTrue}
use Rattle.std.specs.Ordering.{eq_by_cmp}
use Rattle.std.specs.Set.{distinct_count}
use Rattle.std.specs.List.{AllByRecursion}
use Rattle.pn_join.specs.Marks.{Positions, name_cmp, position_of}
use Rattle.pn_record.specs.declared.records.Image.{Image}
use Rattle.pn_record.specs.Cells.{Entries, table_of}
use Rattle.pn_tablet.specs.Layouts.{Ends, in_range}
use Rattle.pn_tablet.specs.Tablets.{TabletStateValue, needed}
use Rattle.pn_stream.specs.Brokers.{DeliveryValue, BrokerRecord, up_to}
use Rattle.pn_apply.specs.Reducing.{images_in, ranges}
use Rattle.pn_region.specs.Rounds.{with_images}
use Rattle.pn_region.specs.Regions.{RegionValue}

-- What the laws of regions speak of.

-- each tablet has the cells of the images that lie in its range
abbrev pub HasImages : RegionValue → List Image → Type 0
HasImages region images = map (λ tablet. tablet.cells) region.tablets ≡ map (λ range. table_of (images_in range images)) (ranges region.layout)

-- each image of one list is in the other
abbrev pub AreIn : List Image → List Image → Type 0
AreIn images others = (image : Image) → Contains images image → Contains others image

-- the images have all the sure ones, and else only those that may be there
pub record IsBetween (sure maybe images : List Image) : Type 0 where
  pub all : AreIn sure images
  pub no_others : AreIn images (sure ++ maybe)

-- the cells are those, in the range, of images between the sure ones and both
abbrev pub HoldsBetween : List Image → List Image → Ends → Entries → Type 0
HoldsBetween sure maybe range cells = (images : List Image) × IsBetween sure maybe images × (cells ≡ table_of (images_in range images))

-- each range has its own tablet, in order, whose cells are those of such images
abbrev pub AllHoldBetween : List Image → List Image → List Ends → List TabletStateValue → Type 0
AllHoldBetween sure maybe [] [] = Unit {0}
AllHoldBetween sure maybe (range ∷ others) (tablet ∷ tablets) = HoldsBetween sure maybe range tablet.cells × AllHoldBetween sure maybe others tablets
AllHoldBetween sure maybe _ _ = ⊥

-- each tablet has the cells, in its range, of images between the sure ones and both
abbrev pub HasBetween : List Image → List Image → RegionValue → Type 0
HasBetween sure maybe region = AllHoldBetween sure maybe (ranges region.layout) region.tablets

-- one of the deliveries has the position of the stream
pub record HasPosition (deliveries : List DeliveryValue) (name : List ℕ) (position : ℕ) : Type 0 where
  pub delivery : DeliveryValue
  pub there : Contains deliveries delivery
  pub stream : delivery.stream ≡ name
  pub from : delivery.first ≤ position
  pub before : position < delivery.first + length delivery.images

-- the streams of the marks, and those of the deliveries with images
abbrev pub named : Positions → List DeliveryValue → List (List ℕ)
named marks deliveries = map (λ mark. mark.0) marks ++ map (λ delivery. delivery.stream) (with_images deliveries)

-- how many different streams these are
abbrev pub stream_count : Positions → List DeliveryValue → ℕ
stream_count marks deliveries = distinct_count (eq_by_cmp name_cmp) (named marks deliveries)

-- the position was taken before: the marks have reached it, or one of the deliveries has it
abbrev pub WasTaken : Positions → List DeliveryValue → List ℕ → ℕ → Type 0
WasTaken marks deliveries name position = (position ≤ position_of marks name) ⊎ HasPosition deliveries name position

-- before each delivery with images all lower positions of its stream are taken
abbrev pub HasNoGap : Positions → List DeliveryValue → Type 0
HasNoGap marks deliveries = (before : List DeliveryValue) (delivery : DeliveryValue) (after : List DeliveryValue) (position : ℕ)
    → deliveries ≡ before ++ delivery ∷ after → 0 < length delivery.images → position < delivery.first
    → WasTaken marks before delivery.stream position

-- the first gap: deliveries without one, then a delivery that begins past its stream's next position
pub record IsGap (marks : Positions) (deliveries : List DeliveryValue) (stream : List ℕ) (wanted got : ℕ) : Type 0 where
  pub before : List DeliveryValue
  pub delivery : DeliveryValue
  pub after : List DeliveryValue
  pub parts : deliveries ≡ before ++ delivery ∷ after
  pub brings : 0 < length delivery.images
  pub stream_is : stream ≡ delivery.stream
  pub got_is : got ≡ delivery.first
  pub first : HasNoGap marks before
  pub below : (position : ℕ) → position < wanted → WasTaken marks before stream position
  pub missing : WasTaken marks before stream wanted → ⊥
  pub past : wanted < got

-- Tablets that are faithful to what brokers published.

-- its cells are those of images in its range, published up to its reach; of those up to its cover it lacks only what it needs
pub record IsFaithful (broker : BrokerRecord) (tablet : TabletStateValue) : Type 0 where
  pub images : List Image
  pub cells : tablet.cells ≡ table_of (images_in tablet.range images)
  pub published : AreIn images (up_to broker tablet.reach)
  pub all : (image : Image) → Contains (up_to broker tablet.cover) image → IsTrue (in_range tablet.range image.key)
      → Contains images image ⊎ Contains (up_to broker (needed tablet.status)) image

-- each tablet is faithful
abbrev pub AreFaithful : BrokerRecord → List TabletStateValue → Type 0
AreFaithful broker tablets = AllByRecursion (IsFaithful broker) tablets
