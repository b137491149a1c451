-- The positions of a stream, deliveries, what brokers published, and deliveries that are honest about it.
use Rattle.std.specs.Prelude.{ℕ, ◌+◌, Bool, ◌&&◌, nat_le, List, ◌≡◌, ◌≤◌, pred, length, take, drop, Contains}
use Rattle.std.specs.List.{flat_map}
use Rattle.pn_join.specs.Marks.{is_position, Positions, position_of}
use Rattle.pn_join.specs.declared.marks.TheConstants.{LAST_POSITION}
use Rattle.pn_record.specs.declared.records.Image.{Image}

-- The positions of a stream, and deliveries.

-- the positions of `count` images from the first on are those of a stream
abbrev pub are_positions : ℕ → ℕ → Bool
are_positions first count = is_position first && nat_le (first + count) (LAST_POSITION + 1)

-- images of a stream at consecutive positions from the first on
pub record DeliveryValue : Type 0 where
  pub stream : List ℕ
  pub first : ℕ
  pub images : List Image

-- What brokers published, and deliveries that are honest about it.

-- a broker record: for each stream name one list of images, the first of which has position 1
abbrev pub BrokerRecord : Type 0
BrokerRecord = List ℕ → List Image

-- the images up to marks: of each stream those from position 1 to its mark
abbrev pub up_to : BrokerRecord → Positions → List Image
up_to broker marks = flat_map (λ mark. take (position_of marks mark.0) (broker mark.0)) marks

-- an honest delivery: its images are those that its stream has at its positions, of which the first is 1
abbrev pub IsHonest : BrokerRecord → DeliveryValue → Type 0
IsHonest broker delivery = (1 ≤ delivery.first) × (delivery.images ≡ take (length delivery.images) (drop (pred delivery.first) (broker delivery.stream)))

-- each delivery is honest
abbrev pub AreHonest : BrokerRecord → List DeliveryValue → Type 0
AreHonest broker deliveries = (delivery : DeliveryValue) → Contains deliveries delivery → IsHonest broker delivery
