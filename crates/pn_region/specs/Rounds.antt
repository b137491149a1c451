-- The marks of streams after deliveries, and regions after rounds.
use Rattle.std.specs.Prelude.{ℕ, ◌+◌, pred, Bool, true, false, not, nat_eq, nat_lt, if◌then◌else◌, List, [], ◌∷◌, length, filter, fold, Option, Some, None, Result, Ok, Err, ◌≡◌, MatchResult}
use Rattle.std.specs.Ordering.{eq_by_cmp}
use Rattle.std.specs.Result.{result_map_both}
use Rattle.pn_join.specs.Marks.{Positions, name_cmp, position_of, raised_marks}
use Rattle.pn_tablet.specs.Steps.{changes}
use Rattle.pn_tablet.specs.declared.state.TabletOp.{TabletOp}
use Rattle.pn_stream.specs.Brokers.{DeliveryValue}
use Rattle.pn_apply.specs.Applying.{all_stepped, AreOldOrStepped}
use Rattle.pn_apply.specs.Reducing.{all_images, joins_of}
use Rattle.pn_region.specs.declared.marking.TheConstants.{MAX_STREAMS}
use Rattle.pn_region.specs.declared.fault.RoundFault.{RoundFault}
use Rattle.pn_region.specs.declared.fault.RoundFault.TheVariants.{Gap, TooManyStreams, Memory}
use Rattle.pn_region.specs.Regions.{RegionValue, all_cells}

-- The marks of streams after deliveries.

-- the delivery brings images
abbrev pub brings : DeliveryValue → Bool
brings delivery = not (nat_eq (length delivery.images) 0)

-- the deliveries that bring images
abbrev pub with_images : List DeliveryValue → List DeliveryValue
with_images deliveries = filter brings deliveries

-- the position of a delivery's last image
abbrev pub last_position : DeliveryValue → ℕ
last_position delivery = pred (delivery.first + length delivery.images)

-- the position of the last image, if there is one
abbrev pub last_of : DeliveryValue → Option ℕ
last_of delivery = if brings delivery then Some (last_position delivery) else None

-- the position of the last image, if it is of the stream
abbrev pub last_of_stream : List ℕ → DeliveryValue → Option ℕ
last_of_stream stream delivery = if eq_by_cmp name_cmp stream delivery.stream then last_of delivery else None

-- the marks after a delivery: its stream is taken up to the greater of its mark and the last position
abbrev pub with_delivery : Positions → DeliveryValue → Positions
with_delivery marks delivery = raised_marks marks ((delivery.stream, last_position delivery) ∷ [])

-- the marks after deliveries, whether or not there is a gap between them
abbrev pub with_deliveries : Positions → List DeliveryValue → Positions
with_deliveries marks deliveries = fold with_delivery marks (with_images deliveries)

-- the delivery begins past the position after its stream's mark
abbrev pub leaves_gap : Positions → DeliveryValue → Bool
leaves_gap marks delivery = nat_lt (position_of marks delivery.stream + 1) delivery.first

-- the marks after deliveries, one after another, or the first gap between them
abbrev pub marks_after : Positions → List DeliveryValue → Result Positions RoundFault
marks_after marks [] = Ok marks
marks_after marks (delivery ∷ deliveries) =
    if leaves_gap marks delivery
    then Err (Gap delivery.stream (position_of marks delivery.stream + 1) delivery.first)
    else marks_after (with_delivery marks delivery) deliveries

-- the marks, unless they are of more streams than a region takes
abbrev pub of_few_streams : Result Positions RoundFault → Result Positions RoundFault
of_few_streams (Ok marks) = if nat_lt MAX_STREAMS (length marks) then Err TooManyStreams else Ok marks
of_few_streams (Err fault) = Err fault

-- the new marks of a round, or why it is refused
abbrev pub new_marks : Positions → List DeliveryValue → Result Positions RoundFault
new_marks marks deliveries = of_few_streams (marks_after marks (with_images deliveries))

-- the fault says that memory ran out
abbrev pub is_memory : RoundFault → Bool
is_memory Memory = true
is_memory _ = false

-- Regions after rounds.

-- the join for each tablet: the cells of the images in its range, and the new marks
abbrev pub joins : RegionValue → List DeliveryValue → Positions → List TabletOp
joins region deliveries marks = joins_of region.layout marks (all_images deliveries)

-- each tablet takes its join, and the marks are the new ones
abbrev pub after_joins : RegionValue → List DeliveryValue → Positions → RegionValue
after_joins region deliveries marks = record region { tablets = all_stepped region.tablets (joins region deliveries marks); marks = marks }

-- the region after a round, or why it is refused
abbrev pub round : RegionValue → List DeliveryValue → Result RegionValue RoundFault
round region deliveries = result_map_both (after_joins region deliveries) (λ fault. fault) (new_marks region.marks deliveries)

-- how many records differ in all tablets together
abbrev pub changed_count : RegionValue → RegionValue → ℕ
changed_count old new = length (changes (all_cells old) (all_cells new))

-- each tablet is as it was, or has taken its join if the round is not refused
abbrev pub IsHalfTaken : RegionValue → List DeliveryValue → RegionValue → Type 0
IsHalfTaken old deliveries new = (new.layout ≡ old.layout) × (new.marks ≡ old.marks)
    × MatchResult (new_marks old.marks deliveries)
    (λ marks. AreOldOrStepped old.tablets (joins old deliveries marks) new.tablets)
    (λ fault. new.tablets ≡ old.tablets)

-- after out of memory some tablets may have taken their joins; other faults change nothing
abbrev pub Leaves : RoundFault → RegionValue → List DeliveryValue → RegionValue → Type 0
Leaves Memory old deliveries new = IsHalfTaken old deliveries new
Leaves _ old deliveries new = new ≡ old
