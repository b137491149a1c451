-- Messages for a round.
use Rattle.std.specs.Prelude.{◌≤◌, length}
use Rattle.pn_stream.specs.Brokers.{DeliveryValue}
use Rattle.pn_stream.specs.declared.reader.TheConstants.{MAX_MESSAGES}

-- 1 to 1,000 messages of a stream
abbrev pub FitRound : DeliveryValue → Type 0
FitRound delivery = (1 ≤ length delivery.images) × (length delivery.images ≤ MAX_MESSAGES)
