-- How serving ends.
use Rattle.std.specs.Prelude.{◌≡◌, ◌⊎◌, ℕ, List, All, Contains, Option, Result, Ok, Err}
use Rattle.pn_stream.specs.Batches.{Stream}
use Rattle.pn_stream.specs.Brokers.{DeliveryValue}
use Rattle.pn_tablet.specs.Layouts.{Bounds}
use Rattle.pn_live.specs.LiveRegions.{LiveRegionValue, IsNewLive}
use Rattle.pn_serve.specs.Server.Reports.{names_of}
use Rattle.pn_serve.specs.Server.Events.{ReadToEnds, ReadUpTo}
use Rattle.pn_serve.specs.Server.Publishers.{IsTakenWhole}
use Rattle.pn_serve.specs.declared.server.fault_log.ServeFault.{ServeFault}
use Rattle.pn_serve.specs.declared.server.mailboxes.AtFault.TheVariants.{Stop}
use Rattle.pn_serve.specs.declared.server.fault_log.ServeFault.TheVariants.{Start, Stream as of_stream, Round, Close, Write}

-- where all deliveries are such
module _ (P : DeliveryValue → Type 0) {S : Type 0} (left : S → Option (List ℕ)) where
  -- a live region read all streams to their ends, and took each up to its last message
  pub record ReadsAll (streams : List (Stream S)) (old new : LiveRegionValue) : Type 0 where
    pub read : ReadToEnds P Stop (names_of streams) old new
    pub taken : All (IsTakenWhole left new.marks) streams

  -- what reading comes to: all streams are taken; or one of them is named, whose fault stopped the rounds, or which was not taken
  -- whole though all streams ended; or a round was refused; or nothing was begun
  abbrev pub EndsReading : List (Stream S) → LiveRegionValue → LiveRegionValue → Result (Unit {0}) ServeFault → Type 0
  EndsReading streams old new (Ok done) = ReadsAll streams old new
  EndsReading streams old new (Err (of_stream name)) = Contains (names_of streams) name
      × (ReadUpTo P Stop (names_of streams) old new (of_stream name) ⊎ ReadToEnds P Stop (names_of streams) old new)
  EndsReading streams old new (Err Round) = ReadUpTo P Stop (names_of streams) old new Round
  EndsReading streams old new (Err Start) = new ≡ old
  EndsReading streams old new (Err Close) = ⊥
  EndsReading streams old new (Err Write) = ⊥

  -- a live region that is open came to another by reading
  pub record Serves (opened : LiveRegionValue) (streams : List (Stream S)) (reading : Result (Unit {0}) ServeFault) : Type 0 where
    pub closed : LiveRegionValue
    pub ends : EndsReading streams opened closed reading

  -- what serving comes to: out of memory while closing, and a write fault, come only after all streams are taken
  abbrev pub EndsServing : LiveRegionValue → List (Stream S) → Result (Unit {0}) ServeFault → Type 0
  EndsServing opened streams (Ok done) = Serves opened streams (Ok tt)
  EndsServing opened streams (Err Close) = Serves opened streams (Ok tt)
  EndsServing opened streams (Err Write) = Serves opened streams (Ok tt)
  EndsServing opened streams (Err fault) = Serves opened streams (Err fault)

  -- a new live region of a layout was served
  pub record ServesNew (layout : Bounds) (streams : List (Stream S)) (result : Result (Unit {0}) ServeFault) : Type 0 where
    pub opened : LiveRegionValue
    pub is_new : IsNewLive layout opened
    pub ends : EndsServing opened streams result

  -- what serving a new live region comes to: it was served, or none could be opened
  abbrev pub EndsServingNew : Bounds → List (Stream S) → Result (Unit {0}) ServeFault → Type 0
  EndsServingNew layout streams result = ServesNew layout streams result ⊎ (result ≡ Err Start)
