-- What holds of all that streams brought holds of weaker things too, and so of how serving ends.
use Rattle.std.proofs.Common.{ℕ, List, [], ◌∷◌, Option, None, Some, inl, inr}
use Rattle.std.specs.Prelude.{Result, Ok, Err}
use Rattle.std.specs.List.{All, AllByRecursion}
use Rattle.std.proofs.lemmas.List.Elements.{All-contains, All-weaker}
use Rattle.pn_tablet.specs.Layouts.{Bounds, IsLayout}
use Rattle.pn_stream.specs.Brokers.{AreHonest, BrokerRecord, IsHonest, DeliveryValue}
use Rattle.pn_stream.specs.Batches as batches
use Rattle.pn_region.specs.Events.{RegionEvent, AreHonestEvents}
use Rattle.pn_live.specs.LiveRegions.{IsNewLive, LiveRegionValue}
use Rattle.pn_serve.specs.Control.Commands.{event_by, with_event}
use Rattle.pn_serve.specs.Server.Events.{BringAll, ReadsBesides, RunsEvents, RunsOn, WriterEvent, gathered, tried, taken, told, AdoptsHonestly, DidHonestly, TookHonestly, region_events, AreOfStreams, ReadToEnds, ReadsStreams, RunsRounds}
use Rattle.pn_serve.specs.Server.Rounds.{RoundInputValue, StopsAt}
use Rattle.pn_serve.specs.declared.server.events.ReadingEnd.{ReadingEnd}
use Rattle.pn_serve.specs.declared.server.fault_log.ServeFault.{ServeFault}
use Rattle.pn_serve.specs.declared.server.fault_log.ServeFault.TheVariants.{Start, Stream, Round, Close, Write}
use Rattle.pn_serve.specs.declared.server.mailboxes.AtFault.{AtFault}
use Rattle.pn_serve.specs.declared.server.mailboxes.AtFault.TheVariants.{GoOn, Stop}
use Rattle.pn_serve.specs.Server.Reports.{names_of}
use Rattle.pn_serve.specs.Server.Served.{EndsReading, EndsServing, Serves}

-- What holds of all that streams brought holds of weaker things too; where it is honest, and so are adopted copies, events are.

-- ---- weaker things

module _ (P Q : DeliveryValue → Type 0) (each : (delivery : DeliveryValue) → P delivery → Q delivery) where
  brings_on : (events : List WriterEvent) → BringAll P events → BringAll Q events
  brings_on [] brought = tt
  brings_on (gathered input ∷ later) brought = (All-weaker P Q each input.deliveries brought.0, brings_on later brought.1)
  brings_on (tried input ∷ later) brought = (All-weaker P Q each input.deliveries brought.0, brings_on later brought.1)
  brings_on (taken input ∷ later) brought = (All-weaker P Q each input.deliveries brought.0, brings_on later brought.1)
  brings_on (told asked said ∷ later) brought = (tt, brings_on later brought.1)

  stops_on : (at_fault : AtFault) (names : List (List ℕ)) (waiting : Option RoundInputValue) (old new : LiveRegionValue) (fault : ServeFault) → StopsAt P at_fault names waiting old new fault
      → StopsAt Q at_fault names waiting old new fault
  stops_on at_fault names waiting old new fault (inl stops) =
      inl (stops.0, stops.1, record { next = stops.2.next; takes = stops.2.takes; brought = All-weaker P Q each stops.0.deliveries stops.2.brought })
  stops_on at_fault names waiting old new fault (inr stops) = inr stops

  runs_on : (at_fault : AtFault) (names : List (List ℕ)) (old new : LiveRegionValue) (read : Result ReadingEnd ServeFault) → RunsEvents P at_fault names old new read → RunsEvents Q at_fault names old new read
  runs_on at_fault names old new (Ok end) ran = record { events = ran.events; left = ran.left; waits = ran.waits; done = ran.done; brought = brings_on ran.events ran.brought; ended = ran.ended }
  runs_on at_fault names old new (Err fault) ran = record {
    events = ran.events;
    last = ran.last;
    still = ran.still;
    waiting = ran.waiting;
    done = ran.done;
    brought = brings_on ran.events ran.brought;
    stops = stops_on at_fault ran.still ran.waiting ran.last new fault ran.stops;
  }

  -- streams that were read beside commands
  pub besides_on : (names : List (List ℕ)) (old new : LiveRegionValue) (read : Result ReadingEnd ServeFault) → ReadsBesides P names old new read → ReadsBesides Q names old new read
  besides_on names old new (Ok end) ran = runs_on GoOn names old new (Ok end) ran
  besides_on names old new (Err Start) same = same
  besides_on names old new (Err (Stream name)) ran = runs_on GoOn names old new (Err (Stream name)) ran
  besides_on names old new (Err Round) ran = runs_on GoOn names old new (Err Round) ran
  besides_on names old new (Err Close) ran = runs_on GoOn names old new (Err Close) ran
  besides_on names old new (Err Write) ran = runs_on GoOn names old new (Err Write) ran

  -- rounds of streams alone
  pub rounds_on : {T : Type 0} (at_fault : AtFault) (names : List (List ℕ)) (old new : LiveRegionValue) (read : Result T ServeFault) → RunsRounds P at_fault names old new read → RunsRounds Q at_fault names old new read
  rounds_on at_fault names old new (Ok done) ran = record { events = ran.events; alone = ran.alone; done = ran.done; brought = brings_on ran.events ran.brought }
  rounds_on at_fault names old new (Err fault) ran = record {
    events = ran.events;
    alone = ran.alone;
    last = ran.last;
    still = ran.still;
    waiting = ran.waiting;
    done = ran.done;
    brought = brings_on ran.events ran.brought;
    stops = stops_on at_fault ran.still ran.waiting ran.last new fault ran.stops;
  }

  -- streams that were read alone
  pub streams_on : {T : Type 0} (names : List (List ℕ)) (old new : LiveRegionValue) (read : Result T ServeFault) → ReadsStreams P names old new read → ReadsStreams Q names old new read
  streams_on {T} names old new (Ok done) ran = rounds_on {T = T} GoOn names old new (Ok done) ran
  streams_on {T} names old new (Err Start) same = same
  streams_on {T} names old new (Err (Stream name)) ran = rounds_on {T = T} GoOn names old new (Err (Stream name)) ran
  streams_on {T} names old new (Err Round) ran = rounds_on {T = T} GoOn names old new (Err Round) ran
  streams_on {T} names old new (Err Close) ran = rounds_on {T = T} GoOn names old new (Err Close) ran
  streams_on {T} names old new (Err Write) ran = rounds_on {T = T} GoOn names old new (Err Write) ran

-- ---- honest events

module _ (broker : BrokerRecord) where
  as_honest : (deliveries : List DeliveryValue) → All (IsHonest broker) deliveries → AreHonest broker deliveries
  as_honest deliveries all delivery there = All-contains (IsHonest broker) deliveries delivery all there

  one_more : (event : Option RegionEvent) (later : List RegionEvent) → AreHonestEvents broker (with_event event []) → AreHonestEvents broker later → AreHonestEvents broker (with_event event later)
  one_more None later first honest = honest
  one_more (Some event) later first honest = (first.0, honest)

  -- events are honest whose deliveries and adopted copies are
  pub honest_events : (events : List WriterEvent) → BringAll (IsHonest broker) events → AllByRecursion (AdoptsHonestly broker) events → AreHonestEvents broker (region_events events)
  honest_events [] brought adopted = tt
  honest_events (gathered input ∷ later) brought adopted = honest_events later brought.1 adopted.1
  honest_events (tried input ∷ later) brought adopted = honest_events later brought.1 adopted.1
  honest_events (taken input ∷ later) brought adopted = (as_honest input.deliveries brought.0, honest_events later brought.1 adopted.1)
  honest_events (told asked said ∷ later) brought adopted = one_more (event_by asked said) (region_events later) adopted.0 (honest_events later brought.1 adopted.1)

  -- streams alone adopt no copies
  pub none_adopted : (events : List WriterEvent) → AreOfStreams events → AllByRecursion (AdoptsHonestly broker) events
  none_adopted [] alone = tt
  none_adopted (gathered input ∷ later) alone = (tt, none_adopted later alone.1)
  none_adopted (tried input ∷ later) alone = (tt, none_adopted later alone.1)
  none_adopted (taken input ∷ later) alone = (tt, none_adopted later alone.1)
  none_adopted (told asked said ∷ later) alone = absurd alone.0

-- a new live region that read streams alone took honest deliveries
pub took_honestly : (broker : BrokerRecord) (bounds : Bounds) (at_fault : AtFault) (names : List (List ℕ)) (opened live : LiveRegionValue) → IsLayout bounds → IsNewLive bounds opened
    → ReadToEnds (IsHonest broker) at_fault names opened live → TookHonestly broker live
took_honestly broker bounds at_fault names opened live lawful is_new read = record {
  did = record {
    bounds = bounds;
    lawful = lawful;
    opened = opened;
    is_new = is_new;
    at_fault = at_fault;
    names = names;
    events = read.events;
    left = [];
    waits = None;
    done = read.done;
    honest = honest_events broker read.events read.brought (none_adopted broker read.events read.alone);
  };
  alone = read.alone;
}

-- so did one that read them beside commands, if adopted copies are honest
pub did_honestly : (broker : BrokerRecord) (bounds : Bounds) (at_fault : AtFault) (names : List (List ℕ)) (opened live : LiveRegionValue) (end : ReadingEnd) (ran : RunsOn (IsHonest broker) at_fault names opened live end)
    → IsLayout bounds → IsNewLive bounds opened → AllByRecursion (AdoptsHonestly broker) ran.events → DidHonestly broker live
did_honestly broker bounds at_fault names opened live end ran lawful is_new adopted = record {
  bounds = bounds;
  lawful = lawful;
  opened = opened;
  is_new = is_new;
  at_fault = at_fault;
  names = names;
  events = ran.events;
  left = ran.left;
  waits = ran.waits;
  done = ran.done;
  honest = honest_events broker ran.events ran.brought adopted;
}

-- How serving ends, where all that streams brought is such, ends so too where it is of a weaker kind.

module _ (P Q : DeliveryValue → Type 0) (each : (delivery : DeliveryValue) → P delivery → Q delivery) {S : Type 0} (left : S → Option (List ℕ)) (streams : List (batches.Stream S)) where
  reading_on : (old new : LiveRegionValue) (reading : Result (Unit {0}) ServeFault) → EndsReading P left streams old new reading → EndsReading Q left streams old new reading
  reading_on old new (Ok done) ends = record { read = rounds_on P Q each {T = Unit {0}} Stop (names_of streams) old new (Ok tt) ends.read; taken = ends.taken }
  reading_on old new (Err (Stream name)) ends = (
    ends.0,
    elim ends.1 [
      | inl up_to ↦ inl (rounds_on P Q each {T = Unit {0}} Stop (names_of streams) old new (Err (Stream name)) up_to)
      | inr to_ends ↦ inr (rounds_on P Q each {T = Unit {0}} Stop (names_of streams) old new (Ok tt) to_ends)
    ],
  )
  reading_on old new (Err Round) ends = rounds_on P Q each {T = Unit {0}} Stop (names_of streams) old new (Err Round) ends
  reading_on old new (Err Start) same = same
  reading_on old new (Err Close) ends = absurd ends
  reading_on old new (Err Write) ends = absurd ends

  serves_on : (opened : LiveRegionValue) (reading : Result (Unit {0}) ServeFault) → Serves P left opened streams reading → Serves Q left opened streams reading
  serves_on opened reading serves = record { closed = serves.closed; ends = reading_on opened serves.closed reading serves.ends }

  pub serving_on : (opened : LiveRegionValue) (result : Result (Unit {0}) ServeFault) → EndsServing P left opened streams result → EndsServing Q left opened streams result
  serving_on opened (Ok done) serves = serves_on opened (Ok tt) serves
  serving_on opened (Err Close) serves = serves_on opened (Ok tt) serves
  serving_on opened (Err Write) serves = serves_on opened (Ok tt) serves
  serving_on opened (Err Start) serves = serves_on opened (Err Start) serves
  serving_on opened (Err (Stream name)) serves = serves_on opened (Err (Stream name)) serves
  serving_on opened (Err Round) serves = serves_on opened (Err Round) serves
