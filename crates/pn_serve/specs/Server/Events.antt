-- What the writer of a live region does one after another, for streams and for control sessions, as events of the region.
use Rattle.std.specs.Prelude.{◌≡◌, List, ◌≢◌, ℕ, [], ◌∷◌, Option, None, Some, Result, Ok, Err}
use Rattle.std.specs.List.{All, AllByRecursion}
use Rattle.pn_tablet.specs.Layouts.{Bounds, IsLayout}
use Rattle.pn_stream.specs.Brokers.{DeliveryValue, BrokerRecord}
use Rattle.pn_region.specs.Events.{RegionEvent, round, AreHonestEvents}
use Rattle.pn_live.specs.Readers.{LiveReaderValue, Tablets, tablets_of}
use Rattle.pn_live.specs.LiveRegions.{LiveRegionValue, IsNewLive}
use Rattle.pn_serve.specs.Control.Commands.{ObeysLive, Said, event_by, with_event}
use Rattle.pn_serve.specs.declared.control.commands.WriterCommand.{WriterCommand}
use Rattle.pn_serve.specs.Server.Rounds.{RoundInputValue, IsRoundTried, TakesInput, IsNextInput, StopsAt}
use Rattle.pn_serve.specs.declared.server.events.ReadingEnd.{ReadingEnd}
use Rattle.pn_serve.specs.declared.server.events.ReadingEnd.TheVariants.{StreamsEnded, Stopped}
use Rattle.pn_serve.specs.declared.server.fault_log.ServeFault.{ServeFault}
use Rattle.pn_serve.specs.declared.server.fault_log.ServeFault.TheVariants.{Start}
use Rattle.pn_serve.specs.declared.server.mailboxes.AtFault.{AtFault}
use Rattle.pn_serve.specs.declared.server.mailboxes.AtFault.TheVariants.{GoOn}

-- The readers that sessions are given.

-- all read these tablets
abbrev pub AllRead : Tablets → List LiveReaderValue → Type 0
AllRead tablets readers = All (λ reader. tablets_of reader ≡ tablets) readers

-- What the writer of a live region does one after another.

-- streams gave an input; memory ran out for a round of it; the round was taken; or a command and its answer
pub data WriterEvent : Type 0 where
  gathered : RoundInputValue → WriterEvent
  tried : RoundInputValue → WriterEvent
  taken : RoundInputValue → WriterEvent
  told : WriterCommand → Said → WriterEvent

-- these events came one after another. An input is asked of the streams that still go on once none waits; it waits until it is
-- taken, and none is dropped; tries of it come only where memory is waited for. These streams go on, and this input waits then
abbrev pub AllDone : AtFault → List (List ℕ) → Option RoundInputValue → LiveRegionValue → List WriterEvent → List (List ℕ) → Option RoundInputValue → LiveRegionValue → Type 0
AllDone at_fault names waiting old [] left waits new = (left ≡ names) × (waits ≡ waiting) × (new ≡ old)
AllDone at_fault names waiting old (gathered input ∷ later) left waits new = (still : List (List ℕ)) × (waiting ≡ None) × (names ≢ [])
    × IsNextInput names None old.marks input still × AllDone at_fault still (Some input) old later left waits new
AllDone at_fault names waiting old (tried input ∷ later) left waits new = (between : LiveRegionValue) × (at_fault ≡ GoOn) × (waiting ≡ Some input)
    × IsRoundTried old between × AllDone at_fault names waiting between later left waits new
AllDone at_fault names waiting old (taken input ∷ later) left waits new = (between : LiveRegionValue) × (waiting ≡ Some input)
    × TakesInput at_fault input old between (Ok tt) × AllDone at_fault names None between later left waits new
AllDone at_fault names waiting old (told asked said ∷ later) left waits new = (between : LiveRegionValue)
    × ObeysLive old asked between said × AllDone at_fault names waiting between later left waits new

-- the event is a command
abbrev pub IsCommand : WriterEvent → Type 0
IsCommand (gathered input) = ⊥
IsCommand (tried input) = ⊥
IsCommand (taken input) = ⊥
IsCommand (told asked said) = Unit {0}

-- commands alone were done one after another, while these streams went on and this input waited, if one did
pub record ToldAll (at_fault : AtFault) (names : List (List ℕ)) (waiting : Option RoundInputValue) (old new : LiveRegionValue) : Type 0 where
  pub events : List WriterEvent
  pub alone : AllByRecursion IsCommand events
  pub done : AllDone at_fault names waiting old events names waiting new

-- commands alone came
abbrev pub RunsCommands : LiveRegionValue → LiveRegionValue → Type 0
RunsCommands old new = ToldAll GoOn [] None old new

-- where reading ends: no stream is left, and no input waits; or a stop was asked for
abbrev pub IsEnd : ReadingEnd → List (List ℕ) → Option RoundInputValue → Type 0
IsEnd StreamsEnded left waits = (left ≡ []) × (waits ≡ None)
IsEnd (Stopped asked) left waits = Unit {0}

-- where all deliveries are such
module _ (P : DeliveryValue → Type 0) where
  -- the deliveries of an event are such
  abbrev pub Brings : WriterEvent → Type 0
  Brings (gathered input) = All P input.deliveries
  Brings (tried input) = All P input.deliveries
  Brings (taken input) = All P input.deliveries
  Brings (told asked said) = Unit {0}

  -- so are those of all events
  abbrev pub BringAll : List WriterEvent → Type 0
  BringAll events = AllByRecursion Brings events

  -- events came until reading ended so
  pub record RunsOn (at_fault : AtFault) (names : List (List ℕ)) (old new : LiveRegionValue) (end : ReadingEnd) : Type 0 where
    pub events : List WriterEvent
    pub left : List (List ℕ)
    pub waits : Option RoundInputValue
    pub done : AllDone at_fault names None old events left waits new
    pub brought : BringAll events
    pub ended : IsEnd end left waits

  -- some events came, and the next round has this fault
  pub record RunsUpTo (at_fault : AtFault) (names : List (List ℕ)) (old new : LiveRegionValue) (fault : ServeFault) : Type 0 where
    pub events : List WriterEvent
    pub last : LiveRegionValue
    pub still : List (List ℕ)
    pub waiting : Option RoundInputValue
    pub done : AllDone at_fault names None old events still waiting last
    pub brought : BringAll events
    pub stops : StopsAt P at_fault still waiting last new fault

  -- events came, up to a fault if there is one
  abbrev pub RunsEvents : AtFault → List (List ℕ) → LiveRegionValue → LiveRegionValue → Result ReadingEnd ServeFault → Type 0
  RunsEvents at_fault names old new (Ok end) = RunsOn at_fault names old new end
  RunsEvents at_fault names old new (Err fault) = RunsUpTo at_fault names old new fault

  -- streams were read beside the commands of control sessions; none was read if their threads were refused
  abbrev pub ReadsBesides : List (List ℕ) → LiveRegionValue → LiveRegionValue → Result ReadingEnd ServeFault → Type 0
  ReadsBesides names old new (Err Start) = new ≡ old
  ReadsBesides names old new read = RunsEvents GoOn names old new read

-- All rounds of a live region that reads streams, without commands of control sessions.

-- the event is of streams, and no command
abbrev pub IsOfStreams : WriterEvent → Type 0
IsOfStreams (told asked said) = ⊥
IsOfStreams _ = Unit {0}

-- none of the events is a command
abbrev pub AreOfStreams : List WriterEvent → Type 0
AreOfStreams events = AllByRecursion IsOfStreams events

-- where all deliveries are such
module _ (P : DeliveryValue → Type 0) where
  -- every round went well in the end, until each stream had ended
  pub record ReadToEnds (at_fault : AtFault) (names : List (List ℕ)) (old new : LiveRegionValue) : Type 0 where
    pub events : List WriterEvent
    pub alone : AreOfStreams events
    pub done : AllDone at_fault names None old events [] None new
    pub brought : BringAll P events

  -- some rounds went well, and the next has this fault
  pub record ReadUpTo (at_fault : AtFault) (names : List (List ℕ)) (old new : LiveRegionValue) (fault : ServeFault) : Type 0 where
    pub events : List WriterEvent
    pub alone : AreOfStreams events
    pub last : LiveRegionValue
    pub still : List (List ℕ)
    pub waiting : Option RoundInputValue
    pub done : AllDone at_fault names None old events still waiting last
    pub brought : BringAll P events
    pub stops : StopsAt P at_fault still waiting last new fault

  -- all streams were read, or a fault came
  abbrev pub RunsRounds : {T : Type 0} → AtFault → List (List ℕ) → LiveRegionValue → LiveRegionValue → Result T ServeFault → Type 0
  RunsRounds at_fault names old new (Ok done) = ReadToEnds at_fault names old new
  RunsRounds at_fault names old new (Err fault) = ReadUpTo at_fault names old new fault

  -- all streams of these names were read, of which a fault ends one alone, or a round was refused; none was read if their threads
  -- were refused
  abbrev pub ReadsStreams : {T : Type 0} → List (List ℕ) → LiveRegionValue → LiveRegionValue → Result T ServeFault → Type 0
  ReadsStreams names old new (Err Start) = new ≡ old
  ReadsStreams names old new read = RunsRounds GoOn names old new read

-- Rounds of streams and commands of control sessions, one after another, as events of the region.

-- the events of the region that these are: each round, and each command that was done. A try that memory ran out for changes nothing
abbrev pub region_events : List WriterEvent → List RegionEvent
region_events [] = []
region_events (gathered input ∷ later) = region_events later
region_events (tried input ∷ later) = region_events later
region_events (taken input ∷ later) = round input.deliveries ∷ region_events later
region_events (told asked said ∷ later) = with_event (event_by asked said) (region_events later)

-- each copy that the command adopts is honest
abbrev pub AdoptsHonestly : BrokerRecord → WriterEvent → Type 0
AdoptsHonestly broker (gathered input) = Unit {0}
AdoptsHonestly broker (tried input) = Unit {0}
AdoptsHonestly broker (taken input) = Unit {0}
AdoptsHonestly broker (told asked said) = AreHonestEvents broker (with_event (event_by asked said) [])

-- a live region that took rounds and did commands since it was new, of which each brought what is honest
pub record DidHonestly (broker : BrokerRecord) (live : LiveRegionValue) : Type 0 where
  pub bounds : Bounds
  pub lawful : IsLayout bounds
  pub opened : LiveRegionValue
  pub is_new : IsNewLive bounds opened
  pub at_fault : AtFault
  pub names : List (List ℕ)
  pub events : List WriterEvent
  pub left : List (List ℕ)
  pub waits : Option RoundInputValue
  pub done : AllDone at_fault names None opened events left waits live
  pub honest : AreHonestEvents broker (region_events events)

-- one that did no commands: it took honest deliveries of streams alone
pub record TookHonestly (broker : BrokerRecord) (live : LiveRegionValue) : Type 0 where
  pub did : DidHonestly broker live
  pub alone : AreOfStreams did.events
