-- Rounds of what streams gave, one after another, each tried again where memory ran out.
use Rattle.std.specs.Prelude.{◌≤◌, length, ◌≡◌, ◌⊎◌, ℕ, ◌+◌, Bool, true, false, List, All, Option, None, Some, Result, Ok, Err, not, if◌then◌else◌, [], ◌∷◌, ◌++◌, map, IfSome}
use Rattle.pn_join.specs.Marks.{Positions, position_of}
use Rattle.pn_tablet.specs.Steps.{Refuses}
use Rattle.pn_stream.specs.Brokers.{DeliveryValue}
use Rattle.pn_region.specs.Log.{refused_log, with_break, with_notices}
use Rattle.pn_region.specs.Rounds.{is_memory, round}
use Rattle.pn_region.specs.declared.fault.RoundFault.{RoundFault}
use Rattle.pn_region.specs.declared.fault.RoundFault.TheVariants.{Gap, TooManyStreams, Memory}
use Rattle.pn_live.specs.LiveRegions.{LiveRegionValue, core, tablets_after_round}
use Rattle.pn_serve.specs.declared.server.fault_log.ServeFault.{ServeFault}
use Rattle.pn_serve.specs.declared.server.fault_log.ServeFault.TheVariants.{Stream, Round}
use Rattle.pn_serve.specs.declared.server.mailboxes.AtFault.{AtFault}
use Rattle.pn_serve.specs.declared.server.mailboxes.AtFault.TheVariants.{Stop, GoOn}
use Rattle.pn_serve.specs.Server.Messages.{FitRound}
use Rattle.pn_serve.specs.Server.Reports.{name_in, messages_of, is_fault, ends}
use Rattle.pn_serve.specs.declared.server.reports.Report.{Report}
use Rattle.pn_serve.specs.declared.server.rounds.RoundInput.{RoundInput}

-- Rounds of what streams gave, one after another.

-- what streams gave for one round: their messages, and the first stream that has a fault
pub record RoundInputValue : Type 0 where
  pub deliveries : List DeliveryValue
  pub fault : Option (List ℕ)

-- the delivery begins at most one past what was taken of its stream
abbrev pub Continues : Positions → DeliveryValue → Type 0
Continues marks delivery = delivery.first ≤ position_of marks delivery.stream + 1

-- 1 to 1,000 messages of each of at most this many streams, which continue what was taken
pub record CanBeTaken (streams : ℕ) (marks : Positions) (input : RoundInputValue) : Type 0 where
  pub fit : All FitRound input.deliveries
  pub few : length input.deliveries ≤ streams
  pub continues : All (Continues marks) input.deliveries

-- the live region took the round
pub record IsRoundTaken (old : LiveRegionValue) (deliveries : List DeliveryValue) (new : LiveRegionValue) : Type 0 where
  pub taken : round (core old) deliveries ≡ Ok (core new)
  pub published : new.tablets ≡ tablets_after_round old deliveries new.marks
  pub noted : new.log ≡ with_notices old.log (core old) (core new)

-- the fault is no gap
abbrev pub IsNoGap : RoundFault → Type 0
IsNoGap (Gap stream wanted got) = ⊥
IsNoGap TooManyStreams = Unit {0}
IsNoGap Memory = Unit {0}

-- memory ran out for a round that is tried again: nothing was published, and the log has a break
abbrev pub IsRoundTried : LiveRegionValue → LiveRegionValue → Type 0
IsRoundTried old new = new ≡ record old { log = with_break old.log }

-- the fault ends the reading: where a stream's fault ends that stream alone, memory is waited for
abbrev pub Lasts : AtFault → RoundFault → Type 0
Lasts Stop fault = Unit {0}
Lasts GoOn (Gap stream wanted got) = Unit {0}
Lasts GoOn TooManyStreams = Unit {0}
Lasts GoOn Memory = ⊥

-- the live region refused the round: there were too many streams, or memory ran out where that is not waited for
pub record IsRoundRefused (at_fault : AtFault) (old : LiveRegionValue) (deliveries : List DeliveryValue) (new : LiveRegionValue) : Type 0 where
  pub fault : RoundFault
  pub no_gap : IsNoGap fault
  pub lasts : Lasts at_fault fault
  pub refused : Refuses is_memory fault (round (core old) deliveries)
  pub left : new ≡ record old { log = refused_log old.log fault }

-- what comes of a try that had this fault
abbrev pub ends_try : RoundFault → Result Bool ServeFault
ends_try Memory = Ok false
ends_try TooManyStreams = Err Round
ends_try (Gap stream wanted got) = Err Round

-- how a try of a round ends where memory is waited for: it was taken; or memory ran out; or it is refused
abbrev pub TriesRound : LiveRegionValue → List DeliveryValue → LiveRegionValue → Result Bool ServeFault → Type 0
TriesRound old deliveries new (Ok true) = IsRoundTaken old deliveries new
TriesRound old deliveries new (Ok false) = IsRoundTried old new
TriesRound old deliveries new (Err fault) = (fault ≡ Round) × IsRoundRefused GoOn old deliveries new

-- the stream with a fault, if that stops all streams
abbrev pub stopping : AtFault → Option (List ℕ) → Option (List ℕ)
stopping Stop fault = fault
stopping GoOn fault = None

-- the round was run, and the fault of a stream that stops all outranks the round's
abbrev pub TakesInput : AtFault → RoundInputValue → LiveRegionValue → LiveRegionValue → Result (Unit {0}) ServeFault → Type 0
TakesInput at_fault input old new (Ok done) = (stopping at_fault input.fault ≡ None) × IsRoundTaken old input.deliveries new
TakesInput at_fault input old new (Err (Stream name)) =
    (stopping at_fault input.fault ≡ Some name) × (IsRoundTaken old input.deliveries new ⊎ IsRoundRefused at_fault old input.deliveries new)
TakesInput at_fault input old new (Err Round) = (stopping at_fault input.fault ≡ None) × IsRoundRefused at_fault old input.deliveries new
TakesInput at_fault input old new (Err fault) = ⊥

-- What the mailboxes of streams gave for one round.

-- what the mailbox of a stream gave: the stream's name, and its report if there was one
pub record Note : Type 0 where
  pub name : List ℕ
  pub report : Option Report

-- the report, if there is one, is the stream's own
abbrev pub IsOwn : Note → Type 0
IsOwn note = IfSome note.report (λ report. name_in report ≡ note.name)

-- the reports for one round, as a value
abbrev pub value_of : RoundInput → RoundInputValue
value_of input = record { deliveries = input.deliveries.items; fault = input.fault }

-- no report
abbrev pub no_input : RoundInputValue
no_input = record { deliveries = []; fault = None }

-- the name of the first stream with a fault: that of before, or of the stream of this name if it has one
abbrev pub first_fault : Option (List ℕ) → List ℕ → Bool → Option (List ℕ)
first_fault (Some before) name has_fault = Some before
first_fault None name has_fault = if has_fault then Some name else None

-- the reports with that of the stream of this name, if it has one
abbrev pub with_report : Positions → RoundInputValue → List ℕ → Option Report → RoundInputValue
with_report marks input name None = input
with_report marks input name (Some report) = record {
  deliveries = input.deliveries ++ messages_of marks report;
  fault = first_fault input.fault name (is_fault marks report);
}

-- the reports with all of these notes
abbrev pub with_notes : Positions → RoundInputValue → List Note → RoundInputValue
with_notes marks input [] = input
with_notes marks input (note ∷ notes) = with_notes marks (with_report marks input note.name note.report) notes

-- whether a stream goes on after what it gave
abbrev pub goes_on : Positions → Option Report → Bool
goes_on marks None = true
goes_on marks (Some report) = not (ends marks report)

-- the names of the streams that go on
abbrev pub still_read : Positions → List Note → List (List ℕ)
still_read marks [] = []
still_read marks (note ∷ notes) = if goes_on marks note.report then note.name ∷ still_read marks notes else still_read marks notes

-- the reports are what the mailboxes of the streams of these names gave over these marks, each asked once, in order; and these
-- streams go on
pub record IsInputOf (names : List (List ℕ)) (marks : Positions) (input : RoundInputValue) (left : List (List ℕ)) : Type 0 where
  pub notes : List Note
  pub of_streams : map (λ note. note.name) notes ≡ names
  pub own : All IsOwn notes
  pub together : input ≡ with_notes marks no_input notes
  pub going_on : left ≡ still_read marks notes

-- A round of what streams gave, which is tried again where memory ran out.

-- the input that waits for memory, if one does, as a value
abbrev pub waiting_value : Option RoundInput → Option RoundInputValue
waiting_value None = None
waiting_value (Some input) = Some (value_of input)

-- the input of the next round: the one that waits; or what these streams gave over the marks, which can be taken; these streams go on
abbrev pub IsNextInput : List (List ℕ) → Option RoundInputValue → Positions → RoundInputValue → List (List ℕ) → Type 0
IsNextInput names None marks input left = IsInputOf names marks input left × CanBeTaken (length names) marks input
IsNextInput names (Some waiting) marks input left = (input ≡ waiting) × (left ≡ names)

-- how a round of an input ends: the input was taken; or memory ran out, and it is given back; or a fault
abbrev pub RunsInput : AtFault → RoundInputValue → LiveRegionValue → LiveRegionValue → Result (Option RoundInput) ServeFault → Type 0
RunsInput at_fault input old new (Ok None) = TakesInput at_fault input old new (Ok tt)
RunsInput at_fault input old new (Ok (Some back)) = (at_fault ≡ GoOn) × (value_of back ≡ input) × IsRoundTried old new
RunsInput at_fault input old new (Err fault) = TakesInput at_fault input old new (Err fault)

module _ (P : DeliveryValue → Type 0) where
  -- the next input, whose deliveries are all such, was taken so; these streams go on
  pub record RunsRound (at_fault : AtFault) (names : List (List ℕ)) (waiting : Option RoundInputValue) (old : LiveRegionValue) (input : RoundInputValue) (left : List (List ℕ)) (new : LiveRegionValue) (run : Result (Unit {0}) ServeFault) : Type 0 where
    pub next : IsNextInput names waiting old.marks input left
    pub takes : TakesInput at_fault input old new run
    pub brought : All P input.deliveries

  -- there was no memory to ask the streams, and nothing changed; or the next input waits, whose round was tried
  abbrev pub Waits : List (List ℕ) → Option RoundInputValue → LiveRegionValue → List (List ℕ) → Option RoundInputValue → LiveRegionValue → Type 0
  Waits names waiting old left waits new = ((waiting ≡ None) × (left ≡ names) × (waits ≡ None) × (new ≡ old))
      ⊎ ((input : RoundInputValue) × IsNextInput names waiting old.marks input left × (waits ≡ Some input) × IsRoundTried old new × All P input.deliveries)

  -- the next round has this fault; or there was no memory to ask the streams, which ends the reading where a stream's fault does
  abbrev pub StopsAt : AtFault → List (List ℕ) → Option RoundInputValue → LiveRegionValue → LiveRegionValue → ServeFault → Type 0
  StopsAt at_fault names waiting old new fault =
      ((input : RoundInputValue) × (left : List (List ℕ)) × RunsRound at_fault names waiting old input left new (Err fault)) ⊎ ((at_fault ≡ Stop) × (fault ≡ Round) × (new ≡ old))

  -- the next round went well; or it waits for memory; or it has this fault
  abbrev pub TakesRound : AtFault → List (List ℕ) → Option RoundInputValue → LiveRegionValue → List (List ℕ) → Option RoundInputValue → LiveRegionValue → Result Bool ServeFault → Type 0
  TakesRound at_fault names waiting old left waits new (Ok true) = (input : RoundInputValue) × RunsRound at_fault names waiting old input left new (Ok tt) × (waits ≡ None)
  TakesRound at_fault names waiting old left waits new (Ok false) = (at_fault ≡ GoOn) × Waits names waiting old left waits new
  TakesRound at_fault names waiting old left waits new (Err fault) = StopsAt at_fault names waiting old new fault
