-- Reports of the threads of streams, what their mailboxes hold, the marks that are shown, and which streams faults name.
use Rattle.std.specs.Prelude.{ℕ, Bool, true, false, List, [], ◌∷◌, if◌then◌else◌, ◌≡◌, map, Contains}
use Rattle.pn_join.specs.Marks.{Positions}
use Rattle.pn_join.specs.Prelude.{position_of}
use Rattle.pn_stream.specs.Brokers.{DeliveryValue}
use Rattle.pn_stream.specs.Batches as batches
use Rattle.pn_region.specs.Rounds.{leaves_gap}
use Rattle.pn_serve.specs.declared.server.reports.Report.{Report}
use Rattle.pn_serve.specs.declared.server.reports.Report.TheVariants.{Messages, End, Fault}
use Rattle.pn_serve.specs.declared.server.held_report.HeldReport.{HeldReport}
use Rattle.pn_serve.specs.declared.server.held_report.HeldReport.TheVariants.{Nothing, Left, Closed}
use Rattle.pn_serve.specs.declared.server.fault_log.ServeFault.{ServeFault}
use Rattle.pn_serve.specs.declared.server.fault_log.ServeFault.TheVariants.{Start, Stream, Round, Close, Write}

-- Reports of the threads of streams.

-- the name of the stream whose report it is
abbrev pub name_in : Report → List ℕ
name_in (Messages messages) = messages.delivery.stream
name_in (End name) = name
name_in (Fault name) = name

-- the messages of a report that continue what was taken of their stream
abbrev pub messages_of : Positions → Report → List DeliveryValue
messages_of marks (Messages messages) = if leaves_gap marks messages.delivery then [] else messages.delivery ∷ []
messages_of marks (End name) = []
messages_of marks (Fault name) = []

-- whether the report is a fault, or has messages that leave a gap
abbrev pub is_fault : Positions → Report → Bool
is_fault marks (Messages messages) = leaves_gap marks messages.delivery
is_fault marks (End name) = false
is_fault marks (Fault name) = true

-- whether the report ends its stream
abbrev pub ends : Positions → Report → Bool
ends marks (Messages messages) = leaves_gap marks messages.delivery
ends marks (End name) = true
ends marks (Fault name) = true

-- What the mailbox of a stream holds.

-- whether it holds a report
abbrev pub is_left : HeldReport → Bool
is_left Nothing = false
is_left (Left report) = true
is_left Closed = false

-- whether it is closed
abbrev pub is_closed : HeldReport → Bool
is_closed Nothing = false
is_closed (Left report) = false
is_closed Closed = true

-- Marks that the thread of rounds shows to others.

-- these marks have come to this position of the stream of this name
pub record IsMark (position : ℕ) : Type 0 where
  pub marks : Positions
  pub name : List ℕ
  pub is : position ≡ position_of marks name

-- the position was a mark of a stream
abbrev pub IsShown : ℕ → Type 0
IsShown position = ∥ IsMark position ∥₁

-- Which streams faults name.

-- the names of streams
abbrev pub names_of : {S : Type 0} → List (batches.Stream S) → List (List ℕ)
names_of streams = map (λ stream. stream.name) streams

-- the fault names one of these streams
abbrev pub NamesOne : List (List ℕ) → ServeFault → Type 0
NamesOne names (Stream name) = Contains names name
NamesOne names Start = ⊥
NamesOne names Round = ⊥
NamesOne names Close = ⊥
NamesOne names Write = ⊥

-- the fault is of a round, or names one of these streams
abbrev pub IsOfRounds : List (List ℕ) → ServeFault → Type 0
IsOfRounds names Round = Unit {0}
IsOfRounds names (Stream name) = Contains names name
IsOfRounds names Start = ⊥
IsOfRounds names Close = ⊥
IsOfRounds names Write = ⊥
