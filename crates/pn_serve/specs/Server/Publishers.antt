-- What the publishers of a stream give, read to its end, and which messages and reports are honest about it.
use Rattle.std.specs.Prelude.{◌≡◌, ℕ, ◌+◌, ◌≤◌, List, ◌++◌, length, Option, None, IfSome, Result, Ok, Err, ◌-◌, ◌<◌, pred, [], min, Some, ◌∷◌, slice_get}
use Rattle.std.specs.Coded.{Unit-prop}
use Rattle.std.proofs.Math.Logic.{∥∥₁_prop}
use Rattle.pn_line.specs.Line.{IsUnbroken}
use Rattle.pn_line.specs.Text.{text_of}
use Rattle.pn_join.specs.Marks.{Positions, position_of}
use Rattle.pn_join.specs.declared.marks.TheConstants.{LAST_POSITION}
use Rattle.pn_record.specs.declared.records.Image.{Image}
use Rattle.pn_stream.specs.Batches.{Stream, SoFar, Batch}
use Rattle.pn_stream.specs.Streams.{Run, NoLine, Stands}
use Rattle.pn_stream.specs.Brokers.{DeliveryValue, BrokerRecord}
use Rattle.pn_stream.specs.Calls.{Begins, Lacks, StandsFirst}
use Rattle.pn_stream.specs.declared.fault.ResumeFault.TheVariants.{Stream as OfStream}
use Rattle.pn_stream.specs.declared.fault.StreamFault.{StreamFault}
use Rattle.pn_stream.specs.declared.fault.StreamFault.TheVariants.{Failed}
use Rattle.pn_stream.specs.declared.reader.TheConstants.{MAX_MESSAGES}
use Rattle.pn_stream.specs.Messages.{IsMessageLine, Message}
use Rattle.pn_serve.specs.declared.server.reporting.StreamEnd.{StreamEnd}
use Rattle.pn_serve.specs.declared.server.reports.Report.{Report}
use Rattle.pn_serve.specs.declared.server.reports.Report.TheVariants.{Messages as Brought, End as AtEnd, Fault as AtFault}
use Rattle.pn_serve.specs.declared.server.publisher_input.Given.{Given}
use Rattle.pn_serve.specs.declared.server.publisher_input.Given.TheVariants.{Messages, Ended}
use Rattle.pn_serve.specs.declared.server.publishers.PublisherEnd.{PublisherEnd}
use Rattle.pn_serve.specs.declared.server.publishers.PublisherEnd.TheVariants.{End, Fault}
use Rattle.pn_serve.specs.declared.server.held_report.HeldReport.{HeldReport}
use Rattle.pn_serve.specs.declared.server.held_report.HeldReport.TheVariants.{Nothing, Left, Closed}

-- Streams that are read to their ends.

-- the text is messages in step after this position, up to this last one, and then no whole line
pub record IsAllMessages (position : ℕ) (text : List ℕ) (last : ℕ) : Type 0 where
  pub images : List Image
  pub rest : List ℕ
  pub run : Run position text images rest
  pub last_is : last ≡ position + length images
  pub no_line : NoLine rest

-- no fault waits in the stream, and none comes before its end, after this last position, if its text is known
abbrev pub IsWholeTo : {S : Type 0} → (S → Option (List ℕ)) → Stream S → ℕ → Type 0
IsWholeTo left stream last = (stream.fault ≡ None) × IfSome (left stream.source) (λ text. IsAllMessages stream.position (stream.part ++ text) last)

-- the stream was read to its end, and this is its end, or it is named
abbrev pub EndsStream : {S : Type 0} → (S → Option (List ℕ)) → Stream S → Result StreamEnd (List ℕ) → Type 0
EndsStream left stream (Ok end) = (end.name ≡ stream.name) × IsWholeTo left stream end.last
EndsStream left stream (Err name) = name ≡ stream.name

-- the stream is whole, and the marks reach its last position
pub record IsTakenWhole {S : Type 0} (left : S → Option (List ℕ)) (marks : Positions) (stream : Stream S) : Type 0 where
  pub last : ℕ
  pub whole : IsWholeTo left stream last
  pub reached : last ≤ position_of marks stream.name

-- messages of the text were read up to this position, and this is left
pub record IsReadUpTo (position : ℕ) (text : List ℕ) (last : ℕ) (part : List ℕ) (left : Option (List ℕ)) : Type 0 where
  pub images : List Image
  pub read : SoFar position text images part left
  pub last_is : last ≡ position + length images

-- What the publishers of a stream give.

-- a new reader of the stream of this name after this position, with no part of a line
abbrev pub IsReaderFrom : {S : Type 0} → List ℕ → ℕ → Stream S → Type 0
IsReaderFrom name last reader = (reader.name ≡ name) × (reader.position ≡ last) × (reader.part ≡ []) × (reader.fault ≡ None)

-- the number of the line after the messages up to this position, of which the first came after the position before
abbrev pub line_after : Option ℕ → ℕ → ℕ
line_after None position = 1
line_after (Some before) position = position - before + 1

-- the delivery of these images at the next positions of the stream
abbrev pub next_delivery : {S : Type 0} → Stream S → DeliveryValue → DeliveryValue
next_delivery stream delivery = record { stream = stream.name; first = min (stream.position + 1) LAST_POSITION; images = delivery.images }

-- what comes next is right for what the source has left: the next messages; no whole line; or a fault that stands there
abbrev pub GivesNext : {S : Type 0} → (S → Option (List ℕ)) → ℕ → Stream S → Given → Stream S → Type 0
GivesNext left before old (Messages messages) new = (old.fault ≡ None) × (messages.delivery ≡ next_delivery old messages.delivery)
    × (new.position ≡ old.position + length messages.delivery.images)
    × IfSome (left old.source) (λ text. Batch 1 MAX_MESSAGES old.position (old.part ++ text) messages.delivery.images new.fault new.part (left new.source))
GivesNext left before old (Ended End) new = (old.fault ≡ None) × (new.fault ≡ None) × (new.position ≡ old.position)
    × IfSome (left old.source) (λ text. Batch 1 MAX_MESSAGES old.position (old.part ++ text) [] None new.part (left new.source))
GivesNext left before old (Ended (Fault fault position line)) new = (new.fault ≡ Some Failed) × (new.position ≡ old.position)
    × (position ≡ old.position + 1) × (line ≡ line_after (Some before) old.position)
    × ((reason : StreamFault) × (fault ≡ OfStream reason) × (old.fault ≡ None → IfSome (left old.source) (λ text. Stands (old.position + 1) (old.part ++ text) reason)))

-- what comes first is right for what the source has left: the first message, at most one past the reader's position; no whole
-- line; or a fault that stands there
abbrev pub GivesFirst : {S : Type 0} → (S → Option (List ℕ)) → Stream S → Given → Option ℕ → Stream S → Type 0
GivesFirst left old (Messages messages) now new = (old.fault ≡ None) × (now ≡ Some (pred new.position)) × Begins left old new messages.delivery
GivesFirst left old (Ended End) now new = (old.fault ≡ None) × (now ≡ None) × Lacks left old new
GivesFirst left old (Ended (Fault fault position line)) now new = (now ≡ None) × (new.fault ≡ Some Failed) × (new.position ≡ old.position)
    × (position ≡ old.position + 1) × (line ≡ 1)
    × (old.fault ≡ None → IfSome (left old.source) (λ text. StandsFirst (old.position + 1) (old.part ++ text) fault))

-- what a publisher gives, where the position before its first message is known, and where its first message is due
abbrev pub Gives : {S : Type 0} → (S → Option (List ℕ)) → Option ℕ → Stream S → Given → Option ℕ → Stream S → Type 0
Gives left (Some before) old given now new = (now ≡ Some before) × GivesNext left before old given new
Gives left None old given now new = GivesFirst left old given now new

-- the last message of the delivery is that at the position of the stream, unless no position comes after that
abbrev pub IsUpTo : {S : Type 0} → Stream S → DeliveryValue → Type 0
IsUpTo stream delivery = (delivery.stream ≡ stream.name) × (stream.position < LAST_POSITION → delivery.first + length delivery.images ≡ stream.position + 1)

-- the report has messages up to the position of the stream
abbrev pub HasUpTo : {S : Type 0} → Stream S → Report → Type 0
HasUpTo stream (Brought messages) = IsUpTo stream messages.delivery
HasUpTo stream (AtEnd name) = ⊥
HasUpTo stream (AtFault name) = ⊥

-- where the messages of a publisher begin, which are read from this position on if its first message was there
abbrev pub start_of : Option ℕ → Option ℕ → ℕ → ℕ
start_of (Some before) now position = position
start_of None (Some before) position = before
start_of None None position = position

-- the first message comes at most one past this position
abbrev pub BeginsWithin : Option ℕ → Option ℕ → ℕ → Type 0
BeginsWithin (Some before) now position = now ≡ Some before
BeginsWithin None (Some before) position = before ≤ position
BeginsWithin None None position = Unit {0}

-- how a publisher's input ended: all of it is messages in step, or a fault stands at this position and line
abbrev pub EndsInput : {S : Type 0} → (S → Option (List ℕ)) → Option ℕ → Stream S → PublisherEnd → Option ℕ → Stream S → Type 0
EndsInput left before old End now new = (old.fault ≡ None) × BeginsWithin before now old.position
    × IfSome (left old.source) (λ text. IsAllMessages (start_of before now old.position) (old.part ++ text) new.position)
EndsInput left before old (Fault fault position line) now new = (position ≡ new.position + 1) × (line ≡ line_after now new.position)

-- Publishers that are honest about what was published.

-- if the line is a message, its image was published at its position of the stream
abbrev pub IsPublished : BrokerRecord → List ℕ → List ℕ → Type 0
IsPublished broker name line = (message : Message) → IsUnbroken line → IsMessageLine line message → slice_get (broker name) (pred message.0) ≡ Some message.1

-- each of these lines that is a message has an image that was published at its position of the stream
abbrev pub ArePublished : BrokerRecord → List ℕ → List (List ℕ) → Type 0
ArePublished broker name [] = Unit {0}
ArePublished broker name (line ∷ lines) = IsPublished broker name line × ArePublished broker name lines

-- a publisher of the stream is honest: each message of its text has an image that was published at its position
abbrev pub IsHonestPublisher : BrokerRecord → List ℕ → List ℕ → Type 0
IsHonestPublisher broker name text = (lines : List (List ℕ)) (rest : List ℕ) → text ≡ text_of lines ++ rest → ArePublished broker name lines

-- all that the publishers of streams may send is honest
abbrev pub AreHonestPublishers : BrokerRecord → (List ℕ → List ℕ → Type 0) → Type 0
AreHonestPublishers broker sends = (name text : List ℕ) → sends name text → IsHonestPublisher broker name text

-- Messages that were read of what a stream's publishers may send.

-- what is left of a source is known, and a publisher of the stream of this name may send it
abbrev pub MaySend : (List ℕ → List ℕ → Type 0) → List ℕ → Option (List ℕ) → Type 0
MaySend sends name left = (text : List ℕ) × (left ≡ Some text) × sends name text

-- so is what is to be read of a stream: the part of a line that was read, and what its source has left
abbrev pub IsOfPublisher : {S : Type 0} → (List ℕ → List ℕ → Type 0) → (S → Option (List ℕ)) → Stream S → Type 0
IsOfPublisher sends left stream = (rest : List ℕ) × (left stream.source ≡ Some rest) × sends stream.name (stream.part ++ rest)

-- the delivery was read at its positions of a text that a publisher of its stream may send: this came before it, and this after it
pub record WasRead (sends : List ℕ → List ℕ → Type 0) (delivery : DeliveryValue) : Type 0 where
  pub text : List ℕ
  pub sent : sends delivery.stream text
  pub start : ℕ
  pub before : List Image
  pub from : List ℕ
  pub skipped : Run start text before from
  pub rest : List ℕ
  pub run : Run (start + length before) from delivery.images rest
  pub first_is : delivery.first ≡ start + length before + 1

-- so it was, if the texts of publishers are known
abbrev pub IsSent : Type 0 → (List ℕ → List ℕ → Type 0) → DeliveryValue → Type 0
IsSent known sends delivery = ∥ (known → WasRead sends delivery) ∥₁

-- Reports of messages that the publishers of streams may send.

-- the messages of the report, if it has some, were read of what publishers may send
abbrev pub IsSentReport : Type 0 → (List ℕ → List ℕ → Type 0) → Report → Type 0
IsSentReport known sends (Brought messages) = IsSent known sends messages.delivery
IsSentReport known sends (AtEnd name) = Unit {0}
IsSentReport known sends (AtFault name) = Unit {0}

-- so were those of the report that a mailbox holds, if it holds one
abbrev pub HoldsSent : Type 0 → (List ℕ → List ℕ → Type 0) → HeldReport → Type 0
HoldsSent known sends Nothing = Unit {0}
HoldsSent known sends (Left report) = IsSentReport known sends report
HoldsSent known sends Closed = Unit {0}

sent-prop : (known : Type 0) (sends : List ℕ → List ℕ → Type 0) (report : Report) → IsProp (IsSentReport known sends report)
sent-prop known sends (Brought messages) = ∥∥₁_prop
sent-prop known sends (AtEnd name) = Unit-prop
sent-prop known sends (AtFault name) = Unit-prop

-- it is a proposition
pub HoldsSent-prop : (known : Type 0) (sends : List ℕ → List ℕ → Type 0) (held : HeldReport) → IsProp (HoldsSent known sends held)
HoldsSent-prop known sends Nothing = Unit-prop
HoldsSent-prop known sends (Left report) = sent-prop known sends report
HoldsSent-prop known sends Closed = Unit-prop
