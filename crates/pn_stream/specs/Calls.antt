-- What calls for messages answer, for the next ones and for a publisher's first, and the reader after them.
use Rattle.std.specs.Prelude.{List, Result, Ok, Err, ◌≡◌, ◌≢◌, ℕ, ◌+◌, ◌≤◌, ◌++◌, length, min, Option, Some, None, IfOk, IfErr, IsErrOf, IfSome, ◌<◌, pred, IsTrue}
use Rattle.std.specs.List.{FoldsTo}
use Rattle.pn_join.specs.declared.memory.NoMemory.{NoMemory}
use Rattle.pn_join.specs.declared.marks.TheConstants.{LAST_POSITION}
use Rattle.pn_join.specs.Marks.{is_position}
use Rattle.pn_record.specs.Limits.{max_line_bytes}
use Rattle.pn_record.specs.declared.records.Image.{Image}
use Rattle.pn_stream.specs.Batches.{Stream, Batch}
use Rattle.pn_stream.specs.Streams.{Stands, NoLine, IsLeft}
use Rattle.pn_stream.specs.Brokers.{DeliveryValue}
use Rattle.pn_stream.specs.declared.fault.StreamFault.{StreamFault}
use Rattle.pn_stream.specs.declared.fault.StreamFault.TheVariants.{Read, Memory, Failed, OutOfStep}
use Rattle.pn_stream.specs.declared.fault.ResumeFault.{ResumeFault}
use Rattle.pn_stream.specs.declared.fault.ResumeFault.TheVariants.{Stream as OfStream, Gap}

-- Attempts at what memory may run out for.

-- memory ran out for each of some attempts
pub record FailedSoFar {F T : Type 0} (step : F → Result T NoMemory → F → Type 0) (first last : F) : Type 0 where
  pub faults : List NoMemory
  pub failed : FoldsTo (λ before fault after. step before (Err fault) after) first faults last

-- an attempt made this, after some that memory ran out for
pub record MadeAtLast {F T : Type 0} (step : F → Result T NoMemory → F → Type 0) (first : F) (made : T) (last : F) : Type 0 where
  pub before : F
  pub failed : FailedSoFar step first before
  pub makes : step before (Ok made) last

-- What a call for the next messages answers, and the reader after it.

-- a delivery of the messages after the last position; a fault that follows some of them waits for the next call
pub record Gives {S : Type 0} (left : S → Option (List ℕ)) (may_fail : Type 0) (least most : ℕ) (old new : Stream S) (delivery : DeliveryValue) : Type 0 where
  pub value : delivery ≡ record { stream = old.name; first = min (old.position + 1) LAST_POSITION; images = delivery.images }
  pub within : length delivery.images ≤ most
  pub batch : IfSome (left old.source) (λ text. Batch least most old.position (old.part ++ text) delivery.images new.fault new.part (left new.source))
  pub position : new.position ≡ old.position + length delivery.images
  pub waits : length delivery.images ≡ 0 → new.fault ≡ None
  pub read : new.fault ≡ Some Read → may_fail
  pub not_failed : new.fault ≢ Some Failed

-- the next messages are taken, and the fault that follows them, if there is one, which is none of an earlier call; only
-- the part of a line that is kept and the source change
pub record Takes {S : Type 0} (left : S → Option (List ℕ)) (may_fail may_give_up : Type 0) (least most : ℕ) (old : Stream S) (images : List Image) (fault : Option StreamFault) (new : Stream S) : Type 0 where
  pub within : length images ≤ most
  pub positions : old.position + length images ≤ LAST_POSITION
  pub run : IfSome (left old.source) (λ text. Batch least most old.position (old.part ++ text) images fault new.part (left new.source))
  pub read : fault ≡ Some Read → may_fail
  pub gives_up : fault ≡ Some Memory → may_give_up
  pub not_failed : fault ≢ Some Failed
  pub name : new.name ≡ old.name
  pub position : new.position ≡ old.position
  pub waiting : new.fault ≡ old.fault
  pub part : length new.part ≤ max_line_bytes

-- a fault before the first message, or one that waited; after it the reader has failed, at the same position
pub record Stops {S : Type 0} (left : S → Option (List ℕ)) (may_fail : Type 0) (old new : Stream S) (fault : StreamFault) : Type 0 where
  pub first : old.fault ≡ None → IfSome (left old.source) (λ text. Stands (old.position + 1) (old.part ++ text) fault)
  pub read : fault ≡ Read → old.fault ≡ None → may_fail
  pub not_failed : fault ≡ Failed → old.fault ≡ None → ⊥
  pub position : new.position ≡ old.position
  pub failed : new.fault ≡ Some Failed

-- a call for at most `most` messages, and for fewer than `least` only where no whole line or a fault follows
pub record IsCall {S : Type 0} (left : S → Option (List ℕ)) (may_fail : Type 0) (least most : ℕ) (old : Stream S) (answer : Result DeliveryValue StreamFault) (new : Stream S) : Type 0 where
  pub gives : IfOk answer (Gives left may_fail least most old new)
  pub stops : IfErr answer (Stops left may_fail old new)
  pub waited : IfSome old.fault (λ fault. answer ≡ Err fault)
  pub name : new.name ≡ old.name
  pub part : length new.part ≤ max_line_bytes

-- memory ran out only where it was not waited for any more: in this call, or for the message that the next call answers for
pub record GivesUp {S : Type 0} (may_give_up : Type 0) (old : Stream S) (answer : Result DeliveryValue StreamFault) (new : Stream S) : Type 0 where
  pub now : old.fault ≡ None → IsErrOf answer Memory → may_give_up
  pub next : new.fault ≡ Some Memory → may_give_up

-- What the call for a publisher's first message answers, and the reader after it.

-- the fault comes first in the text, whose first message may have any position up to `wanted`: it is out of step only
-- where its position is greater, which is a gap
abbrev pub StandsFirst : ℕ → List ℕ → ResumeFault → Type 0
StandsFirst wanted text (OfStream fault) = Stands wanted text fault × ((named got : ℕ) → fault ≢ OutOfStep named got)
StandsFirst wanted text (Gap got named) = (named ≡ wanted) × (wanted < got) × Stands wanted text (OutOfStep wanted got)

-- the first message of a text: its position is at most one past this one, and its one image is a batch that begins just
-- before it
pub record IsFirst (position : ℕ) (part : List ℕ) (left : Option (List ℕ)) (at : ℕ) (images : List Image) (now : List ℕ) (leaves : Option (List ℕ)) : Type 0 where
  pub batch : IfSome left (λ text. Batch 1 1 (pred at) (part ++ text) images None now leaves)
  pub one : length images ≡ 1
  pub in_range : IsTrue (is_position at)
  pub up_to : at ≤ position + 1

-- the first message is delivered: its position is at most one past the last one, and the reader goes on after it as
-- one that began just before it
pub record Begins {S : Type 0} (left : S → Option (List ℕ)) (old new : Stream S) (delivery : DeliveryValue) : Type 0 where
  pub value : delivery ≡ record { stream = old.name; first = new.position; images = delivery.images }
  pub one : length delivery.images ≡ 1
  pub least : 1 ≤ new.position
  pub most : new.position ≤ old.position + 1
  pub batch : IfSome (left old.source) (λ text. Batch 1 1 (pred new.position) (old.part ++ text) delivery.images None new.part (left new.source))
  pub fault : new.fault ≡ None

-- no whole line is there; the part of one is kept
pub record Lacks {S : Type 0} (left : S → Option (List ℕ)) (old new : Stream S) : Type 0 where
  pub none : IfSome (left old.source) (λ text. NoLine (old.part ++ text) × IsLeft (old.part ++ text) new.part (left new.source))
  pub position : new.position ≡ old.position
  pub fault : new.fault ≡ None

-- a fault comes first, or one that waited; after it the reader has failed, at the same position
pub record Bars {S : Type 0} (left : S → Option (List ℕ)) (may_fail : Type 0) (old new : Stream S) (fault : ResumeFault) : Type 0 where
  pub first : old.fault ≡ None → IfSome (left old.source) (λ text. StandsFirst (old.position + 1) (old.part ++ text) fault)
  pub read : fault ≡ OfStream Read → old.fault ≡ None → may_fail
  pub not_failed : fault ≡ OfStream Failed → old.fault ≡ None → ⊥
  pub position : new.position ≡ old.position
  pub failed : new.fault ≡ Some Failed

-- what is found is delivered, if something is
abbrev pub Finds : {S : Type 0} → (S → Option (List ℕ)) → Stream S → Stream S → Option DeliveryValue → Type 0
Finds left old new (Some delivery) = Begins left old new delivery
Finds left old new None = Lacks left old new

-- a call for the first message of a publisher
pub record IsResumed {S : Type 0} (left : S → Option (List ℕ)) (may_fail : Type 0) (old : Stream S) (answer : Result (Option DeliveryValue) ResumeFault) (new : Stream S) : Type 0 where
  pub finds : IfOk answer (Finds left old new)
  pub bars : IfErr answer (Bars left may_fail old new)
  pub waited : IfSome old.fault (λ fault. answer ≡ Err (OfStream fault))
  pub name : new.name ≡ old.name
  pub part : length new.part ≤ max_line_bytes
