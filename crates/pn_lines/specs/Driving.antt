-- What a driver writes of what its engine gives, and where it ended.
use Rattle.std.specs.Prelude.{◌≡◌, ◌≢◌, ◌⊎◌, ◌<◌, ◌≤◌, ℕ, ◌+◌, ◌-◌, ◌*◌, ◌^◌, min, List, [], ◌++◌, length, All, Option, Some, IfSome, Result, Ok, Err, Bool, false, true, None}
use Rattle.std.specs.Io.KnownBytes.{Appends}
use Rattle.pn_line.specs.Text.{PartRead}
use Rattle.pn_line.specs.Sent.{AppendsPrefix}
use Rattle.pn_line.specs.declared.line_buffer.TheConstants.{ENDLESS}
use Rattle.pn_line.specs.Line.{LineBufferValue}
use Rattle.pn_line.specs.declared.reading.LineEnd.{LineEnd}
use Rattle.pn_line.specs.declared.reading.LineEnd.TheVariants as ends
use Rattle.pn_lines.specs.Handling.{Replied, one_if, refusals_of, texts_of, Answers, Handling}
use Rattle.pn_lines.specs.Standing.{AllAnswer, IsLine, count_of, Stands}
use Rattle.pn_lines.specs.declared.driver.LinesFault.{LinesFault}
use Rattle.pn_lines.specs.declared.driver.LinesFault.TheVariants.{Closed, EndlessLine, Read, TooManyLines, Write}
use Rattle.pn_lines.specs.declared.engine.Counts.{Counts}
use Rattle.pn_lines.specs.declared.handler.EndedBy.TheVariants.{Input, Newline}
use Rattle.pn_lines.specs.Engines.{EngineValue}
use Rattle.pn_lines.specs.declared.engine.state.Stage.{Stage}
use Rattle.pn_lines.specs.declared.engine.state.Stage.TheVariants.{Reading, Pending, Ended as StageEnded}
use Rattle.pn_lines.specs.declared.handler.EndedBy.{EndedBy}
use Rattle.pn_lines.specs.declared.engine.state.LinesEnd.TheVariants as end

-- Where a driver ended: what it read and wrote, and what is left of its input.

-- what a driver begins with: its handler, the bytes left in its source, and those in its sink
pub record Start (V : Type 0) : Type 0 where
  pub machine : V
  pub left : Option (List ℕ)
  pub written : Option (List ℕ)

abbrev pub start_at : {V : Type 0} → V → Option (List ℕ) → Option (List ℕ) → Start V
start_at machine left written = record { machine = machine; left = left; written = written }

-- all that was written was flushed, unless the sink failed
abbrev pub Flushes : Result Counts LinesFault → Type 0 → Type 0
Flushes (Ok counts) flushed = flushed
Flushes (Err Read) flushed = flushed
Flushes (Err Write) flushed = Unit {0}
Flushes (Err TooManyLines) flushed = flushed
Flushes (Err EndlessLine) flushed = flushed
Flushes (Err Closed) flushed = flushed

-- it ended with its input, by a fault of its source or of its sink, or with its handler, only where that may be
abbrev pub CanEnd : Type 0 → Type 0 → Type 0 → Type 0 → Result Counts LinesFault → Type 0
CanEnd read write end closed (Ok counts) = end
CanEnd read write end closed (Err Read) = read
CanEnd read write end closed (Err Write) = write
CanEnd read write end closed (Err TooManyLines) = Unit {0}
CanEnd read write end closed (Err EndlessLine) = Unit {0}
CanEnd read write end closed (Err Closed) = closed

-- the most polls of a source that are left, for a number of lines that were answered: one for each byte of a line, one for its end,
-- and one for what comes after the last
abbrev pub polls_left : ℕ → ℕ → ℕ
polls_left count most = (most - count) * (ENDLESS + 1) + 1

-- as many lines were answered as may be, and there is more
abbrev pub IsFull : ℕ → Option (List ℕ) → List (List ℕ) → List ℕ → Type 0
IsFull most left lines part = (length lines ≡ most) × (part ≡ []) × (left ≢ Some [])

-- fewer were answered, and the next line has no end
abbrev pub IsEndless : ℕ → List (List ℕ) → List ℕ → Type 0
IsEndless most lines part = (length lines < most) × (length part ≡ ENDLESS)

module _ {V G : Type 0} (handling : Handling V G) where
  -- these lines of the input and then a part of the next were read, and the lines were answered
  pub record Answered (start : Start V) (input : List ℕ) (left : Option (List ℕ))
      (lines : List (List ℕ)) (part : List ℕ) (replies : List Replied) (reached : V) : Type 0 where
    pub read : PartRead input left lines part
    pub are_lines : All IsLine lines
    pub made : AllAnswer handling start.machine lines replies reached

  -- the whole input was read, its lines and the part after its last newline were answered, and all replies were written
  pub record Ended (most : ℕ) (start : Start V) (input : List ℕ) (left written : Option (List ℕ)) (machine : V) (counts : Counts) : Type 0 where
    pub lines : List (List ℕ)
    pub part : List ℕ
    pub replies : List Replied
    pub reached : V
    pub answered : Answered start input left lines part replies reached
    pub last : Replied
    pub ended : Answers handling reached Input part machine last
    pub wrote : Appends start.written written (texts_of replies ++ last.text)
    pub lines_are : counts.lines ≡ length lines + count_of Input part
    pub refused_are : counts.refused ≡ min (refusals_of replies + one_if last.refused) (2 ^ 64 - 1)
    pub few : counts.lines ≤ most
    pub at_end : left ≡ Some []
    pub is_line : IsLine part

  -- it stopped where this is so of the lines that were read and of the part: the replies to the lines were written
  pub record Stopped (so : List (List ℕ) → List ℕ → Type 0) (start : Start V) (input : List ℕ)
      (left written : Option (List ℕ)) (machine : V) : Type 0 where
    pub lines : List (List ℕ)
    pub part : List ℕ
    pub replies : List Replied
    pub answered : Answered start input left lines part replies machine
    pub is_so : so lines part
    pub wrote : Appends start.written written (texts_of replies)

  -- the sink failed: a prefix of the replies to the lines that were read was written, with that to the last part at the end
  pub record Cut (start : Start V) (input : List ℕ) (left written : Option (List ℕ)) (machine : V) : Type 0 where
    pub lines : List (List ℕ)
    pub part : List ℕ
    pub replies : List Replied
    pub reached : V
    pub answered : Answered start input left lines part replies reached
    pub last : List ℕ
    pub ended : ((machine ≡ reached) × (last ≡ []))
        ⊎ ((left ≡ Some []) × ((replied : Replied) × (last ≡ replied.text) × Answers handling reached Input part machine replied))
    pub prefix : AppendsPrefix start.written written (texts_of replies ++ last)

  -- where it ended, by what it answered
  abbrev pub EndsBy : ℕ → Start V → Option (List ℕ) → Option (List ℕ) → V → Result Counts LinesFault → Type 0
  EndsBy most start left written machine (Ok counts) = IfSome start.left (λ input. Ended most start input left written machine counts)
  EndsBy most start left written machine (Err Read) = IfSome start.left (λ input. Stopped (λ lines part. Unit {0}) start input left written machine)
  EndsBy most start left written machine (Err Write) = IfSome start.left (λ input. Cut start input left written machine)
  EndsBy most start left written machine (Err TooManyLines) = IfSome start.left (λ input. Stopped (IsFull most left) start input left written machine)
  EndsBy most start left written machine (Err EndlessLine) = IfSome start.left (λ input. Stopped (IsEndless most) start input left written machine)
  EndsBy most start left written machine (Err Closed) = IfSome start.left (λ input. Stopped (λ lines part. part ≡ []) start input left written machine)

  -- it ended so, perhaps before the handler moved
  pub record HasEnded (most : ℕ) (start : Start V) (left written : Option (List ℕ)) (machine : V) (ended : Result Counts LinesFault) : Type 0 where
    pub reached : V
    pub moved : handling.moves reached machine
    pub ends_by : EndsBy most start left written reached ended

-- What a driver writes of what its engine gives.

module _ {V G : Type 0} (handling : Handling V G) where
  -- some bytes were written; where the engine stood with what waited, it stands with what was written and what waits
  pub record Writes (before after : Option (List ℕ)) (waited waits : List ℕ) (was now : V) (old new : EngineValue G) : Type 0 where
    pub sent : List ℕ
    pub appends : Appends before after sent
    pub stands : (start : V) (taken out ahead : List ℕ) (last : Bool) → Stands handling start taken (out ++ waited) ahead last was old
        → Stands handling start taken ((out ++ sent) ++ waits) ahead last now new

  -- the same where the sink failed, before all text was made or with none left to be made
  pub record Fails (before after : Option (List ℕ)) (waited : List ℕ) (was now : V) (old new : EngineValue G) : Type 0 where
    pub waits : List ℕ
    pub writes : Writes before after waited waits was now old new
    pub some : new.left ≢ []

  -- of a known input these bytes were taken, and the rest is left; what was written and waits is what the engine gave
  pub record IsReading (start : Start V) (input : List ℕ) (left written : Option (List ℕ)) (replies : List ℕ)
      (last : Bool) (machine : V) (run : EngineValue G) : Type 0 where
    pub taken : List ℕ
    pub rest : List ℕ
    pub out : List ℕ
    pub input_is : input ≡ taken ++ rest
    pub left_is : left ≡ Some rest
    pub wrote : Appends start.written written out
    pub stands : Stands handling start.machine taken (out ++ replies) [] last machine run
    pub at_end : last ≡ true → rest ≡ []

  -- so, if the bytes of the input are known
  abbrev pub Reads : Start V → Option (List ℕ) → Option (List ℕ) → List ℕ → Bool → V → EngineValue G → Type 0
  Reads start left written replies last machine run = IfSome start.left (λ input. IsReading start input left written replies last machine run)

  -- after a line the driver goes on, or has ended
  abbrev pub Goes : ℕ → Start V → Option (List ℕ) → Option (List ℕ) → List ℕ → V → EngineValue G
      → Result (Option Counts) LinesFault → Type 0
  Goes most start left written replies machine run (Ok None) = Reads start left written replies false machine run
  Goes most start left written replies machine run (Ok (Some counts)) = HasEnded handling most start left written machine (Ok counts)
  Goes most start left written replies machine run (Err fault) = HasEnded handling most start left written machine (Err fault)

-- a line more was answered, and the next may be read
pub record GoesOn {G : Type 0} (old new : EngineValue G) : Type 0 where
  pub stage : new.stage ≡ Reading 0
  pub made : new.left ≡ []
  pub most : new.most ≡ old.most
  pub below : old.counts.lines < old.most
  pub lines : new.counts.lines ≡ old.counts.lines + 1

-- where it has ended, all that was written was flushed
abbrev pub EndsFlushed : Result (Option Counts) LinesFault → Type 0 → Type 0
EndsFlushed (Ok None) flushed = Unit {0}
EndsFlushed (Ok (Some counts)) flushed = Flushes (Ok counts) flushed
EndsFlushed (Err fault) flushed = Flushes (Err fault) flushed

-- where it has ended, it may; and no more lines were counted than may be answered
abbrev pub CanGo : Type 0 → Type 0 → Type 0 → ℕ → Result (Option Counts) LinesFault → Type 0
CanGo read write end most (Ok None) = Unit {0}
CanGo read write end most (Ok (Some counts)) = end × (counts.lines ≤ most)
CanGo read write end most (Err fault) = CanEnd read write end ⊥ (Err fault)

-- the most polls of a source that are left where it goes on
abbrev pub polls_after : {G : Type 0} → EngineValue G → Result (Option Counts) LinesFault → ℕ
polls_after run (Ok None) = polls_left run.counts.lines run.most
polls_after run (Ok (Some counts)) = 0
polls_after run (Err fault) = 0

-- the most polls that are left once a line was read
abbrev pub polls_unless : {G : Type 0} → Result LineEnd LinesFault → EngineValue G → ℕ
polls_unless (Ok (ends.Newline more)) run = polls_left (run.counts.lines + 1) run.most
polls_unless (Ok ends.EndOfInput) run = 0
polls_unless (Ok ends.Endless) run = 0
polls_unless (Err fault) run = 0

-- a line that ended so has its answer, or it is gone on with
abbrev pub IsAfter : {G : Type 0} → EndedBy → Stage G → Type 0
IsAfter ended (Reading dropped) = (ended ≡ Newline) × (dropped ≡ 0)
IsAfter ended (Pending g of) = of ≡ ended
IsAfter ended (StageEnded end.Input) = ended ≡ Input
IsAfter ended (StageEnded end.Closed) = ⊥
IsAfter ended (StageEnded end.TooManyLines) = ⊥
IsAfter ended (StageEnded end.EndlessLine) = ⊥

-- lines are counted, and bounded, as before
pub record SameLines {G : Type 0} (old new : EngineValue G) : Type 0 where
  pub lines : new.counts.lines ≡ old.counts.lines
  pub most : new.most ≡ old.most

-- reading a line came to this: its newline, or the end of the input; or it has no end, or there is one after the last that may be answered
abbrev pub Stops : LineEnd → ℕ → ℕ → Option (List ℕ) → LineBufferValue → Type 0
Stops (ends.Newline more) count most left line = count < most
Stops ends.EndOfInput count most left line = (count < most) ⊎ (line.count ≡ 0)
Stops ends.Endless count most left line = ((count < most) × (line.count ≡ ENDLESS))
    ⊎ ((most ≤ count) × (line.count ≡ 0) × IfSome left (λ rest. rest ≢ []))
