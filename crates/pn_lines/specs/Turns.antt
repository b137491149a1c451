-- What a turn does: which bytes come, are taken and go, what it comes to, and what is kept until the next.
use Rattle.std.specs.Prelude.{◌≡◌, ◌≢◌, ◌⊎◌, ◌<◌, ◌≤◌, ℕ, Bool, false, true, List, [], ◌++◌, length, Option, ◌+◌, ◌*◌, min, IfSome, OnSome, Some}
use Rattle.std.specs.Io.KnownBytes.{Appends, Consumes, IsAtEnd}
use Rattle.pn_lines.specs.Engines.{EngineValue, new_engine, IsPartAt, IsNearer}
use Rattle.pn_lines.specs.declared.engine.Next.{Next}
use Rattle.pn_lines.specs.declared.turns.SourceState.{SourceState}
use Rattle.pn_lines.specs.declared.turns.TurnOutcome.{TurnOutcome}
use Rattle.pn_lines.specs.declared.turns.TurnOutcome.TheVariants.{Goes as goes, Ended, Failed}
use Rattle.pn_lines.specs.declared.turns.buffers.Came.{Came}
use Rattle.pn_lines.specs.declared.turns.input.TheConstants.{READ_SIZE}
use Rattle.pn_lines.specs.declared.turns.sending.Sent.{Sent}
use Rattle.pn_lines.specs.declared.turns.working.Work.{Work}
use Rattle.pn_lines.specs.Driving.{Start}
use Rattle.pn_lines.specs.Handling.{Handling}
use Rattle.pn_lines.specs.Standing.{Stands}
use Rattle.pn_lines.specs.declared.engine.TheConstants.{MAX_STEP_UNITS, UNIT_BYTES}
use Rattle.pn_lines.specs.declared.turns.Pause.TheVariants.{Turn}
use Rattle.pn_lines.specs.declared.turns.SourceState.TheVariants.{AtEnd}
use Rattle.pn_lines.specs.declared.turns.working.TheConstants.{TURN_UNITS}
use Rattle.pn_lines.specs.declared.engine.Next.TheVariants as next
use Rattle.pn_lines.specs.declared.engine.state.Stage.TheVariants as stage
use Rattle.pn_lines.specs.declared.turns.Pause.TheVariants as pause
use Rattle.pn_lines.specs.declared.turns.SourceState.TheVariants as source
use Rattle.pn_lines.specs.declared.turns.TurnFault.TheVariants as fault
use Rattle.pn_lines.specs.declared.turns.buffers.Came.TheVariants as came
use Rattle.pn_lines.specs.declared.turns.sending.Sent.TheVariants as sent
use Rattle.pn_lines.specs.declared.turns.working.Work.TheVariants as work

-- What is kept between two turns, and what comes and goes at once.

-- the engine, input that is not taken, replies that were not written, and whether more input may come
pub record TurnValue (G : Type 0) : Type 0 where
  pub engine : EngineValue G
  pub unread : List ℕ
  pub replies : List ℕ
  pub source : SourceState

-- input that is at hand, and replies that are to be written
pub record BufferValue : Type 0 where
  pub input : List ℕ
  pub replies : List ℕ

-- an input of which nothing was read
abbrev pub new_turns : {G : Type 0} → ℕ → TurnValue G
new_turns most = record { engine = new_engine most; unread = []; replies = []; source = source.Open }

-- the same while a turn has it in its buffers
abbrev pub held_in : {G : Type 0} → EngineValue G → BufferValue → SourceState → TurnValue G
held_in engine buffers source = record { engine = engine; unread = buffers.input; replies = buffers.replies; source = source }

-- nothing comes after what came
abbrev pub is_last : SourceState → Bool
is_last source.Open = false
is_last source.AtEnd = true
is_last source.Failed = false

-- the first bytes of what waited were written, and the others wait
pub record TakesFirst (before after : Option (List ℕ)) (waited waits : List ℕ) : Type 0 where
  pub sent : List ℕ
  pub appends : Appends before after sent
  pub split : waited ≡ sent ++ waits

-- whether bytes came, by what was found
abbrev pub ComesBy : Option (List ℕ) → Came → List ℕ → Type 0
ComesBy leaves (came.Input is_all) bytes = 0 < length bytes
ComesBy leaves came.Nothing bytes = bytes ≡ []
ComesBy leaves came.End bytes = (bytes ≡ []) × IsAtEnd leaves
ComesBy leaves came.Fault bytes = bytes ≡ []

-- some bytes came after those at hand
pub record Comes (left leaves : Option (List ℕ)) (old new : List ℕ) (found : Came) : Type 0 where
  pub bytes : List ℕ
  pub consumes : Consumes left leaves bytes
  pub new_is : new ≡ old ++ bytes
  pub few : length bytes ≤ READ_SIZE
  pub by : ComesBy leaves found bytes

-- it reads, has nothing to give, and what is at hand is a part of a line that is not too long
abbrev pub WantsInput : {G : Type 0} → TurnValue G → Type 0
WantsInput kept = IsPartAt kept.engine.stage kept.unread × (kept.engine.left ≡ [])

-- where the work of a turn ends
abbrev pub Works : {G : Type 0} → TurnValue G → Work → Type 0
Works kept work.Turn = Unit {0}
Works kept work.Input = (kept.source ≡ source.Open) × WantsInput kept
Works kept (work.Ended end) = (kept.engine.stage ≡ stage.Ended end) × (kept.engine.left ≡ [])
Works kept work.Failed = (kept.source ≡ source.Failed) × WantsInput kept

-- what there is to do next
abbrev pub next_work : Next → SourceState → Work
next_work next.Input source.Failed = work.Failed
next_work next.Input source.Open = work.Input
next_work next.Input source.AtEnd = work.Input
next_work next.Room state = work.Turn
next_work next.Turn state = work.Turn
next_work (next.End end) state = work.Ended end

-- where a turn ends: it waits for its sink exactly where replies wait, and for input only where it wants some and more may come
abbrev pub Rests : {G : Type 0} → TurnValue G → TurnOutcome → Type 0
Rests kept (goes pause.Turn) = kept.replies ≡ []
Rests kept (goes pause.Input) = (kept.replies ≡ []) × Works kept work.Input
Rests kept (goes pause.Output) = kept.replies ≢ []
Rests kept (Ended end) = (kept.replies ≡ []) × Works kept (work.Ended end)
Rests kept (Failed fault.Read) = (kept.replies ≡ []) × Works kept work.Failed
Rests kept (Failed fault.Write) = Unit {0}
Rests kept (Failed fault.Memory) = (kept.unread ≢ []) ⊎ (kept.replies ≢ [])

-- what a turn comes to, by its work and by what its sink took
abbrev pub outcome_of : Work → Sent → TurnOutcome
outcome_of work.Turn sent.All = goes pause.Turn
outcome_of work.Input sent.All = goes pause.Input
outcome_of (work.Ended end) sent.All = Ended end
outcome_of work.Failed sent.All = Failed fault.Read
outcome_of worked sent.Waits = goes pause.Output
outcome_of worked sent.Fails = Failed fault.Write

-- what a turn came to is kept where it goes on; else the engine and the state of the source are
abbrev pub IsKept : {G : Type 0} → TurnOutcome → TurnValue G → TurnValue G → Type 0
IsKept (goes pause) reached kept = kept ≡ reached
IsKept (Ended end) reached kept = (kept.engine ≡ reached.engine) × (kept.source ≡ reached.source)
IsKept (Failed fault) reached kept = (kept.engine ≡ reached.engine) × (kept.source ≡ reached.source)

-- it is kept as it was to be, or there is no memory for it
abbrev pub IsStored : {G : Type 0} → TurnOutcome → TurnOutcome → TurnValue G → TurnValue G → Type 0
IsStored wanted outcome reached kept =
    IsKept outcome reached kept × ((outcome ≡ wanted) ⊎ ((outcome ≡ Failed fault.Memory) × ((reached.unread ≢ []) ⊎ (reached.replies ≢ []))))

-- What a turn does: which bytes come, are taken and go, and what it comes to.

-- the bytes that came, those that the engine took, and those that were written
pub record Moved : Type 0 where
  pub came : List ℕ
  pub took : List ℕ
  pub went : List ℕ

-- what is left of the source, what was written, the handler, and what is kept
pub record Moment (V G : Type 0) : Type 0 where
  pub left : Option (List ℕ)
  pub written : Option (List ℕ)
  pub machine : V
  pub kept : TurnValue G

abbrev pub at : {V G : Type 0} → Option (List ℕ) → Option (List ℕ) → V → TurnValue G → Moment V G
at left written machine kept = record { left = left; written = written; machine = machine; kept = kept }

-- what came stands after what was unread, and what was taken of both is gone; where the engine stood, it stands with what was taken and
-- written, and the replies that wait
pub record Moves {V G : Type 0} (handling : Handling V G) (moved : Moved) (old new : Moment V G) : Type 0 where
  pub comes : Consumes old.left new.left moved.came
  pub goes : Appends old.written new.written moved.went
  pub unread : old.kept.unread ++ moved.came ≡ moved.took ++ new.kept.unread
  pub ends : new.kept.source ≡ AtEnd → ((old.kept.source ≡ AtEnd) × (moved.came ≡ [])) ⊎ OnSome old.left (IsAtEnd new.left)
  pub stands : (start : V) (taken out : List ℕ)
      → Stands handling start taken (out ++ old.kept.replies) old.kept.unread (is_last old.kept.source) old.machine old.kept.engine
      → Stands handling start (taken ++ moved.took) ((out ++ moved.went) ++ new.kept.replies)
      new.kept.unread (is_last new.kept.source) new.machine new.kept.engine

-- the most bytes that a turn takes and makes
abbrev pub most_made : ℕ
most_made = UNIT_BYTES * (TURN_UNITS + 2 * MAX_STEP_UNITS)

-- few bytes come, are taken, and go or wait, and few lines are taken
pub record IsFew {G : Type 0} (moved : Moved) (old new : TurnValue G) : Type 0 where
  pub came : length moved.came ≤ READ_SIZE
  pub made : length moved.took + length moved.went + length new.replies ≤ length old.replies + most_made
  pub lines : new.engine.counts.lines ≤ old.engine.counts.lines + TURN_UNITS

module _ {V G : Type 0} (handling : Handling V G) (left : G → ℕ) where
  -- what some work does that is allowed a number of units and uses some, where at most a number of bytes come; where it is to go on at once,
  -- some bytes came, or units were used, or none were allowed, or replies waited already
  pub record Worked (allowed units brings : ℕ) (old new : Moment V G) (worked : Work) : Type 0 where
    pub moved : Moved
    pub moves : Moves handling moved old new
    pub none : moved.went ≡ []
    pub came : length moved.came ≤ brings
    pub counted : length moved.took + length new.kept.replies ≤ length old.kept.replies + UNIT_BYTES * units
    pub lines : new.kept.engine.counts.lines ≤ old.kept.engine.counts.lines + min allowed units
    pub still : units ≡ 0 → new.kept.engine ≡ old.kept.engine
    pub nearer : 0 < units → IsNearer left old.kept.engine new.kept.engine
    pub works : Works new.kept worked
    pub used : worked ≡ work.Turn → (0 < length moved.came) ⊎ (0 < units) ⊎ (allowed ≡ 0) ⊎ (0 < length old.kept.replies)

  -- the same where it uses no more than a number
  pub record WorkedIn (allowed most : ℕ) (old new : Moment V G) (worked : Work) : Type 0 where
    pub units : ℕ
    pub few : units ≤ most
    pub by : Worked allowed units READ_SIZE old new worked

  -- what a turn does, and what is kept of it; one that is to go on at once has read a byte, or the engine has less left
  pub record Turned (old new : Moment V G) (outcome : TurnOutcome) : Type 0 where
    pub moved : Moved
    pub reached : TurnValue G
    pub moves : Moves handling moved old (at new.left new.written new.machine reached)
    pub few : IsFew moved old.kept reached
    pub rests : Rests reached outcome
    pub nearer : outcome ≡ goes Turn → (0 < length moved.came) ⊎ IsNearer left old.kept.engine reached.engine
    pub kept : IsKept outcome reached new.kept

-- of a known input these bytes were taken, some are unread, and the rest is left; what was written and waits is what the engine gave
pub record Follows {V G : Type 0} (handling : Handling V G) (start : Start V) (input : List ℕ) (now : Moment V G) : Type 0 where
  pub taken : List ℕ
  pub rest : List ℕ
  pub out : List ℕ
  pub input_is : input ≡ taken ++ (now.kept.unread ++ rest)
  pub left_is : now.left ≡ Some rest
  pub wrote : Appends start.written now.written out
  pub at_end : now.kept.source ≡ AtEnd → rest ≡ []
  pub stands : Stands handling start.machine taken (out ++ now.kept.replies) now.kept.unread (is_last now.kept.source) now.machine now.kept.engine

-- a known input was answered in turns, until it ended so with its engine here
abbrev pub Finishes : {V G : Type 0} → Handling V G → Start V → Option (List ℕ) → Option (List ℕ) → V → EngineValue G → TurnOutcome → Type 0
Finishes handling start left written machine engine outcome =
    IfSome start.left (λ input. (reached : TurnValue _) × Rests reached outcome × (engine ≡ reached.engine)
    × Follows handling start input (at left written machine reached))
