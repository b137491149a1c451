-- Where an engine stands: what it took of an input and gave of replies since it began, and what a step does to it.
use Rattle.std.specs.Prelude.{◌≡◌, ◌≢◌, ◌⊎◌, ◌<◌, ◌≤◌, ℕ, zero, suc, ◌+◌, ◌-◌, ◌^◌, min, Bool, true, List, [], ◌∷◌, ◌++◌, length, take, drop, All, ◌*◌}
use Rattle.pn_line.specs.Line.{IsUnbroken}
use Rattle.pn_line.specs.Text.{text_of}
use Rattle.pn_line.specs.declared.line_buffer.TheConstants.{ENDLESS, MAX_LINE_BYTES}
use Rattle.pn_lines.specs.Answers.{AnswerValue, AnswersBy, done, pending}
use Rattle.pn_lines.specs.Engines.{EngineValue, after_answer, Advances}
use Rattle.pn_lines.specs.Handling.{Answers, Handling, Replied, refusals_of, texts_of}
use Rattle.pn_lines.specs.declared.engine.state.Stage.{Stage}
use Rattle.pn_lines.specs.declared.engine.state.Stage.TheVariants.{Reading, Pending, Ended}
use Rattle.pn_lines.specs.declared.handler.EndedBy.{EndedBy}
use Rattle.pn_lines.specs.declared.handler.EndedBy.TheVariants.{Newline, Input}
use Rattle.pn_lines.specs.declared.engine.TheConstants.{MAX_STEP_UNITS, UNIT_BYTES}
use Rattle.pn_lines.specs.declared.engine.state.LinesEnd.TheVariants as end

-- Where an engine stands: what it took of an input and gave of replies since it began.

-- a line without its newline, which has an end
pub record IsLine (line : List ℕ) : Type 0 where
  pub unbroken : IsUnbroken line
  pub short : length line < ENDLESS

-- the newline that ended a line, if one did
abbrev pub newline_of : EndedBy → List ℕ
newline_of Newline = 10 ∷ []
newline_of Input = []

-- how many lines a line counts for: none where it is an empty last part
abbrev pub count_of : EndedBy → List ℕ → ℕ
count_of Newline line = 1
count_of Input [] = 0
count_of Input (b ∷ part) = 1

-- the same by the number of its bytes
abbrev pub count_by : EndedBy → ℕ → ℕ
count_by Newline n = 1
count_by Input zero = 0
count_by Input (suc n) = 1

-- after a last part nothing is at hand, and nothing will be
abbrev pub IsOver : EndedBy → List ℕ → Bool → Type 0
IsOver Newline ahead last = Unit {0}
IsOver Input ahead last = (ahead ≡ []) × (last ≡ true)

-- the lines that were answered, what was taken after them, what is at hand and whether that is the last, and the handler after
-- the lines and now
pub record Position (V : Type 0) : Type 0 where
  pub lines : List (List ℕ)
  pub rest : List ℕ
  pub ahead : List ℕ
  pub last : Bool
  pub reached : V
  pub now : V

module _ {V G : Type 0} (handling : Handling V G) where
  -- lines with their newlines were answered one after another
  abbrev pub AllAnswer : V → List (List ℕ) → List Replied → V → Type 0
  AllAnswer was [] [] now = now ≡ was
  AllAnswer was (line ∷ lines) (replied ∷ replies) now =
      (between : V) × Answers handling was Newline line between replied × AllAnswer between lines replies now
  AllAnswer was _ _ now = ⊥

  -- lines are read; of the next, if it is too long, this number of bytes was dropped
  pub record IsReading (dropped count : ℕ) (at : Position V) : Type 0 where
    pub moved : handling.moves at.reached at.now
    pub unbroken : IsUnbroken at.rest
    pub dropped_is : length at.rest ≡ dropped
    pub counted : ((dropped ≡ 0) × (count ≡ length at.lines)) ⊎ ((MAX_LINE_BYTES < dropped) × (dropped < ENDLESS) × (count ≡ length at.lines + 1))

  -- the next line, or the last part, was taken, and has this answer
  pub record IsAsked (ended : EndedBy) (answer : AnswerValue G) (count : ℕ) (at : Position V) : Type 0 where
    pub line : List ℕ
    pub first : V
    pub between : V
    pub rest_is : at.rest ≡ line ++ newline_of ended
    pub is_line : IsLine line
    pub moved : handling.moves at.reached first
    pub answered : AnswersBy handling first ended line between answer
    pub goes_on : handling.moves between at.now
    pub counted : count ≡ length at.lines + count_of ended line
    pub over : IsOver ended at.ahead at.last

  -- no more was read since the handler was so
  pub record IsStopped (so : V → Type 0) (at : Position V) : Type 0 where
    pub stopped : V
    pub moved : handling.moves at.reached stopped
    pub is_so : so stopped
    pub goes_on : handling.moves stopped at.now
    pub unbroken : IsUnbroken at.rest

  -- what is so at a stage, by the text that is still to be made, and the replies that came after those to the lines
  abbrev pub StageAt : Stage G → ℕ → ℕ → List ℕ → Position V → List Replied → Type 0
  StageAt (Reading dropped) count most left at more = IsReading dropped count at × (more ≡ [])
  StageAt (Pending g ended) count most left at more = IsAsked ended (pending g) count at × (more ≡ []) × (left ≡ [])
  StageAt (Ended end.Input) count most left at more = (replied : Replied) × IsAsked Input (done replied) count at × (more ≡ replied ∷ [])
  StageAt (Ended end.Closed) count most left at more = IsStopped (λ stopped. (at.rest ≡ []) × handling.closed stopped) at × (more ≡ [])
  StageAt (Ended end.TooManyLines) count most left at more =
      IsStopped (λ _. (length at.lines ≡ most) × (at.rest ≡ []) × (at.ahead ≢ [])) at × (more ≡ [])
  StageAt (Ended end.EndlessLine) count most left at more = IsStopped (λ _. (length at.lines < most) × (length at.rest ≡ ENDLESS)) at × (more ≡ [])

  -- lines were taken, and then the rest; the replies to the lines, and some after them, were given or are still to be made
  pub record StandsBy (is_at : Position V → List Replied → Type 0) (start : V) (taken given ahead : List ℕ) (last : Bool)
      (machine : V) (run : EngineValue G) : Type 0 where
    pub lines : List (List ℕ)
    pub rest : List ℕ
    pub taken_is : taken ≡ text_of lines ++ rest
    pub are_lines : All IsLine lines
    pub few : run.counts.lines ≤ run.most
    pub replies : List Replied
    pub reached : V
    pub made : AllAnswer start lines replies reached
    pub more : List Replied
    pub texts : given ++ run.left ≡ texts_of replies ++ texts_of more
    pub refused : run.counts.refused ≡ min (refusals_of replies + refusals_of more) (2 ^ 64 - 1)
    pub stage : is_at (record { lines = lines; rest = rest; ahead = ahead; last = last; reached = reached; now = machine }) more

  abbrev pub Stands : V → List ℕ → List ℕ → List ℕ → Bool → V → EngineValue G → Type 0
  Stands start taken given ahead last machine run = StandsBy (StageAt run.stage run.counts.lines run.most run.left) start taken given ahead last machine run

  -- nothing was taken or given, and where the engine stood before it stands after
  abbrev pub StandsStill : V → EngineValue G → V → EngineValue G → Type 0
  StandsStill was old now new = (start : V) (taken given ahead : List ℕ) (last : Bool) → Stands start taken given ahead last was old
      → Stands start taken given ahead last now new

  -- where the engine stood with what waited, it stands with what waits, once that number of the bytes at hand were taken
  abbrev pub StandsAfter : List ℕ → Bool → V → EngineValue G → List ℕ → ℕ → V → EngineValue G → List ℕ → Type 0
  StandsAfter bytes last was old waited n now new waits = (start : V) (taken out : List ℕ) → Stands start taken (out ++ waited) bytes last was old
      → Stands start (taken ++ take n bytes) (out ++ waits) (drop n bytes) last now new

-- What a step that takes lines does.

module _ {V G : Type 0} (handling : Handling V G) where
  -- a line was answered or begun, and the engine has the answer
  pub record Asks (ended : EndedBy) (line : List ℕ) (was now : V) (old new : EngineValue G) : Type 0 where
    pub answer : AnswerValue G
    pub answered : AnswersBy handling was ended line now answer
    pub has : new ≡ after_answer answer ended old

  -- a line that is too long was answered, whatever its bytes are, and the engine has the reply
  pub record Refuses (ended : EndedBy) (was now : V) (old new : EngineValue G) : Type 0 where
    pub replied : Replied
    pub answered : (line : List ℕ) → MAX_LINE_BYTES < length line → handling.answers was ended line now replied
    pub has : new ≡ after_answer (done replied) ended old

  -- where the engine stood before it stands after; what was taken was at hand and is counted; less is left; at most one line was taken
  pub record Takes (left : G → ℕ) (bytes : List ℕ) (last : Bool) (was now : V) (old new : EngineValue G) (taken units : ℕ) : Type 0 where
    pub stands : (start : V) (before given : List ℕ) → Stands handling start before given bytes last was old
        → Stands handling start (before ++ take taken bytes) given (drop taken bytes) last now new
    pub advances : Advances left units taken old new
    pub within : taken ≤ length bytes
    pub counted : taken ≤ UNIT_BYTES * units
    pub few : units ≤ MAX_STEP_UNITS
    pub lines : new.counts.lines ≤ old.counts.lines + 1
