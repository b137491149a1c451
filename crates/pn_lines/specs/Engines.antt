-- The values of engines, what an answer does to one, and what a call comes to.
use Rattle.std.specs.Prelude.{ℕ, ◌+◌, ◌-◌, ◌^◌, min, Bool, false, true, List, [], Option, None, Some, ◌≡◌, ◌≢◌, ◌⊎◌, ◌<◌, ◌≤◌, zero, suc, ◌*◌, length, Vec, vec_len, vec_capacity}
use Rattle.std.specs.declared.alloc.Global.{Global}
use Rattle.pn_line.specs.Line.{IsUnbroken}
use Rattle.pn_line.specs.declared.line_buffer.TheConstants.{ENDLESS, MAX_LINE_BYTES}
use Rattle.pn_lines.specs.Answers.{AnswerValue, done, pending}
use Rattle.pn_lines.specs.Handling.{one_if}
use Rattle.pn_lines.specs.declared.engine.Counts.{Counts}
use Rattle.pn_lines.specs.declared.engine.state.Stage.{Stage}
use Rattle.pn_lines.specs.declared.engine.state.Stage.TheVariants.{Reading, Pending, Ended}
use Rattle.pn_lines.specs.declared.handler.EndedBy.{EndedBy}
use Rattle.pn_lines.specs.declared.handler.EndedBy.TheVariants.{Newline, Input}
use Rattle.pn_lines.specs.declared.engine.Next.{Next}
use Rattle.pn_lines.specs.declared.engine.TheConstants.{MAX_STEP_UNITS, UNIT_BYTES}
use Rattle.pn_lines.specs.declared.engine.Step.{Step}
use Rattle.pn_lines.specs.declared.engine.Step.TheVariants.{Went, Waits}
use Rattle.pn_lines.specs.declared.finding.TheConstants.{MAX_PIECE_BYTES}
use Rattle.pn_lines.specs.declared.engine.state.LinesEnd.TheVariants as end
use Rattle.pn_lines.specs.declared.engine.Next.TheVariants as next

-- The values of engines, and what an answer does to one.

-- what is done next, the text of a reply that is still to be made, the counts, and how many lines may be answered
pub record EngineValue (G : Type 0) : Type 0 where
  pub stage : Stage G
  pub left : List ℕ
  pub counts : Counts
  pub most : ℕ

-- an answer is gone on with
abbrev pub is_pending : {G : Type 0} → Stage G → Bool
is_pending (Reading dropped) = false
is_pending (Pending g ended) = true
is_pending (Ended end) = false

-- an engine that has taken nothing
abbrev pub new_engine : {G : Type 0} → ℕ → EngineValue G
new_engine most = record { stage = Reading 0; left = []; counts = record { lines = 0; refused = 0 }; most = most }

-- the text that is still to be made, if any is
abbrev pub left_of : {T : Type 0} → (T → List ℕ) → Option T → List ℕ
left_of unmade None = []
left_of unmade (Some text) = unmade text

-- a reply more was counted, as far as that has 64 bits
abbrev pub with_refusal : Bool → Counts → Counts
with_refusal refused counts = record counts { refused = min (counts.refused + one_if refused) (2 ^ 64 - 1) }

-- what is done after a reply
abbrev pub stage_after : {G : Type 0} → EndedBy → Stage G
stage_after Newline = Reading 0
stage_after Input = Ended end.Input

-- the engine has the answer to a line
abbrev pub after_answer : {G : Type 0} → AnswerValue G → EndedBy → EngineValue G → EngineValue G
after_answer (done replied) ended run = record run { stage = stage_after ended; left = replied.text; counts = with_refusal replied.refused run.counts }
after_answer (pending g) ended run = record run { stage = Pending g ended }

-- it reads on, and has dropped this number of bytes of a line
abbrev pub dropping : {G : Type 0} → ℕ → EngineValue G → EngineValue G
dropping dropped run = record run { stage = Reading dropped }

-- that number of lines more were taken
abbrev pub with_lines : {G : Type 0} → ℕ → EngineValue G → EngineValue G
with_lines lines run = record run { counts = record run.counts { lines = run.counts.lines + lines } }

-- What a call of an engine comes to, and how much is left after it.

-- the most bytes of the lines that may still be taken, and more for the end of the input
abbrev pub lines_left : ℕ → ℕ → ℕ
lines_left count most = (most - count) * (ENDLESS + 1) + 2

-- the most bytes that may still be taken, and more where the end is not decided
abbrev pub bytes_left_at : {G : Type 0} → Stage G → ℕ → ℕ → ℕ
bytes_left_at (Reading zero) count most = lines_left count most
bytes_left_at (Reading (suc dropped)) count most = lines_left count most + (ENDLESS - suc dropped)
bytes_left_at (Pending g Newline) count most = lines_left count most
bytes_left_at (Pending g Input) count most = 1
bytes_left_at (Ended end) count most = 0

abbrev pub bytes_left : {G : Type 0} → EngineValue G → ℕ
bytes_left run = bytes_left_at run.stage run.counts.lines run.most

-- how much is left of the answer that is gone on with, if one is
abbrev pub pending_left : {G : Type 0} → (G → ℕ) → Stage G → ℕ
pending_left left (Reading dropped) = 0
pending_left left (Pending g ended) = left g + 1
pending_left left (Ended end) = 0

-- less is left: bytes that may be taken; or as many of them, and less of an answer; or as much of both, and less text
abbrev pub IsNearer : {G : Type 0} → (G → ℕ) → EngineValue G → EngineValue G → Type 0
IsNearer left old new =
    (bytes_left new < bytes_left old) ⊎ ((bytes_left new ≡ bytes_left old) × (pending_left left new.stage < pending_left left old.stage))
    ⊎ ((bytes_left new ≡ bytes_left old) × (pending_left left new.stage ≡ pending_left left old.stage) × (length new.left < length old.left))

-- the bytes that were taken and given are counted, and no more units were used than were allowed and one step takes
pub record Costs (allowed units taken : ℕ) (old new : Vec ℕ Global) : Type 0 where
  pub counted : taken + vec_len new ≤ vec_len old + UNIT_BYTES * units
  pub few : units ≤ allowed + MAX_STEP_UNITS

-- what is at hand is a part of a line that is not too long, or nothing while a line is dropped
abbrev pub IsPartAt : {G : Type 0} → Stage G → List ℕ → Type 0
IsPartAt (Reading zero) ahead = IsUnbroken ahead × (length ahead ≤ MAX_LINE_BYTES)
IsPartAt (Reading (suc dropped)) ahead = ahead ≡ []
IsPartAt (Pending g ended) ahead = ⊥
IsPartAt (Ended end) ahead = ⊥

-- what comes next: more input, room for a piece of a reply, another turn once the units were used, or nothing
abbrev pub NextIs : {G : Type 0} → Next → ℕ → ℕ → Vec ℕ Global → EngineValue G → List ℕ → Bool → Type 0
NextIs next.Input allowed units replies run ahead last = IsPartAt run.stage ahead × (run.left ≡ []) × (last ≡ false)
NextIs next.Room allowed units replies run ahead last = (run.left ≢ []) × (vec_capacity replies < vec_len replies + MAX_PIECE_BYTES)
NextIs next.Turn allowed units replies run ahead last = allowed ≤ units
NextIs (next.End end) allowed units replies run ahead last = (run.stage ≡ Ended end) × (run.left ≡ [])

-- a call that used units left less, one that used none changed nothing, and what was taken is no more left
pub record Advances {G : Type 0} (left : G → ℕ) (units taken : ℕ) (old new : EngineValue G) : Type 0 where
  pub still : units ≡ 0 → new ≡ old
  pub nearer : 0 < units → IsNearer left old new
  pub fewer : bytes_left new + taken ≤ bytes_left old

-- how many bytes a step took, and by how many units
abbrev pub taken_by : Step → ℕ
taken_by (Went taken units) = taken
taken_by (Waits next) = 0

abbrev pub units_by : Step → ℕ
units_by (Went taken units) = units
units_by (Waits next) = 0

-- a step used units, or nothing can be done before what comes next
abbrev pub StepsTo : {G : Type 0} → Step → Vec ℕ Global → EngineValue G → List ℕ → Bool → Type 0
StepsTo (Went taken units) replies run ahead last = 0 < units
StepsTo (Waits next) replies run ahead last = NextIs next 1 0 replies run ahead last
