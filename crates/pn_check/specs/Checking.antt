-- Lines that are checked one after another, how a checker answers them, and how a check ends.
use Rattle.std.specs.Prelude.{ℕ, ◌+◌, ◌-◌, ◌^◌, min, Bool, List, [], ◌∷◌, Option, is_some, unwrap_or, filter, length, ◌≡◌, ◌⊎◌, true, false, None, Some, ◌==◌, ◌↔◌, ◌++◌, Result, Ok, Err, IsTrue}
use Rattle.std.specs.List.{flat_map}
use Rattle.std.specs.Io.KnownBytes.{Appends}
use Rattle.pn_line.specs.Text.{last_line, lines_of, text_of}
use Rattle.pn_line.specs.declared.line_buffer.TheConstants.{ENDLESS}
use Rattle.pn_lines.specs.Handling.{Handling, by, Replied, one_if}
use Rattle.pn_lines.specs.declared.handler.EndedBy.{EndedBy}
use Rattle.pn_lines.specs.declared.handler.EndedBy.TheVariants.{Newline, Input}
use Rattle.pn_lines.specs.declared.driver.LinesFault.{LinesFault}
use Rattle.pn_lines.specs.declared.driver.LinesFault.TheVariants.{Closed, EndlessLine, Read, TooManyLines, Write}
use Rattle.pn_lines.specs.declared.engine.Counts.{Counts}
use Rattle.pn_check.specs.Told.{fault_at, told}
use Rattle.pn_check.specs.declared.checker.Checker.{Checker}
use Rattle.pn_check.specs.declared.input.TheConstants.{MAX_LINES}
use Rattle.pn_check.specs.declared.input.CheckFault.{CheckFault}
use Rattle.pn_check.specs.declared.input.CheckFault.TheVariants as fault

-- Lines that are checked one after another: their numbers, those that no region takes, and what is reported of these.

-- the number of the next line; there are no more than 64 bits can count
abbrev pub next : ℕ → ℕ
next count = min (count + 1) (2 ^ 64 - 1)

-- lines with their numbers, after as many as were counted
abbrev pub numbered : ℕ → List (List ℕ) → List (ℕ × List ℕ)
numbered count [] = []
numbered count (line ∷ lines) = (next count, line) ∷ numbered (next count) lines

-- how many lines were counted after these
abbrev pub counted : ℕ → List (List ℕ) → ℕ
counted count [] = count
counted count (line ∷ lines) = counted (next count) lines

-- no region takes the line
abbrev pub is_refused : ℕ × List ℕ → Bool
is_refused line = is_some (fault_at line.1)

-- the lines that no region takes, with their numbers
abbrev pub refused : ℕ → List (List ℕ) → List (ℕ × List ℕ)
refused count lines = filter is_refused (numbered count lines)

-- what is reported of a line
abbrev pub line_told : ℕ × List ℕ → List ℕ
line_told line = unwrap_or (told line.0 line.1) []

-- what is reported of lines: of each that no region takes, in their order
abbrev pub all_told : ℕ → List (List ℕ) → List ℕ
all_told count lines = flat_map line_told (refused count lines)

-- How a checker answers lines.

-- the lines that what ended so is: a last part without a byte is none
abbrev pub lines_by : EndedBy → List ℕ → List (List ℕ)
lines_by Newline line = line ∷ []
lines_by Input part = last_line part

-- what is reported of a line as its reply, which refuses it
abbrev pub replied_of : Option (List ℕ) → Replied
replied_of None = record { text = []; refused = false }
replied_of (Some told) = record { text = told; refused = true }

-- lines were told of
pub record Tells (was now : Checker) (lines : List (List ℕ)) (replied : Replied) : Type 0 where
  pub goes : was.is_spent ≡ false
  pub counts : now.lines ≡ counted was.lines lines
  pub goes_on : now.is_spent ≡ false
  pub text : replied.text ≡ all_told was.lines lines
  pub refuses : one_if replied.refused ≡ length (refused was.lines lines)

-- the next line is reported, unless memory has run out
abbrev pub TellsNext : Checker → List ℕ → Checker → Option (List ℕ) → Type 0
TellsNext was line now text = ((now.is_spent ≡ true) × (text ≡ None))
    ⊎ ((now.is_spent ≡ was.is_spent) × (now.lines ≡ next was.lines) × (text ≡ told (next was.lines) line))

-- memory has run out, and nothing is reported
abbrev pub IsSpent : Checker → Replied → Type 0
IsSpent now replied = (now.is_spent ≡ true) × (replied.text ≡ [])

-- what ended so is reported, unless memory has run out
abbrev pub Checks : Checker → EndedBy → List ℕ → Checker → Replied → Type 0
Checks was ended line now replied = IsSpent now replied ⊎ Tells was now (lines_by ended line) replied

-- between two lines nothing becomes of it
abbrev pub Stays : Checker → Checker → Type 0
Stays was now = now ≡ was

-- how it answers
abbrev pub checks : Handling Checker (Unit {0})
checks = by Stays Checks (λ _ _ _ _ _. ⊥) (λ checker. checker.is_spent ≡ true)

-- How a check ends.

-- a text was read to its end: exactly the lines that no region takes were told, in their order, and whether there is none
pub record HasChecked (text : List ℕ) (is_taken : Bool) (old new : Option (List ℕ)) : Type 0 where
  pub told : Appends old new (all_told 0 (lines_of text))
  pub taken : IsTrue is_taken ↔ (refused 0 (lines_of text) ≡ [])

-- a line has no end, or there are more lines than can be counted
pub record HasNoEnd (text : List ℕ) : Type 0 where
  pub lines : List (List ℕ)
  pub part : List ℕ
  pub rest : List ℕ
  pub text_is : text ≡ text_of lines ++ (part ++ rest)
  pub no_end : (length part ≡ ENDLESS) ⊎ (length lines ≡ MAX_LINES)

-- what the end of the lines, and whether memory has run out, come to
abbrev pub conclusion : Result Counts LinesFault → Bool → Result Bool CheckFault
conclusion (Ok counts) true = Err fault.Memory
conclusion (Ok counts) false = Ok (counts.refused == 0)
conclusion (Err Read) spent = Err fault.Read
conclusion (Err Write) spent = Err fault.Write
conclusion (Err TooManyLines) spent = Err fault.Endless
conclusion (Err EndlessLine) spent = Err fault.Endless
conclusion (Err Closed) spent = Err fault.Memory
