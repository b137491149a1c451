-- A line that is read as a command, of a script or of a control session, is the command's line, and that is read as it.
use Rattle.std.proofs.Common.{◌≡◌, ◌<◌, ℕ, List, length, true, Result, Ok, Err, IfOk, sym, ap, ◌∙◌, ltb, nat_lt, cond, arith, Bool, false, IsErrOf, IsTrue, refl}
use Rattle.std.proofs.lemmas.Bool.{le-ltb, ltb-false, ltb-true}
use Rattle.std.proofs.lemmas.Bool.Decides.{nat_tests}
use Rattle.std.specs.Option.{ok_or}
use Rattle.serde_json.specs.Data.{Data}
use Rattle.pn_json.specs.Answers.{◌>>=◌, fault_as, ShowsUnless}
use Rattle.pn_json.proofs.LookUps.{bind_ok, no_fault, ok_or_ok, right_same}
use Rattle.pn_record.specs.Limits.{max_line_bytes}
use Rattle.pn_record.specs.Reading.{IsLine, reading, value_at}
use Rattle.pn_record.proofs.ReadImages.{InOrder, in_order}
use Rattle.pn_record.specs.declared.fault.ImageFault.TheVariants as image
use Rattle.pn_protocol.specs.Command.Lines.{refusal_of, is_too_long, allowed_at, command_at, allowed_in, command_in}
use Rattle.pn_protocol.specs.declared.refusal.Refusal.{Refusal}
use Rattle.pn_protocol.specs.declared.refusal.Refusal.TheVariants.{TooLong, Memory}
use Rattle.pn_protocol.proofs.CommandLimits.{as_ok}
use Rattle.pn_protocol.specs.Command.Grammar.{IsCommand, IsCommandLine}
use Rattle.pn_protocol.specs.Command.Meaning.{CommandValue}
use Rattle.pn_protocol.specs.declared.command.parse.AllowedCommands.{AllowedCommands}
use Rattle.pn_protocol.proofs.CommandJson.{command_found, command_again}
use Rattle.pn_protocol.specs.Command.Controls.{IsControl, IsControlLine, ControlValue, control_at, control_in}
use Rattle.pn_protocol.proofs.ControlJson.{control_found, control_again}

-- A line of which something is read is the line of that, and it is read of its line.

-- what is read of a line's value
abbrev pub read_at : {A : Type 0} → (Data → Result A Refusal) → List ℕ → Result A Refusal
read_at read line = fault_as refusal_of (value_at line) >>= read

pub read_found : {A : Type 0} (read : Data → Result A Refusal) (IsSpelled : Data → A → Type 0) → ((d : Data) (a : A) → InOrder d → read d ≡ Ok a → IsSpelled d a) → (line : List ℕ) (a : A) → read_at read line ≡ Ok a → IsLine IsSpelled line a
unfolding value_at
read_found read IsSpelled found line a is =
    let value = bind_ok (fault_as refusal_of (value_at line)) read a is in
    let parts = no_fault (ltb max_line_bytes (length line)) image.TooLong (ok_or (reading line) image.NotJson) value.0 (as_ok refusal_of (value_at line) value.0 value.1) in
    let json = ok_or_ok (reading line) image.NotJson value.0 parts.1 in
    record { short = ltb-false _ _ parts.0; value = value.0; read = json; spelled = found value.0 a (in_order line value.0 json) value.2 }

pub read_again : {A : Type 0} (read : Data → Result A Refusal) (IsSpelled : Data → A → Type 0) → ((d : Data) (a : A) → IsSpelled d a → read d ≡ Ok a) → (line : List ℕ) (a : A) → IsLine IsSpelled line a → read_at read line ≡ Ok a
unfolding value_at
read_again read IsSpelled again line a is = rw (le-ltb max_line_bytes (length line) is.short, is.read) (again is.value a is.spelled)

-- nothing is read of a line that is too long
pub read_long : {A : Type 0} (read : Data → Result A Refusal) (line : List ℕ) → max_line_bytes < length line → read_at read line ≡ Err TooLong
unfolding value_at
read_long read line long =
    let test : nat_lt max_line_bytes (length line) ≡ true = grind (arith, nat_tests) in
    ap (λ b. fault_as refusal_of (cond b (Err image.TooLong) (ok_or (reading line) image.NotJson)) >>= read) test

both_ok : {A : Type 0} (one other : A) → ◌≡◌ {A = Result A Refusal} (Ok one) (Ok other) → one ≡ other
both_ok one other is = cc

-- what is read of one line is one thing
pub one_read : {A : Type 0} (answer : Result A Refusal) (one other : A) → answer ≡ Ok one → answer ≡ Ok other → one ≡ other
one_read answer one other first second = both_ok one other (sym first ∙ second)

-- what was answered is what is read
pub shown_found : {A B : Type 0} (show : A → B) (answer : Result A Refusal) (right : Result B Refusal) (IsRight : B → Type 0) → ((b : B) → right ≡ Ok b → IsRight b) → ShowsUnless Memory show answer right → IfOk answer (λ a. IsRight (show a))
shown_found show (Ok a) right IsRight so shows = so (show a) shows
shown_found show (Err refusal) right IsRight so shows = tt

-- A line that is read as a command is the command's line, and a command's line is read as the command.

-- the line of what is read
pub line_found : (line : List ℕ) (command : CommandValue) → command_at line ≡ Ok command → IsCommandLine line command
unfolding allowed_at
line_found line command is = read_found command_in IsCommand command_found line command is

-- a command's line is read as the command
pub line_again : (line : List ℕ) (command : CommandValue) → IsCommandLine line command → command_at line ≡ Ok command
unfolding allowed_at
line_again line command is = read_again command_in IsCommand command_again line command is

-- what was answered is the line of what is read
pub answer_found : (line : List ℕ) {A : Type 0} (show : A → CommandValue) (answer : Result A Refusal) → ShowsUnless Memory show answer (command_at line) → IfOk answer (λ command. IsCommandLine line (show command))
answer_found line show answer right = shown_found show answer (command_at line) (λ command. IsCommandLine line command) (line_found line) right

-- a command's line was answered as the command
pub answer_again : (line : List ℕ) {A : Type 0} (show : A → CommandValue) (answer : Result A Refusal) (command : CommandValue) → ShowsUnless Memory show answer (command_at line) → IsCommandLine line command → ShowsUnless Memory show answer (Ok command)
answer_again line show answer command right is = right_same Memory show answer (command_at line) (Ok command) right (line_again line command is)

both_not : {A : Type 0} → ◌≡◌ {A = Result A Refusal} (Err TooLong) (Err Memory) → ⊥
both_not is = cc

by_test : (b : Bool) → (b ≡ true → ⊥) → b ≡ false
by_test true never = absurd (never refl)
by_test false never = refl

pub answer_long : (line : List ℕ) {A : Type 0} (answer : Result A Refusal) → (max_line_bytes < length line → IsErrOf answer TooLong) → IsTrue (is_too_long line) → IsErrOf answer TooLong
answer_long line answer long is = long (ltb-true max_line_bytes (length line) is)

-- memory runs out for no line that is too long
pub answer_short : (line : List ℕ) {A : Type 0} (answer : Result A Refusal) → (max_line_bytes < length line → IsErrOf answer TooLong) → IsErrOf answer Memory → is_too_long line ≡ false
answer_short line answer long memory = by_test (is_too_long line) (λ is. both_not (sym (long (ltb-true max_line_bytes (length line) is)) ∙ memory))

-- a line that is too long is refused as such
pub too_long : (allowed : AllowedCommands) (line : List ℕ) → max_line_bytes < length line → allowed_at allowed line ≡ Err TooLong
unfolding allowed_at
too_long allowed line long = read_long (allowed_in allowed) line long

-- no line is the line of two commands
pub one_command : (line : List ℕ) (one other : CommandValue) → IsCommandLine line one → IsCommandLine line other → one ≡ other
one_command line one other first second = one_read (command_at line) one other (line_again line one first) (line_again line other second)

-- A line of a control session that is read as a command is the command's line, and a command's line is read as the command.

-- the line of what is read
pub control_line_found : (line : List ℕ) (command : ControlValue) → control_at line ≡ Ok command → IsControlLine line command
control_line_found line command is = read_found control_in IsControl control_found line command is

-- a command's line is read as the command
pub control_line_again : (line : List ℕ) (command : ControlValue) → IsControlLine line command → control_at line ≡ Ok command
control_line_again line command is = read_again control_in IsControl control_again line command is

-- what was answered is the line of what is read
pub control_answer_found : (line : List ℕ) {A : Type 0} (show : A → ControlValue) (answer : Result A Refusal) → ShowsUnless Memory show answer (control_at line) → IfOk answer (λ command. IsControlLine line (show command))
control_answer_found line show answer right = shown_found show answer (control_at line) (λ command. IsControlLine line command) (control_line_found line) right

-- a command's line was answered as the command
pub control_answer_again : (line : List ℕ) {A : Type 0} (show : A → ControlValue) (answer : Result A Refusal) (command : ControlValue) → ShowsUnless Memory show answer (control_at line) → IsControlLine line command → ShowsUnless Memory show answer (Ok command)
control_answer_again line show answer command right is = right_same Memory show answer (control_at line) (Ok command) right (control_line_again line command is)

-- a line that is too long is refused as such
pub control_too_long : (line : List ℕ) → max_line_bytes < length line → control_at line ≡ Err TooLong
control_too_long line long = read_long control_in line long

-- no line is the line of two commands
pub control_one_command : (line : List ℕ) (one other : ControlValue) → IsControlLine line one → IsControlLine line other → one ≡ other
control_one_command line one other first second = one_read (control_at line) one other (control_line_again line one first) (control_line_again line other second)
