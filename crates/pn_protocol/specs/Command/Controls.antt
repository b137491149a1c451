-- What control sessions ask for, and the lines and JSON values that say it.
use Rattle.std.specs.Prelude.{ℕ, Bool, ◌&&◌, nat_le, List, [], ◌∷◌, codes, if◌then◌else◌, Option, Some, None, option_and_then, Result, Ok, ◌≡◌, ◌⊎◌, true, false, IsTrue}
use Rattle.std.specs.Option.{ok_or}
use Rattle.std.specs.Str.{bytes_eq}
use Rattle.serde_json.specs.Data.{Data, null, Members, number, unsigned, no_members, member}
use Rattle.serde_json.specs.Find.{as_object, as_str, get_member}
use Rattle.pn_json.specs.Answers.{◌>>=◌, fault_as}
use Rattle.pn_json.specs.Members.{whole_number, member_as}
use Rattle.pn_record.specs.Reading.{value_at, IsLine}
use Rattle.pn_protocol.specs.Command.Meaning.{may_be_asked, is_command, CommandValue, adopt, command_value, deliver, relayout}
use Rattle.pn_protocol.specs.Command.Lines.{refusal_of, allowed_in}
use Rattle.pn_protocol.specs.Command.Checks.{fits, named_alone, number_alone}
use Rattle.pn_protocol.specs.Command.Words.{members_of}
use Rattle.pn_protocol.specs.declared.command.control.ControlCommand.{ControlCommand}
use Rattle.pn_protocol.specs.declared.command.control.ControlCommand.TheVariants.{Script, Notices, Advance, Stats, Stop}
use Rattle.pn_protocol.specs.declared.command.control.ControlWord.{ControlWord}
use Rattle.pn_protocol.specs.declared.command.control.TheConstants.{STOP_SECONDS}
use Rattle.pn_protocol.specs.declared.command.parse.AllowedCommands.TheVariants.{Controls}
use Rattle.pn_protocol.specs.declared.command.ranges.TheConstants.{MAX_ADOPTED, MAX_SECONDS}
use Rattle.pn_protocol.specs.declared.command.word.CommandWord.TheVariants.{Adopt}
use Rattle.pn_protocol.specs.declared.refusal.MemberName.{MemberName}
use Rattle.pn_protocol.specs.declared.refusal.MemberName.TheVariants.{Lines, Seconds, Since, Wait, Whole}
use Rattle.pn_protocol.specs.declared.refusal.Refusal.{Refusal}
use Rattle.pn_protocol.specs.declared.refusal.Refusal.TheVariants.{BadShape}
use Rattle.pn_protocol.specs.Command.Grammar.{Says, command_data, notices_command}
use Rattle.pn_protocol.specs.declared.command.control.ControlWord.TheVariants as word
use Rattle.pn_protocol.specs.Command.Meaning as meaning

-- What control sessions ask for, and the lines that say it.

-- a command of scripts; notices, with the number after which they are wanted and the seconds to wait for them; an advance of
-- the marks; what the server has done; or its end, with the most seconds that it may take
pub data ControlValue : Type 0 where
  script : CommandValue → ControlValue
  notices : ℕ → ℕ → ControlValue
  advance : ControlValue
  stats : ControlValue
  stop : ℕ → ControlValue

-- what a command of the program asks for
abbrev pub control_value : ControlCommand → ControlValue
control_value (Script command) = script (command_value command)
control_value (Notices since wait) = notices since wait
control_value Advance = advance
control_value Stats = stats
control_value (Stop seconds) = stop seconds

-- the word that a text is, if control sessions alone have it or read it in another way
abbrev pub control_word_of : List ℕ → Option ControlWord
control_word_of text =
    if bytes_eq text (codes "adopt") then Some word.Adopt else
    (if bytes_eq text (codes "advance") then Some word.Advance else
    (if bytes_eq text (codes "notices") then Some word.Notices else
    (if bytes_eq text (codes "stats") then Some word.Stats else
    (if bytes_eq text (codes "stop") then Some word.Stop else None))))

-- the word that a member is
abbrev pub control_word_in : Option Data → Option ControlWord
control_word_in d = option_and_then control_word_of (option_and_then as_str d)

-- the names of the members of such a command
abbrev pub control_members : ControlWord → List (List ℕ)
control_members word.Adopt = members_of Adopt
control_members word.Advance = codes "do" ∷ []
control_members word.Notices = codes "do" ∷ codes "since" ∷ codes "wait" ∷ []
control_members word.Stats = codes "do" ∷ []
control_members word.Stop = codes "do" ∷ codes "seconds" ∷ []

-- an adoption announces at least one line, and not too many
abbrev pub may_adopt : ℕ → Bool
may_adopt lines = nat_le 1 lines && nat_le lines MAX_ADOPTED

-- this number of seconds may be asked for
abbrev pub are_seconds : ℕ → Bool
are_seconds seconds = nat_le seconds MAX_SECONDS

-- the seconds that a value says, or the usual ones where it is null
abbrev pub seconds_in : ℕ → MemberName → Data → Result ℕ Refusal
seconds_in usual member_name null = Ok usual
seconds_in usual member_name d = ok_or (whole_number d) (BadShape member_name)

-- the seconds that a member says, or the usual ones where it is missing or null
abbrev pub seconds_at : ℕ → MemberName → Option Data → Result ℕ Refusal
seconds_at usual member_name None = Ok usual
seconds_at usual member_name (Some d) = seconds_in usual member_name d

-- a command whose one member is its word
unfoldable pub alone_as : ControlWord → ControlValue → Members → Result ControlValue Refusal
alone_as said command members = do
  named ← named_alone (control_members said) members
  Ok command

-- the number of lines that an adoption announces
unfoldable pub adoption_in : Members → Result ControlValue Refusal
adoption_in members = do
  lines ← number_alone (codes "lines") (control_members word.Adopt) Lines members
  fit ← fits Lines (may_adopt lines)
  Ok (script (adopt lines))

-- notices, and for how long they are waited for
unfoldable pub waiting_in : Members → Result ControlValue Refusal
waiting_in members = do
  since ← member_as whole_number (BadShape Since) (get_member (codes "since") members)
  wait ← seconds_at 0 Wait (get_member (codes "wait") members)
  named ← named_alone (control_members word.Notices) members
  asked ← fits Since (may_be_asked since)
  fit ← fits Wait (are_seconds wait)
  Ok (notices since wait)

-- the end of the server
unfoldable pub stop_in : Members → Result ControlValue Refusal
stop_in members = do
  seconds ← seconds_at STOP_SECONDS Seconds (get_member (codes "seconds") members)
  named ← named_alone (control_members word.Stop) members
  fit ← fits Seconds (are_seconds seconds)
  Ok (stop seconds)

-- a command of scripts that control sessions have
abbrev pub script_as : Data → Result ControlValue Refusal
script_as d = do
  command ← allowed_in Controls d
  Ok (script command)

-- the command of a word, or else one of scripts
abbrev pub control_as : Option ControlWord → Data → Members → Result ControlValue Refusal
control_as (Some word.Adopt) d members = adoption_in members
control_as (Some word.Advance) d members = alone_as word.Advance advance members
control_as (Some word.Notices) d members = waiting_in members
control_as (Some word.Stats) d members = alone_as word.Stats stats members
control_as (Some word.Stop) d members = stop_in members
control_as None d _ = script_as d

-- the command that a value says
unfoldable pub control_in : Data → Result ControlValue Refusal
control_in d = do
  members ← ok_or (as_object d) (BadShape Whole)
  control_as (control_word_in (get_member (codes "do") members)) d members

-- the command that a line of a control session says
abbrev pub control_at : List ℕ → Result ControlValue Refusal
control_at line = fault_as refusal_of (value_at line) >>= control_in

-- Which JSON values are commands of control sessions, and which lines.

-- a member that says this number of seconds; the usual number may also be absent or null
abbrev pub AreSeconds : ℕ → Option Data → ℕ → Type 0
AreSeconds usual None seconds = seconds ≡ usual
AreSeconds usual (Some d) seconds = ((d ≡ null) × (seconds ≡ usual)) ⊎ (d ≡ number (unsigned seconds))

-- a `notices` command, with the value of the seconds that it waits, if that is there
abbrev pub waiting_command : ℕ → Option Data → Data
waiting_command since None = notices_command since
waiting_command since (Some wait) =
    command_data (codes "notices") (member (codes "since") (number (unsigned since)) (member (codes "wait") wait no_members))

-- a `stop` command, with the value of its seconds, if that is there
abbrev pub stop_command : Option Data → Data
stop_command None = command_data (codes "stop") no_members
stop_command (Some seconds) = command_data (codes "stop") (member (codes "seconds") seconds no_members)

-- the value says the command; no limit is looked at
abbrev pub SaysControl : Data → ControlValue → Type 0
SaysControl d (script command) = Says d command
SaysControl d (notices since wait) = (said : Option Data) × AreSeconds 0 said wait × (d ≡ waiting_command since said)
SaysControl d advance = d ≡ command_data (codes "advance") no_members
SaysControl d stats = d ≡ command_data (codes "stats") no_members
SaysControl d (stop seconds) = (said : Option Data) × AreSeconds STOP_SECONDS said seconds × (d ≡ stop_command said)

-- control sessions have this command as scripts have it
abbrev pub is_shared : CommandValue → Bool
is_shared (adopt lines) = false
is_shared (deliver deliveries) = false
is_shared (meaning.notices since) = false
is_shared (relayout bounds) = false
is_shared command = true

-- the parts of a command keep their limits; an adoption has its own
abbrev pub is_control : ControlValue → Bool
is_control (script (adopt lines)) = may_adopt lines
is_control (script command) = is_shared command && is_command command
is_control (notices since wait) = may_be_asked since && are_seconds wait
is_control (stop seconds) = are_seconds seconds
is_control command = true

-- the value is the JSON of the command, which keeps the limits
pub record IsControl (d : Data) (command : ControlValue) : Type 0 where
  pub value : SaysControl d command
  pub limits : IsTrue (is_control command)

-- the line is not too long, and `serde_json` reads it as the JSON of the command
abbrev pub IsControlLine : List ℕ → ControlValue → Type 0
IsControlLine line command = IsLine IsControl line command
