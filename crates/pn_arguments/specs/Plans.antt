-- What arguments plan, or why they are refused, as the program prints it.
use Rattle.std.specs.Prelude.{ℕ, if◌then◌else◌, List, [], get_or, codes, Option, Some, None, option_map, ◌≡◌, ◌≢◌, ◌≤◌, ⊤, true, Result, Ok, Err}
use Rattle.std.specs.declared.net.ip_addr.IpAddr.{IpAddr}
use Rattle.clap.specs.Words.{Row, Text, IsAmong, fault_of, subcommand_of}
use Rattle.clap.specs.declared.error.kind.ErrorKind.{ErrorKind}
use Rattle.clap.specs.declared.error.kind.ErrorKind.TheVariants.{DisplayHelp, DisplayVersion, OutOfMemory}
use Rattle.pn_json.specs.Answers.{ShowsUnless}
use Rattle.pn_serve.specs.declared.server.session_threads.TheConstants.{MAX_SESSIONS}
use Rattle.pn_arguments.specs.declared.faults.OptionFault.{OptionFault}
use Rattle.pn_arguments.specs.declared.faults.PlanFault.{PlanFault}
use Rattle.pn_arguments.specs.declared.faults.Refused.{Refused}
use Rattle.pn_arguments.specs.declared.faults.Why.{Why}
use Rattle.pn_arguments.specs.declared.faults.Why.TheVariants.{LongPath, NoAddress, NoPermissions}
use Rattle.pn_arguments.specs.Commands.{is_set, stream_words, text_at, Spells, is_serve, listens_at, plan_in, PlanValue, plan_value}
use Rattle.pn_arguments.specs.Options.{program}
use Rattle.pn_arguments.specs.declared.plans.Plan.{Plan}
use Rattle.pn_arguments.specs.declared.faults.OptionFault.TheVariants.{Memory}
use Rattle.pn_arguments.specs.declared.faults.OptionFault.TheVariants as fault
use Rattle.pn_arguments.specs.declared.faults.PlanFault.TheVariants as refused
use Rattle.pn_arguments.specs.declared.plans.Plan.TheVariants as plan

-- Faults as the program prints them.

-- a text that is refused, and why
pub record RefusedValue : Type 0 where
  pub text : Text
  pub why : Why

-- what `clap` refuses; or bounds, an address, the socket of control sessions or a stream, each with the text and why;
-- or no memory
pub data FaultValue : Type 0 where
  words : FaultValue
  bounds : Option RefusedValue → FaultValue
  address : Option RefusedValue → FaultValue
  control : RefusedValue → FaultValue
  stream : Option RefusedValue → FaultValue
  memory : FaultValue

-- a text that the program refuses
abbrev pub refused_value : Refused → RefusedValue
refused_value refused = record { text = refused.text.now; why = refused.why }

-- a fault of the program
abbrev pub fault_value : PlanFault → FaultValue
fault_value (refused.Words text) = words
fault_value (refused.Bounds refused) = bounds (option_map refused_value refused)
fault_value (refused.Address refused) = address (option_map refused_value refused)
fault_value (refused.Control refused) = control (refused_value refused)
fault_value (refused.Stream refused) = stream (option_map refused_value refused)
fault_value refused.Memory = memory

-- the argument of the stream of an index
abbrev pub word_at : List Row → ℕ → Text
word_at options index = get_or (stream_words options) index []

-- with `--stay`, a text and why it is refused
abbrev pub reason_in : List Row → Text → Why → Option RefusedValue
reason_in options text why = if is_set (codes "stay") options then Some (record { text = text; why = why }) else None

-- a fault of what a command is given, as it is printed
abbrev pub told_fault : List Row → OptionFault → FaultValue
told_fault options (fault.Bounds why) = bounds (reason_in options (text_at (codes "bounds") options) why)
told_fault options fault.Listen = address (reason_in options (text_at (codes "listen") options) NoAddress)
told_fault options fault.Socket = address (reason_in options (text_at (codes "socket") options) LongPath)
told_fault options fault.SocketMode = address (reason_in options (text_at (codes "socket-mode") options) NoPermissions)
told_fault options (fault.Control why) = control (record { text = text_at (codes "control") options; why = why })
told_fault options (fault.Stream index why) = stream (reason_in options (word_at options index) why)
told_fault options fault.Memory = memory

-- What arguments plan, or why they are refused.

-- what the text of the host writes, of a command that listens
abbrev pub Reads : Text × List Row → Option IpAddr → Type 0
Reads command written = is_serve command ≡ true → Spells (listens_at command.1) written

-- a command and its options give this plan, or their first fault
pub record Gives (command : Text × List Row) (result : Result Plan OptionFault) : Type 0 where
  pub written : Option IpAddr
  pub reads : Reads command written
  pub shows : ShowsUnless Memory plan_value result (plan_in written command)

-- what options say is this plan, or a fault that is printed as this one
abbrev pub Shown : List Row → Result Plan PlanFault → Result PlanValue OptionFault → Type 0
Shown options (Ok planned) said = said ≡ Ok (plan_value planned)
Shown options (Err refused.Memory) said = ⊤
Shown options (Err found) said = (first : OptionFault) × (said ≡ Err first) × (told_fault options first ≡ fault_value found)

-- a command and its options give this plan, or their first fault, which is printed
pub record Tells (command : Text × List Row) (result : Result Plan PlanFault) : Type 0 where
  pub written : Option IpAddr
  pub reads : Reads command written
  pub shows : Shown command.1 result (plan_in written command)

-- `clap` accepts the arguments, and their command says this
pub record Says (given : List Text) (said : Result PlanValue OptionFault) : Type 0 where
  pub taken : fault_of program given ≡ []
  pub command : Text × List Row
  pub found : subcommand_of program given ≡ Some command
  pub written : Option IpAddr
  pub reads : Reads command written
  pub means : plan_in written command ≡ said

-- `clap` accepts the arguments, and the first fault of their command is printed as this one
pub record IsTold (given : List Text) (told : FaultValue) : Type 0 where
  pub first : OptionFault
  pub says : Says given (Err first)
  pub tells : told_fault says.command.1 first ≡ told

-- `clap` refuses the arguments, and they ask neither for help nor for the version
pub record IsRefused (given : List Text) : Type 0 where
  pub kind : ErrorKind
  pub among : IsAmong kind (fault_of program given)
  pub no_help : kind ≢ DisplayHelp
  pub no_version : kind ≢ DisplayVersion

-- what the arguments plan, or their first fault
abbrev pub Plans : List Text → Result Plan PlanFault → Type 0
Plans given (Ok (plan.Help text)) = IsAmong DisplayHelp (fault_of program given)
Plans given (Ok (plan.Version text)) = IsAmong DisplayVersion (fault_of program given)
Plans given (Ok planned) = Says given (Ok (plan_value planned))
Plans given (Err (refused.Words text)) = IsRefused given
Plans given (Err refused.Memory) = ⊤
Plans given (Err found) = IsTold given (fault_value found)

-- what is answered if `clap` accepts no arguments
abbrev pub Answers : ErrorKind → Result Plan PlanFault → Type 0
Answers kind (Ok (plan.Help text)) = kind ≡ DisplayHelp
Answers kind (Ok (plan.Version text)) = kind ≡ DisplayVersion
Answers kind (Ok planned) = ⊥
Answers kind (Err (refused.Words text)) = (kind ≢ DisplayHelp) × (kind ≢ DisplayVersion) × (kind ≢ OutOfMemory)
Answers kind (Err refused.Memory) = ⊤
Answers kind (Err found) = ⊥

-- a plan to serve has 1 to 16 sessions
abbrev pub HasSessions : Plan → Type 0
HasSessions (plan.Serve settings service streams) = (1 ≤ service.sessions) × (service.sessions ≤ MAX_SESSIONS)
HasSessions planned = ⊤
