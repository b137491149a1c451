-- Plans of the program, and what commands say with their options.
use Rattle.std.specs.Prelude.{ℕ, Bool, List, String, map, string_bytes, Option, option_map, ◌==◌, ◌&&◌, not, nat_lt, if◌then◌else◌, [], length, codes, Some, None, unwrap_or, option_and_then, min, max, Result, Ok, Err}
use Rattle.std.specs.declared.alloc.Global.{Global}
use Rattle.std.specs.declared.net.ip_addr.IpAddr.{IpAddr}
use Rattle.std.specs.Net.Grammar.{IsIpText}
use Rattle.std.specs.Option.{ok_or}
use Rattle.std.specs.Str.{bytes_eq}
use Rattle.std.specs.Str.Parse.{digits_value, without_leading_plus}
use Rattle.clap.specs.ValueTests.{is_unsigned_in}
use Rattle.clap.specs.Words.{Row, Text, all_of, first_of, one_of}
use Rattle.pn_json.specs.Answers.{◌>>=◌}
use Rattle.pn_apply.specs.declared.reducing.TheConstants.{MAX_WORKERS}
use Rattle.pn_serve.specs.Runs.{SettingsValue}
use Rattle.pn_serve.specs.declared.server.session_threads.TheConstants.{MAX_SESSIONS}
use Rattle.pn_arguments.specs.OptionTexts.{StreamValue, stream_value, streams_in, bounds_in, permissions_in}
use Rattle.pn_arguments.specs.declared.plans.Address.{Address}
use Rattle.pn_arguments.specs.declared.plans.Plan.{Plan}
use Rattle.pn_arguments.specs.declared.plans.Service.{Service}
use Rattle.pn_arguments.specs.declared.options.TheConstants.{MAX_CONNECTIONS, MAX_IDLE, MAX_PORT, MAX_UNREAD}
use Rattle.pn_arguments.specs.declared.faults.OptionFault.{OptionFault}
use Rattle.pn_arguments.specs.declared.streams.TheConstants.{MAX_SOCKET_BYTES}
use Rattle.pn_arguments.specs.declared.plans.Address.TheVariants as address
use Rattle.pn_arguments.specs.declared.plans.Plan.TheVariants as plan
use Rattle.pn_arguments.specs.declared.faults.OptionFault.TheVariants as fault
use Rattle.pn_arguments.specs.declared.faults.Why.TheVariants as why

-- Plans of the program.

-- a host and a port, or the path of a Unix socket
pub data AddressValue : Type 0 where
  port : IpAddr → ℕ → AddressValue
  path : List ℕ → AddressValue

-- the sessions, where the server listens, the permissions of its sockets, the connections of a server that stays, the socket of its
-- control sessions, the seconds of a client that is idle, the bytes of unread replies, whether progress is written, and the path of the
-- copies that the region starts from
pub record ServiceValue : Type 0 where
  pub sessions : ℕ
  pub address : AddressValue
  pub socket_mode : ℕ
  pub stay : Option ℕ
  pub control : Option (List ℕ)
  pub idle : Option ℕ
  pub unread : ℕ
  pub is_progress_told : Bool
  pub copies : Option (List ℕ)

-- lines to check; a script; or the settings, the service and the streams to serve; or help, or the version
pub data PlanValue : Type 0 where
  check : PlanValue
  replay : SettingsValue → PlanValue
  serve : SettingsValue → ServiceValue → List StreamValue → PlanValue
  help : PlanValue
  version : PlanValue

-- where the server of a plan listens
abbrev pub address_value : Address → AddressValue
address_value (address.Port host number) = port host number
address_value (address.Path text) = path (string_bytes text)

-- the bytes of a text, if there is one
abbrev pub optional_bytes : Option (String Global) → Option (List ℕ)
optional_bytes text = option_map string_bytes text

-- how a plan serves
abbrev pub service_value : Service → ServiceValue
service_value service = record {
  sessions = service.sessions;
  address = address_value service.address;
  socket_mode = service.socket_mode;
  stay = service.stay;
  control = optional_bytes service.control;
  idle = service.idle;
  unread = service.unread;
  is_progress_told = service.is_progress_told;
  copies = optional_bytes service.copies;
}

-- what a plan of the program says
abbrev pub plan_value : Plan → PlanValue
plan_value plan.Check = check
plan_value (plan.Replay settings) = replay settings
plan_value (plan.Serve settings service streams) = serve settings (service_value service) (map stream_value streams.items)
plan_value (plan.Help text) = help
plan_value (plan.Version text) = version

-- What commands say with their options.

-- the number that decimal digits write, in 32 bits
abbrev pub number_in : Text → Option ℕ
number_in text =
    if is_unsigned_in 0 4294967295 text then Some (digits_value 10 (without_leading_plus text)) else None

-- the number of an option, from 1 to `most`, as `clap` ensures
abbrev pub number_at : Text → ℕ → List Row → ℕ
number_at name most options = max 1 (min (unwrap_or (option_and_then number_in (one_of name options)) 1) most)

-- the text of an option, which is empty where there is none
abbrev pub text_at : Text → List Row → Text
text_at name options = unwrap_or (first_of name options) []

-- an option is absent, or its text is empty
abbrev pub is_absent : Text → List Row → Bool
is_absent name options = length (text_at name options) == 0

-- an option without value is given
abbrev pub is_set : Text → List Row → Bool
is_set name options = bytes_eq (text_at name options) (codes "true")

-- the connections of a server that stays
abbrev pub stay_in : List Row → Option ℕ
stay_in options = if is_set (codes "stay") options then Some (number_at (codes "connections") MAX_CONNECTIONS options) else None

-- the seconds after which an idle client is ended
abbrev pub idle_in : List Row → Option ℕ
idle_in options = if is_absent (codes "idle") options then None else Some (number_at (codes "idle") MAX_IDLE options)

-- with `--stay`, the path of the Unix socket is too long
abbrev pub is_long : List Row → Bool
is_long options = nat_lt MAX_SOCKET_BYTES (length (text_at (codes "socket") options)) && is_set (codes "stay") options

-- a Unix socket, or else the port of this host
abbrev pub address_in : IpAddr → List Row → Result AddressValue OptionFault
address_in host options =
    if is_absent (codes "socket") options then Ok (port host (number_at (codes "port") MAX_PORT options))
    else if is_long options then Err fault.Socket
    else Ok (path (text_at (codes "socket") options))

-- the Unix socket of control sessions, which are only with `--stay`
abbrev pub control_in : List Row → Result (Option Text) OptionFault
control_in options =
    if is_absent (codes "control") options then Ok None
    else if not (is_set (codes "stay") options) then Err (fault.Control why.NoStay)
    else if nat_lt MAX_SOCKET_BYTES (length (text_at (codes "control") options)) then Err (fault.Control why.LongPath)
    else Ok (Some (text_at (codes "control") options))

-- the text of copies that the region starts from
abbrev pub copies_in : List Row → Option Text
copies_in options = if is_absent (codes "copies") options then None else Some (text_at (codes "copies") options)

-- how sessions are served
abbrev pub service_in : IpAddr → List Row → Result ServiceValue OptionFault
service_in host options = do
  address ← address_in host options
  mode ← permissions_in (text_at (codes "socket-mode") options)
  control ← control_in options
  Ok (record {
    sessions = number_at (codes "sessions") MAX_SESSIONS options;
    address = address;
    socket_mode = mode;
    stay = stay_in options;
    control = control;
    idle = idle_in options;
    unread = number_at (codes "unread") MAX_UNREAD options;
    is_progress_told = is_set (codes "progress") options;
    copies = copies_in options;
  })

-- the arguments of the streams
abbrev pub stream_words : List Row → List Text
stream_words options = unwrap_or (all_of (codes "streams") options) []

-- the text of the host that is listened at
abbrev pub listens_at : List Row → Text
listens_at options = text_at (codes "listen") options

-- the host that a text writes, or none where it writes none
abbrev pub Spells : Text → Option IpAddr → Type 0
Spells text None = (host : IpAddr) → ¬ (IsIpText text host)
Spells text (Some host) = IsIpText text host

-- the layout and the workers that options say
abbrev pub settings_in : List Row → Result SettingsValue OptionFault
settings_in options = do
  layout ← bounds_in (text_at (codes "bounds") options)
  Ok (record { layout = layout; workers = number_at (codes "workers") MAX_WORKERS options })

-- what the options of `serve` say, where the text of the host writes this
abbrev pub serve_in : Option IpAddr → List Row → Result PlanValue OptionFault
serve_in written options = do
  settings ← settings_in options
  host ← ok_or written fault.Listen
  service ← service_in host options
  streams ← streams_in (is_set (codes "stay") options) (stream_words options)
  Ok (serve settings service streams)

-- what the options of `replay` say
abbrev pub replay_in : List Row → Result PlanValue OptionFault
replay_in options = do
  settings ← settings_in options
  Ok (replay settings)

-- the command is `serve`
abbrev pub is_serve : Text × List Row → Bool
is_serve command = bytes_eq command.0 (codes "serve")

-- the command is `check`
abbrev pub is_check : Text × List Row → Bool
is_check command = bytes_eq command.0 (codes "check")

-- what `check` and `replay` say
abbrev pub script_in : Text × List Row → Result PlanValue OptionFault
script_in command = if is_check command then Ok check else replay_in command.1

-- what a command says with its options, where the text of the host writes this
abbrev pub plan_in : Option IpAddr → Text × List Row → Result PlanValue OptionFault
plan_in written command = if is_serve command then serve_in written command.1 else script_in command
