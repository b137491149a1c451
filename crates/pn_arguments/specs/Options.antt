-- The commands of the program and their options, as `clap` reads arguments by them.
use Rattle.std.specs.Prelude.{ℕ, [], ◌∷◌, true, codes, Some, pos}
use Rattle.clap.specs.Words.{App, Rule, Text, new_app, new_rule, with_rule, with_subcommand}
use Rattle.clap.specs.declared.builder.action.ArgAction.TheVariants.{Append, SetTrue}
use Rattle.clap.specs.declared.builder.value_parser.ValueParser.{ValueParser}
use Rattle.clap.specs.declared.builder.value_parser.ValueParser.TheVariants as values
use Rattle.pn_apply.specs.declared.reducing.TheConstants.{MAX_WORKERS}
use Rattle.pn_arguments.specs.declared.options.TheConstants.{MAX_CONNECTIONS, MAX_IDLE, MAX_PORT, MAX_UNREAD}
use Rattle.pn_serve.specs.declared.server.session_threads.TheConstants.{MAX_SESSIONS}

-- an option with one value, and its default
abbrev pub option_of : Text → Text → Rule
option_of name default = record (new_rule name) { long = Some name; value_names = 1; defaults = default ∷ [] }

-- an option whose value is a number from 1 to `most`
abbrev pub number_option : Text → Text → ℕ → Rule
number_option name default most = record (option_of name default) { parser = Some (values.Signed (pos 1) (pos most)) }

-- the keys between tablets, as JSON
abbrev pub bounds_option : Rule
bounds_option = option_of (codes "bounds") (codes "[]")

-- how many workers a round has
abbrev pub workers_option : Rule
workers_option = number_option (codes "workers") (codes "1") MAX_WORKERS

-- how many sessions are served
abbrev pub sessions_option : Rule
sessions_option = number_option (codes "sessions") (codes "4") MAX_SESSIONS

-- the port that is listened on
abbrev pub port_option : Rule
port_option = number_option (codes "port") (codes "7070") MAX_PORT

-- an option without value
abbrev pub flag_option : Text → Rule
flag_option name = record (new_rule name) { long = Some name; action = Some SetTrue }

-- whether the program goes on until a signal ends it, or a control session stops it
abbrev pub stay_flag : Rule
stay_flag = flag_option (codes "stay")

-- an option with one value, and none where it is absent
abbrev pub plain_option : Text → ValueParser → Rule
plain_option name parser = record (new_rule name) { long = Some name; value_names = 1; parser = Some parser }

-- the Unix socket of control sessions
abbrev pub control_option : Rule
control_option = plain_option (codes "control") values.NonEmptyString

-- the address that is listened at
abbrev pub listen_option : Rule
listen_option = option_of (codes "listen") (codes "127.0.0.1")

-- the Unix socket that is listened on
abbrev pub socket_option : Rule
socket_option = plain_option (codes "socket") values.NonEmptyString

-- the permissions of the sockets of clients and of streams
abbrev pub socket_mode_option : Rule
socket_mode_option = option_of (codes "socket-mode") (codes "0600")

-- after how many seconds an idle client is ended
abbrev pub idle_option : Rule
idle_option = plain_option (codes "idle") (values.Signed (pos 1) (pos MAX_IDLE))

-- how many bytes of records unread replies may keep
abbrev pub unread_option : Rule
unread_option = number_option (codes "unread") (codes "64000000") MAX_UNREAD

-- whether progress is written to standard error
abbrev pub progress_flag : Rule
progress_flag = flag_option (codes "progress")

-- how many connections are served at once
abbrev pub connections_option : Rule
connections_option = number_option (codes "connections") (codes "512") MAX_CONNECTIONS

-- the text of copies that the region starts from
abbrev pub copies_option : Rule
copies_option = plain_option (codes "copies") values.NonEmptyString

-- at least one stream, one argument each
abbrev pub streams_words : Rule
streams_words = record (new_rule (codes "streams")) { value_names = 1; action = Some Append; required = true }

-- a script is answered
abbrev pub replay : App
replay = with_rule (with_rule (new_app (codes "replay")) bounds_option) workers_option

-- where and how long sessions are served
abbrev pub with_service : App → App
with_service app =
    with_rule (with_rule (with_rule (with_rule (with_rule
    (with_rule (with_rule (with_rule (with_rule (with_rule (with_rule app sessions_option) listen_option) port_option) socket_option)
    socket_mode_option) stay_flag) control_option) connections_option) idle_option) unread_option) progress_flag

-- and from which copies the region starts
abbrev pub with_start : App → App
with_start app = with_rule (with_service app) copies_option

-- streams are read while sessions are served
abbrev pub serve : App
serve = with_rule (with_start (with_rule (with_rule (new_app (codes "serve")) bounds_option) workers_option)) streams_words

-- lines are checked
abbrev pub check : App
check = new_app (codes "check")

-- the program, which needs a command, and has a version
abbrev pub named_program : App
named_program = record (new_app (codes "pnuts")) {
  top = record (new_app (codes "pnuts")).top { has_version = true; subcommand_required = true };
}

-- the program with its commands
abbrev pub program : App
program = with_subcommand (with_subcommand (with_subcommand named_program check.top) replay.top) serve.top
