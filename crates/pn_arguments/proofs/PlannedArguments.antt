-- What the command line's parser takes has a command, what a command says is a plan or a fault, and permissions are the number that is read.
use Rattle.clap.specs.declared.error.kind.ErrorKind.TheVariants as error
use Rattle.pn_arguments.specs.Plans as faults
use Rattle.pn_arguments.specs.declared.plans.Plan.TheVariants as plan
use Rattle.pn_arguments.specs.declared.faults.OptionFault.TheVariants as option
use Rattle.pn_arguments.specs.declared.faults.PlanFault.TheVariants as fault
use Rattle.std.proofs.Common.{◌≡◌, ◌⊎◌, inl, inr, ℕ, Bool, true, false, cond, List, [], ◌∷◌, Option, Some, None, Result, Ok, Err, codes, refl, subst, is_some, arith, ◌<◌, ◌^◌, ap, sym, ◌∙◌}
use Rattle.std.specs.Prelude.{◌≤◌, IfOk, IsSome, max, min, nat_le, nat_lt}
use Rattle.std.specs.Option.{ok_or}
use Rattle.std.specs.declared.net.ip_addr.IpAddr.{IpAddr}
use Rattle.clap.specs.Kinds.{Kinds, or_else, IsAmong}
use Rattle.clap.specs.Faults.{check_fault, defaults_fault, entered_fault, fault_of, settle_fault, walk_fault, is_simple_and_free}
use Rattle.clap.specs.Simple.{App, HasMatchesOf, argument_words, built, names_of, subcommand_of, subcommand_rows_of}
use Rattle.clap.specs.declared.error.kind.ErrorKind.{ErrorKind}
use Rattle.clap.specs.declared.parser.matches.ArgMatches.{ArgMatches}
use Rattle.clap.specs.Walk.{Row, Text, Walk, finished, nothing_held, settled, walk, walk_from}
use Rattle.pn_json.proofs.LookUps.{bind_ok}
use Rattle.pn_arguments.specs.Options.{program}
use Rattle.pn_arguments.specs.Plans.{Answers, HasSessions, IsTold, Plans, Says, Tells, FaultValue, told_fault}
use Rattle.pn_arguments.specs.Commands.{address_in, control_in, number_at, plan_in, replay_in, script_in, serve_in, service_in, settings_in, text_at, PlanValue, ServiceValue, check, help, plan_value, replay, serve, version}
use Rattle.pn_arguments.specs.OptionTexts.{permissions_in, streams_in, are_permissions}
use Rattle.pn_serve.specs.declared.server.session_threads.TheConstants.{MAX_SESSIONS}
use Rattle.pn_arguments.specs.declared.plans.Plan.{Plan}
use Rattle.pn_arguments.specs.declared.faults.OptionFault.{OptionFault}
use Rattle.pn_arguments.specs.declared.faults.PlanFault.{PlanFault}
use Rattle.std.proofs.lemmas.Bool.{ltb-true, leb-true, lt-ltb}
use Rattle.std.specs.Char.{digit_value}
use Rattle.std.specs.List.{list_all}
use Rattle.std.specs.Str.Parse.{AllDigits, IsNumeral, digits_value, without_leading_plus}
use Rattle.clap.proofs.WalkLemmas.{both}
use Rattle.pn_arguments.specs.declared.bounds.TheConstants.{MAX_PERMISSIONS, OCTAL}

-- ---- a command is there

last_kinds : (first next : Kinds) → or_else first next ≡ [] → next ≡ []
last_kinds [] next e = e
last_kinds (kind ∷ kinds) next e = absurd (cc)

checked : (rows : List Row) (command : Option (Text × List Row)) → check_fault (built program).top rows (is_some command) ≡ [] → IsSome command
checked rows (Some command) e = refl
checked rows None e = absurd (cc)

-- where the walk over the words ends
abbrev walked_over : List Text → Walk
walked_over words = walk (built program).top.rules (names_of (built program)) nothing_held (argument_words program words)

pub has_command : (words : List Text) → fault_of program words ≡ [] → IsSome (subcommand_of program words)
has_command words e =
    let top = (built program).top in
    let held = (walked_over words).held in
    let entered = last_kinds (walk_fault top (names_of (built program)) (walk_from nothing_held) (argument_words program words)) _ e in
    let settled_last = last_kinds (entered_fault (built program) (walked_over words).stopped) _ entered in
    let defaults = last_kinds (settle_fault top.rules top.args_override_self held) _ settled_last in
    let last = last_kinds (defaults_fault (settled top.rules held).rows top.rules) _ defaults in
    checked (finished top.rules held) (subcommand_of program words) last

some_of : {A : Type 0} (o : Option A) → IsSome o → (a : A) × (o ≡ Some a)
some_of None is = absurd (cc)
some_of (Some a) is = (a, refl)

pub met : (words : List Text) → fault_of program words ≡ [] → (command : Text × List Row) × (subcommand_of program words ≡ Some command)
met words e = some_of _ (has_command words e)

-- what `clap` found, by the definitions of the program
pub matched : (app : App) (words : List Text) (m : ArgMatches) → app ≡ program → (is_simple_and_free app ≡ true → fault_of app words ≡ [])
    → HasMatchesOf app words m → (fault_of program words ≡ []) × (subcommand_rows_of m ≡ subcommand_of program words)
matched app words m is taken has = (
  subst (λ (a : App). is_simple_and_free a ≡ true → fault_of a words ≡ []) is taken refl,
  (subst (λ (a : App). HasMatchesOf a words m) is has refl).1,
)

-- and why it found nothing
pub has_kind : (app : App) (words : List Text) (kind : ErrorKind) → app ≡ program
    → (is_simple_and_free app ≡ true → (kind ≡ error.OutOfMemory) ⊎ IsAmong kind (fault_of app words))
    → (kind ≡ error.OutOfMemory) ⊎ IsAmong kind (fault_of program words)
has_kind app words kind is has =
    subst (λ (a : App). is_simple_and_free a ≡ true → (kind ≡ error.OutOfMemory) ⊎ IsAmong kind (fault_of a words)) is has refl

pub answered : (words : List Text) (kind : ErrorKind) → (kind ≡ error.OutOfMemory) ⊎ IsAmong kind (fault_of program words)
    → (result : Result Plan PlanFault) → Answers kind result → Plans words result
answered words kind (inl memory) (Ok (plan.Help text)) is = absurd (cc)
answered words kind (inr among) (Ok (plan.Help text)) is = subst (λ (k : ErrorKind). IsAmong k (fault_of program words)) is among
answered words kind (inl memory) (Ok (plan.Version text)) is = absurd (cc)
answered words kind (inr among) (Ok (plan.Version text)) is = subst (λ (k : ErrorKind). IsAmong k (fault_of program words)) is among
answered words kind has (Ok plan.Check) is = absurd is
answered words kind has (Ok (plan.Replay settings)) is = absurd is
answered words kind has (Ok (plan.Serve settings service streams)) is = absurd is
answered words kind (inl memory) (Err (fault.Words text)) is = absurd (is.2 memory)
answered words kind (inr among) (Err (fault.Words text)) is = record { kind = kind; among = among; no_help = is.0; no_version = is.1 }
answered words kind has (Err (fault.Bounds refused)) is = absurd is
answered words kind has (Err (fault.Address refused)) is = absurd is
answered words kind has (Err (fault.Control refused)) is = absurd is
answered words kind has (Err (fault.Stream refused)) is = absurd is
answered words kind has (Err fault.Memory) is = tt

-- ---- a plan is to check lines, a script's, or to serve with 1 to 16 sessions

-- a plan to check lines, of a script, or to serve with a few sessions
abbrev IsPlanned : PlanValue → Type 0
IsPlanned check = Unit {0}
IsPlanned (replay settings) = Unit {0}
IsPlanned (serve settings service streams) = (1 ≤ service.sessions) × (service.sessions ≤ MAX_SESSIONS)
IsPlanned help = ⊥
IsPlanned version = ⊥

in_range : (n : ℕ) → (1 ≤ max 1 (min n MAX_SESSIONS)) × (max 1 (min n MAX_SESSIONS) ≤ MAX_SESSIONS)
in_range n = (omega arith, omega arith)

service_plans : (host : IpAddr) (options : List Row) (service : ServiceValue) → service_in host options ≡ Ok service
    → (1 ≤ service.sessions) × (service.sessions ≤ MAX_SESSIONS)
service_plans host options service e =
    let placed = bind_ok (address_in host options) _ service e in
    let moded = bind_ok (permissions_in (text_at (codes "socket-mode") options)) _ service placed.2 in
    let controlled = bind_ok (control_in options) _ service moded.2 in
    let last = controlled.2 in
    let same : number_at (codes "sessions") MAX_SESSIONS options ≡ service.sessions = cc in
    subst (λ n. (1 ≤ n) × (n ≤ MAX_SESSIONS)) same (in_range _)

serve_plans : (written : Option IpAddr) (options : List Row) (value : PlanValue) → serve_in written options ≡ Ok value → IsPlanned value
serve_plans written options value e =
    let one = bind_ok (settings_in options) _ value e in
    let two = bind_ok (ok_or written option.Listen) _ value one.2 in
    let three = bind_ok (service_in two.0 options) _ value two.2 in
    let four = bind_ok (streams_in _ _) _ value three.2 in
    let last = four.2 in
    let same : serve one.0 three.0 four.0 ≡ value = cc in
    subst IsPlanned same (service_plans two.0 options three.0 three.1)

replay_plans : (options : List Row) (value : PlanValue) → replay_in options ≡ Ok value → IsPlanned value
replay_plans options value e =
    let one = bind_ok (settings_in options) _ value e in
    let last = one.2 in
    let same : replay one.0 ≡ value = cc in
    subst IsPlanned same tt

script_plans : (b : Bool) (options : List Row) (value : PlanValue) → cond b (Ok check) (replay_in options) ≡ Ok value → IsPlanned value
script_plans true options value e = let same : check ≡ value = cc in subst IsPlanned same tt
script_plans false options value e = replay_plans options value e

plans : (b : Bool) (written : Option IpAddr) (command : Text × List Row) (value : PlanValue)
    → cond b (serve_in written command.1) (script_in command) ≡ Ok value → IsPlanned value
plans true written command value e = serve_plans written command.1 value e
plans false written command value e = script_plans _ command.1 value e

-- ---- a command's plan is that of the words

abbrev says : (words : List Text) → fault_of program words ≡ [] → (command : Text × List Row) → subcommand_of program words ≡ Some command
    → (result : Result Plan PlanFault) (tells : Tells command result) (said : Result PlanValue OptionFault) → plan_in tells.written command ≡ said
    → Says words said
says words taken command found result tells said means =
    record { taken = taken; command = command; found = found; written = tells.written; reads = tells.reads; means = means }

told : (words : List Text) → fault_of program words ≡ [] → (command : Text × List Row) → subcommand_of program words ≡ Some command
    → (result : Result Plan PlanFault) (tells : Tells command result) (told : FaultValue)
    → (first : OptionFault) × (plan_in tells.written command ≡ Err first) × (told_fault command.1 first ≡ told) → IsTold words told
told words taken command found result tells value shown =
    record { first = shown.0; says = says words taken command found result tells (Err shown.0) shown.1; tells = shown.2 }

no_words : (options : List Row) (first : OptionFault) → told_fault options first ≡ faults.words → ⊥
no_words options (option.Bounds why) e = absurd (cc)
no_words options option.Listen e = absurd (cc)
no_words options option.Socket e = absurd (cc)
no_words options option.SocketMode e = absurd (cc)
no_words options (option.Control why) e = absurd (cc)
no_words options (option.Stream index why) e = absurd (cc)
no_words options option.Memory e = absurd (cc)

pub planned : (words : List Text) → fault_of program words ≡ [] → (command : Text × List Row) → subcommand_of program words ≡ Some command
    → (result : Result Plan PlanFault) → Tells command result → Plans words result
planned words taken command found (Ok plan.Check) tells = says words taken command found _ tells _ tells.shows
planned words taken command found (Ok (plan.Replay settings)) tells = says words taken command found _ tells _ tells.shows
planned words taken command found (Ok (plan.Serve settings service streams)) tells = says words taken command found _ tells _ tells.shows
planned words taken command found (Ok (plan.Help text)) tells = absurd (plans _ tells.written command help tells.shows)
planned words taken command found (Ok (plan.Version text)) tells = absurd (plans _ tells.written command version tells.shows)
planned words taken command found (Err (fault.Words text)) tells = absurd (no_words command.1 tells.shows.0 tells.shows.2)
planned words taken command found (Err (fault.Bounds refused)) tells = told words taken command found _ tells _ tells.shows
planned words taken command found (Err (fault.Address refused)) tells = told words taken command found _ tells _ tells.shows
planned words taken command found (Err (fault.Control refused)) tells = told words taken command found _ tells _ tells.shows
planned words taken command found (Err (fault.Stream refused)) tells = told words taken command found _ tells _ tells.shows
planned words taken command found (Err fault.Memory) tells = tt

pub has_sessions : (words : List Text) (result : Result Plan PlanFault) → Plans words result → IfOk result HasSessions
has_sessions words (Ok plan.Check) is = tt
has_sessions words (Ok (plan.Replay settings)) is = tt
has_sessions words (Ok (plan.Serve settings service streams)) is = plans _ is.written is.command (plan_value (plan.Serve settings service streams)) is.means
has_sessions words (Ok (plan.Help text)) is = tt
has_sessions words (Ok (plan.Version text)) is = tt
has_sessions words (Err found) is = tt

digits_from : (ds : List ℕ) → list_all (λ c. nat_lt (digit_value c) OCTAL) ds ≡ true → AllDigits OCTAL ds
digits_from [] e = tt
digits_from (d ∷ ds) e =
    let parts = both _ _ e in
    (ltb-true _ _ parts.0, digits_from ds parts.1)

digits_back : (ds : List ℕ) → AllDigits OCTAL ds → list_all (λ c. nat_lt (digit_value c) OCTAL) ds ≡ true
digits_back [] h = refl
digits_back (d ∷ ds) h = rw (lt-ltb (digit_value d) OCTAL h.0) (digits_back ds h.1)

-- the number of a numeral, unless it is too great
abbrev pub not_too_great : ℕ → Result ℕ OptionFault
not_too_great n = cond (nat_le n MAX_PERMISSIONS) (Ok n) (Err option.SocketMode)

of_numeral : (text : List ℕ) → IsNumeral OCTAL (without_leading_plus text)
    → permissions_in text ≡ not_too_great (digits_value OCTAL (without_leading_plus text))
of_numeral text h = rw (lt-ltb _ _ h.0, digits_back _ h.1) refl

pub of_number : (text : List ℕ) (n : ℕ)
    → (IsNumeral OCTAL (without_leading_plus text) × (digits_value OCTAL (without_leading_plus text) < 2 ^ 32))
    × (n ≡ digits_value OCTAL (without_leading_plus text))
    → not_too_great n ≡ permissions_in text
of_number text n parsed = ap not_too_great parsed.1 ∙ sym (of_numeral text parsed.0.0)

pub of_none : (text : List ℕ) → ¬ (IsNumeral OCTAL (without_leading_plus text) × (digits_value OCTAL (without_leading_plus text) < 2 ^ 32))
    → Err option.SocketMode ≡ permissions_in text
of_none text none = unless (are_permissions (without_leading_plus text)) refl
  where
    unless : (b : Bool) → are_permissions (without_leading_plus text) ≡ b
        → ◌≡◌ {A = Result ℕ OptionFault} (Err option.SocketMode) (cond b (Ok (digits_value OCTAL (without_leading_plus text))) (Err option.SocketMode))
    unless true is =
        let parts = both _ _ is in
        let octal = both _ _ parts.0 in
        let most = leb-true _ _ parts.1 in
        absurd (none ((ltb-true _ _ octal.0, digits_from _ octal.1), omega (arith, most)))
    unless false is = refl
