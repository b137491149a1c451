-- Each command is added to the program's own words.
use Rattle.std.proofs.Common.{◌≡◌, ◌∙◌, true, ap, ap₂}
use Rattle.std.proofs.lemmas.Result.{IfOk-weaker}
use Rattle.clap.specs.Simple.{App, app_of, app_of_fields, with_subcommand}
use Rattle.clap.specs.declared.builder.command.Command.{Command}
use Rattle.clap.specs.declared.builder.command.Command.TheOpen.{Command-F}
use Rattle.pn_arguments.specs.Options.{named_program}
use Rattle.pn_arguments.proofs.options.command.Goals as goal

-- a program that needs a command
abbrev wanted : App → App
wanted app = record app { top = record app.top { subcommand_required = true } }

-- and has a version
abbrev versioned : App → App
versioned app = wanted (record app { top = record app.top { has_version = true } })

pub returns : goal.returns
returns c =
    let own : app_of c.subcommand_required-command.result ≡ named_program =
    ap app_of_fields c.subcommand_required-command.ensures
    ∙ (ap (λ (f : Command-F Command). app_of_fields (record f { subcommand_required = true })) c.after_help.ensures
    ∙ (ap (λ (f : Command-F Command). wanted (app_of_fields f)) c.version.ensures
    ∙ (ap (λ (f : Command-F Command). versioned (app_of_fields f)) c.about.ensures
    ∙ ap versioned c.new.ensures.app))) in
    let one = c.in_ok-subcommand.ensures.shape c.check.ensures.local ∙ ap₂ with_subcommand own (ap (λ (app : App). app.top) c.check.ensures.app) in
    let two =
    c.in_ok-subcommand-2.ensures.shape c.in_ok-replay.ensures.local ∙ ap₂ with_subcommand one (ap (λ (app : App). app.top) c.in_ok-replay.ensures.app) in
    IfOk-weaker c.subcommand-3.result _ _
    (λ r adds. adds.shape c.in_ok-serve.ensures.local ∙ ap₂ with_subcommand two (ap (λ (app : App). app.top) c.in_ok-serve.ensures.app))
    c.subcommand-3.ensures
