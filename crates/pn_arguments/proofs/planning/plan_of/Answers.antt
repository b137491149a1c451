-- The command that was met has the name and the options that were found.
use Rattle.std.proofs.Common.{◌≡◌, List, Option, Some, None, false, refl, subst, ap₂, ◌∙◌, is_some, option_map}
use Rattle.std.specs.Box.{box_value}
use Rattle.std.specs.Prelude.{IsSome, Box}
use Rattle.clap.specs.Simple.{subcommand_rows, subcommand_rows_of}
use Rattle.clap.specs.Walk.{Row, Text}
use Rattle.clap.specs.declared.parser.matches.ArgMatches.TheViews.{out-ArgMatches, out-SubCommand}
use Rattle.clap.specs.declared.parser.matches.SubCommand.{SubCommand}
use Rattle.pn_arguments.specs.Plans.{Tells}
use Rattle.pn_arguments.proofs.planning.plan_of.Goals as goal

-- a name and options that were found are the command
is_command : (o : Option (Text × List Row)) (found : Text × List Row) (name : Text) (options : List Row) → o ≡ Some found
    → Some name ≡ option_map (λ p. p.0) o → Some options ≡ option_map (λ p. p.1) o → (name, options) ≡ found
is_command None found name options e n r = absurd (cc)
is_command (Some command) found name options e n r =
    let same : command ≡ found = cc in
    let one : name ≡ command.0 = cc in
    let two : options ≡ command.1 = cc in
    ap₂ (λ (n : Text) (o : List Row). (n, o)) one two ∙ same

name_in : {Z : Type 0} (o : Option (Box SubCommand Z)) → option_map (λ b. (out-SubCommand (box_value b)).name.now) o ≡ option_map (λ p. p.0) (subcommand_rows o)
name_in None = refl
name_in (Some b) = refl

none_met : {Z : Type 0} (o : Option (Box SubCommand Z)) → false ≡ is_some o → IsSome (subcommand_rows o) → ⊥
none_met None none is = absurd (cc)
none_met (Some b) none is = absurd (cc)

pub returns : goal.returns
returns c = λ found is.
    let command = is_command (subcommand_rows_of c.args.matches.now) found _ _ is
    (c.in-Some.ensures.name ∙ name_in (out-ArgMatches c.args.matches.now).subcommand) c.in-Some.ensures.rows in
    subst (λ (command : Text × List Row). Tells command c.told_plan.result) command c.told_plan.ensures

pub unreachable-requires : goal.unreachable-requires
unreachable-requires c = none_met (out-ArgMatches c.args.matches.now).subcommand c.in-None.ensures.variant c.requires
