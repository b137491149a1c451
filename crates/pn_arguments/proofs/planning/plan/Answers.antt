-- The plan is that of what `clap` answers.
use Rattle.std.proofs.Common.{map, string_bytes, sym, subst, ◌∙◌}
use Rattle.std.specs.Prelude.{IsSome}
use Rattle.pn_arguments.proofs.PlannedArguments.{answered, has_command, has_kind, has_sessions, matched, met, planned}
use Rattle.pn_arguments.proofs.planning.plan.Goals as goal

pub plan_of-requires : goal.plan_of-requires
plan_of-requires c =
    let words = map string_bytes c.args.words.now in
    let found = matched _ words c.in-Ok.matches c.in_ok-command.ensures c.in-Ok.ensures.kinds c.in-Ok.ensures.matches in
    subst IsSome (sym found.1) (has_command words found.0)

pub returns-in-Ok-clause-plans : goal.returns-in-Ok-clause-plans
returns-in-Ok-clause-plans c =
    let words = map string_bytes c.args.words.now in
    let found = matched _ words c.in-Ok.matches c.in_ok-command.ensures c.in-Ok.ensures.kinds c.in-Ok.ensures.matches in
    let command = met words found.0 in
    planned words found.0 command.0 command.1 c.plan_of.result (c.plan_of.ensures command.0 (found.1 ∙ command.1))

pub returns-in-Ok-clause-sessions : goal.returns-in-Ok-clause-sessions
returns-in-Ok-clause-sessions c =
    let words = map string_bytes c.args.words.now in
    let found = matched _ words c.in-Ok.matches c.in_ok-command.ensures c.in-Ok.ensures.kinds c.in-Ok.ensures.matches in
    let command = met words found.0 in
    has_sessions words _ (planned words found.0 command.0 command.1 c.plan_of.result (c.plan_of.ensures command.0 (found.1 ∙ command.1)))

pub returns-in-Err-clause-plans : goal.returns-in-Err-clause-plans
returns-in-Err-clause-plans c =
    let words = map string_bytes c.args.words.now in
    answered words _ (has_kind _ words _ c.in_ok-command.ensures c.in-Err.ensures.kinds) c.answer_to.result c.answer_to.ensures

pub returns-in-Err-clause-sessions : goal.returns-in-Err-clause-sessions
returns-in-Err-clause-sessions c =
    let words = map string_bytes c.args.words.now in
    has_sessions words _ (answered words _ (has_kind _ words _ c.in_ok-command.ensures c.in-Err.ensures.kinds) c.answer_to.result c.answer_to.ensures)
