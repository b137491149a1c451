-- The line says a command, or it was refused.
use Rattle.std.proofs.Common.{Err, ap, subst, ◌∙◌}
use Rattle.std.specs.Prelude.{Result}
use Rattle.pn_json.specs.Answers.{ShowsUnless}
use Rattle.pn_protocol.specs.Command.Lines.{lookup_at}
use Rattle.pn_protocol.specs.Command.Meaning.{command_value}
use Rattle.pn_protocol.specs.declared.command.Command.{Command}
use Rattle.pn_protocol.specs.declared.refusal.Refusal.{Refusal}
use Rattle.pn_protocol.specs.declared.refusal.Refusal.TheVariants.{Memory}
use Rattle.pn_scan.specs.Paging.{Stays}
use Rattle.pn_serve.proofs.Lookups.{answers_said, answers_err}
use Rattle.pn_serve.proofs.sessions.lookups.answer_with_kind.Goals as goal

pub returns-in-Ok-clause-answers : goal.returns-in-Ok-clause-answers
returns-in-Ok-clause-answers c =
    answers_said Stays _ _ c.args.line.now _ c.begin.result
    (subst (λ (read : Result Command Refusal). ShowsUnless Memory command_value read (lookup_at c.args.line.now)) c.in-Ok.is c.kind_and_lookup_of-kind.ensures.exact)
    c.begin.ensures.begins

pub returns-in-Err-clause-answers : goal.returns-in-Err-clause-answers
returns-in-Err-clause-answers c =
    answers_err Stays _ c.args.line.now _
    (subst (λ (read : Result Command Refusal). ShowsUnless Memory command_value read (lookup_at c.args.line.now)) c.in-Err.is c.kind_and_lookup_of-kind.ensures.exact)
    (λ is. c.kind_and_lookup_of-kind.ensures.memory (c.in-Err.is ∙ ap Err is))
