-- The message that was read is that of the line, and why another line was refused.
use Rattle.std.proofs.Common.{IfOk, IfErr, Result, sym, subst}
use Rattle.pn_stream.specs.Streams.{Refuses}
use Rattle.pn_stream.specs.Messages.{Message, IsMessageLine}
use Rattle.pn_stream.specs.declared.fault.StreamFault.{StreamFault}
use Rattle.pn_stream.proofs.Steps.{AnyStep, line_found, line_refused, line_any_step}
use Rattle.pn_stream.proofs.next.message_of_line.Goals as goal

pub returns-clause-ok : goal.returns-clause-ok
returns-clause-ok c =
    subst (λ (answer : Result Message StreamFault). IfOk answer (λ message. IsMessageLine c.args.line.now message)) (sym c.due.ensures)
    (line_found c.args.wanted c.args.line.now c.read_message.result c.read_message.ensures.found)

pub returns-clause-err : goal.returns-clause-err
returns-clause-err c =
    subst (λ (answer : Result Message StreamFault). IfErr answer (λ fault. Refuses c.args.wanted c.args.line.now fault)) (sym c.due.ensures)
    (line_refused c.args.wanted c.args.line.now c.read_message.result c.read_message.ensures.exact)

pub returns-clause-any_step : goal.returns-clause-any_step
returns-clause-any_step c =
    subst (λ (answer : Result Message StreamFault). IfErr answer AnyStep) (sym c.due.ensures) (line_any_step c.args.wanted c.read_message.result)
