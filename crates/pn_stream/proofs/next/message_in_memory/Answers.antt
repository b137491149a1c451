-- Each attempt reads the same line.
use Rattle.std.proofs.Common.{Ok, IfOk, IfErr, rules, of_calls}
use Rattle.pn_stream.specs.Streams.{Refuses}
use Rattle.pn_stream.specs.Messages.{IsMessageLine}
use Rattle.pn_stream.proofs.Runs.{makes_anew}
use Rattle.pn_stream.proofs.next.message_in_memory.Goals as goal

pub returns-clause-ok : goal.returns-clause-ok
returns-clause-ok g c =
    makes_anew _ _ (Ok _) (λ read. IfOk read (IsMessageLine c.args.line.now)) c.in_ok-make_in_memory.ensures.made (λ f answer h s. search (rules, of_calls)) (λ read h s. search (rules, of_calls))

pub returns-clause-err : goal.returns-clause-err
returns-clause-err g c =
    makes_anew _ _ (Ok _) (λ read. IfErr read (Refuses c.args.wanted c.args.line.now)) c.in_ok-make_in_memory.ensures.made (λ f answer h s. search (rules, of_calls)) (λ read h s. search (rules, of_calls))
