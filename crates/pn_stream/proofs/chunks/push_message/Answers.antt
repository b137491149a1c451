-- The image of the message that was read is added.
use Rattle.pn_stream.specs.Streams.{Refuses}
use Rattle.pn_stream.specs.declared.fault.StreamFault.TheVariants.{Memory}
use Rattle.pn_stream.proofs.Runs.{passed_on}
use Rattle.pn_stream.proofs.chunks.push_message.Goals as goal

pub returns-clause-ok : goal.returns-clause-ok
returns-clause-ok c = record { image = c.in_ok-image.image; said = c.in_ok-image.ensures.ok; grown = c.in_ok-push_one.ensures.ok }

pub returns-in_err-push_one-clause-err : goal.returns-in_err-push_one-clause-err
returns-in_err-push_one-clause-err c =
    passed_on c.from_residual-in_err-push_one.result Memory (λ fault. Refuses c.args.wanted c.args.line.now fault) c.from_residual-in_err-push_one.ensures.1 tt
