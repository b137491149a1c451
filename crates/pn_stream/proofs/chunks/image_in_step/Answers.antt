-- A message of another position is refused for it.
use Rattle.std.proofs.Common.{refl}
use Rattle.pn_stream.specs.Streams.{Refuses}
use Rattle.pn_stream.proofs.Runs.{passed_on}
use Rattle.pn_stream.proofs.chunks.image_in_step.Goals as goal

pub returns-in_err-check_step-clause-err : goal.returns-in_err-check_step-clause-err
returns-in_err-check_step-clause-err c =
    let wrong = c.in_err-check_step.ensures.err in
    passed_on c.from_residual-in_err-check_step.result c.in_err-check_step.field-0.0 (λ fault. Refuses c.args.wanted c.args.line.now fault) c.from_residual-in_err-check_step.ensures.1
    (rw wrong.0 (refl, wrong.1, (c.in_ok-at.image, c.in_ok-at.ensures.ok)))
