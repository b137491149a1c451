-- The first newline of the first bytes is the first of all.
use Rattle.std.proofs.Common.{arith}
use Rattle.pn_line.specs.declared.line_buffer.TheConstants.{MAX_KEPT_BYTES}
use Rattle.pn_lines.proofs.Left.{NewlineAt-window}
use Rattle.pn_lines.proofs.finding.find_line.Goals as goal

pub returns-in-Some : goal.returns-in-Some
returns-in-Some c =
    let found = NewlineAt-window c.args.bytes.now MAX_KEPT_BYTES c.in-Some.at c.in-Some.ensures.some in
    (found.0, omega (arith, found.1))
