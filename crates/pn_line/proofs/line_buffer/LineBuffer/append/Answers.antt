use Rattle.std.proofs.Common.{arith}
use Rattle.pn_line.specs.Line.{max_kept}
use Rattle.pn_line.proofs.LineLaws.{with_bytes-filled}
use Rattle.pn_line.proofs.line_buffer.LineBuffer.append.Goals as goal

pub returns : goal.returns
unfolding max_kept
returns c =
    let filled = rw c.unwrap.ensures at c.extend_from_slice.ensures.items in
    rw (← c.self.view_is) (with_bytes-filled _ _ _ c.min.result (omega arith) filled)
