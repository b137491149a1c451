-- The line's bytes are taken from the front of the buffer's.
use Rattle.std.proofs.Common.{take, ◌∙◌, arith}
use Rattle.pn_stay.proofs.Buffers.{TakesPiece-front}
use Rattle.pn_stay.proofs.input_buffer.InputBufferSource.take_some.Goals as goal

pub returns-clause-takes : goal.returns-clause-takes
returns-clause-takes c =
    TakesPiece-front _ _ _ (take c.self.inside.end c.self.inside.bytes.items) c.self.inside.start _ _ _ _
    (c.new-shown.ensures ∙ c.bytes.ensures.held) c.self.view_is c.in_ok-piece.ensures.takes (omega (arith, c.len.ensures.count, c.len-before.ensures.count, c.newlines.ensures))
