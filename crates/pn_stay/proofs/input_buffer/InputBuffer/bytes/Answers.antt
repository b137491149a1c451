-- The bytes from the start to the end.
use Rattle.std.proofs.Common.{◌∙◌}
use Rattle.pn_stay.proofs.Buffers.{slice_within}
use Rattle.pn_stay.proofs.input_buffer.InputBuffer.bytes.Goals as goal

pub returns-clause-held : goal.returns-clause-held
returns-clause-held c = slice_within _ _ c.self.inside.start c.self.inside.end c.deref.ensures.value c.self.invariant.0 ∙ c.self.view_is
