-- The lines that were counted.
use Rattle.std.proofs.Common.{ap, ◌∙◌}
use Rattle.pn_tablet.specs.CopyWriting.{CopyTextValue, lines_of_copy}
use Rattle.pn_tablet.proofs.copy_text.CopyText.line_count.Goals as goal

pub returns : goal.returns
returns c = c.self.invariant.0.lines_are ∙ ap (λ (text : CopyTextValue). lines_of_copy text.copy) c.self.view_is
