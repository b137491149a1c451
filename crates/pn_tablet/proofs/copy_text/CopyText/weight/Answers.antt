-- What was weighed as the lines were counted.
use Rattle.std.proofs.Common.{ap, ◌∙◌}
use Rattle.pn_tablet.specs.CopyWriting.{CopyTextValue}
use Rattle.pn_tablet.specs.Tablets.{entries_weight}
use Rattle.pn_tablet.proofs.copy_text.CopyText.weight.Goals as goal

pub returns : goal.returns
returns c = c.self.invariant.1 ∙ ap (λ (text : CopyTextValue). entries_weight text.copy.cells) c.self.view_is
