-- A cursor before the end has a line still to be made.
use Rattle.std.proofs.Common.{◌≡◌, [], subst}
use Rattle.std.specs.Prelude.{◌↔◌, IsTrue}
use Rattle.pn_tablet.specs.CopyWriting.{CopyTextValue}
use Rattle.pn_tablet.proofs.CopyMade.{made_where}
use Rattle.pn_tablet.proofs.copy_text.CopyText.is_made.Goals as goal

pub returns : goal.returns
returns c = subst (λ (text : CopyTextValue). IsTrue c.is_written.result ↔ (text.left ≡ [])) c.self.view_is (made_where c.self.inside.copy c.self.inside.cursor c.is_written.result c.is_written.ensures)
