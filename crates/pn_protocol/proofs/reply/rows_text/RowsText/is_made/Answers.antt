-- Something is left before the end.
use Rattle.std.proofs.Common.{◌≡◌, ℕ, List, [], subst}
use Rattle.std.specs.Prelude.{◌↔◌, IsTrue}
use Rattle.pn_protocol.proofs.MadeRows.{made_where}
use Rattle.pn_protocol.proofs.reply.rows_text.RowsText.is_made.Goals as goal

pub returns : goal.returns
returns c = subst (λ (left : List ℕ). IsTrue c.is_end.result ↔ (left ≡ [])) c.self.view_is (made_where c.self.inside.shown c.self.inside.cursor c.is_end.result c.is_end.ensures)
