-- The first record's cursor.
use Rattle.pn_protocol.specs.Reply.Making.{found_in}
use Rattle.pn_protocol.proofs.MadeRows.{first_cursor}
use Rattle.pn_protocol.proofs.reply.rows_text.RowsText.new.Goals as goal

pub invariant_of-result : goal.invariant_of-result
invariant_of-result c = first_cursor (found_in c.args.shown) 0
