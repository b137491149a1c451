-- The head, the rows and the end.
use Rattle.std.proofs.Common.{◌∙◌}
use Rattle.pn_protocol.proofs.MadeReplies.{page_made}
use Rattle.pn_protocol.proofs.reply.text.ReplyText.page.Goals as goal

pub returns : goal.returns
returns c = c.rows.ensures ∙ page_made c.args.page.head.items c.args.page.rows.items
