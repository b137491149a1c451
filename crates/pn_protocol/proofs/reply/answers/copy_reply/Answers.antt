-- All lines are counted at once.
use Rattle.pn_protocol.proofs.MadeReplies.{copy_made}
use Rattle.pn_protocol.proofs.reply.answers.copy_reply.Goals as goal

pub returns-in-Ok-Done : goal.returns-in-Ok-Done
returns-in-Ok-Done c =
    let counted = rw c.in-Ok-Done.field-0-is at c.in-Ok-Done.ensures in
    let all = rw c.new.ensures at counted in
    copy_made c.args.copy c.in-Ok-Done.text all.0 all.1
