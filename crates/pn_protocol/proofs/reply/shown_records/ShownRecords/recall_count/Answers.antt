-- No more than there are keys.
use Rattle.std.proofs.Common.{◌<◌, length, sym, subst, arith}
use Rattle.pn_protocol.specs.declared.reply.shown_records.ShownRecords.{ShownRecords}
use Rattle.pn_protocol.specs.Reply.Making.{found_in}
use Rattle.pn_protocol.proofs.MadeReplies.{length-zip_le}
use Rattle.pn_protocol.proofs.reply.shown_records.ShownRecords.recall_count.Goals as goal

pub returns-in-Keys : goal.returns-in-Keys
returns-in-Keys c =
    let keys = c.in-Keys.keys in
    subst (λ (shown : ShownRecords). length (found_in shown) < 18446744073709551616) (sym c.in-Keys.is) (omega (arith, length-zip_le keys.items c.in-Keys.field-1.items, keys.ok.0, keys.ok.1, keys.small))
