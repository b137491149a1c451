-- The fault of the message that was read is that of its line.
use Rattle.std.proofs.Common.{◌≡◌, Option, sym, ◌∙◌, subst}
use Rattle.std.specs.Prelude.{IfOk}
use Rattle.pn_record.specs.declared.fault.ImageFault.{ImageFault}
use Rattle.pn_stream.specs.Messages.{message_at}
use Rattle.pn_check.proofs.CheckedLines.{message_fault}
use Rattle.pn_check.proofs.told.fault_of_line.Goals as goal

pub returns-then-is_message : goal.returns-then-is_message
returns-then-is_message c =
    subst (λ (right : Option ImageFault). IfOk c.fault_unless_memory.result (λ fault. fault ≡ right))
    (message_fault c.args.line.now _ c.requires (sym c.is_message.ensures ∙ c.if-is_message.true))
    (c.fault_unless_memory.ensures (message_at c.args.line.now) c.read_message.ensures.exact)
