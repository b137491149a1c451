-- The query's text, or null.
use Rattle.std.specs.Option.{option_copied}
use Rattle.pn_json.proofs.AppendedTexts.{has_value}
use Rattle.pn_protocol.specs.Reply.Records.{next_data}
use Rattle.pn_protocol.proofs.MadeReplies.{value_text}
use Rattle.pn_protocol.proofs.reply.scan.next_text.Goals as goal

pub returns : goal.returns
returns c =
    let d = next_data (option_copied c.args.next) in
    value_text d c.write_next.new.writer c.into_inner.result.items (has_value d c.in_ok-writer.writer c.write_next.new.writer c.in_ok-writer.ensures c.in_ok-write_next.ensures) c.into_inner.ensures.items
