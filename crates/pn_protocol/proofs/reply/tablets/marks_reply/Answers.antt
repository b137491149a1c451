-- The text is the line of the value that was written.
use Rattle.std.proofs.lemmas.Result.{IfOk-weaker}
use Rattle.pn_protocol.specs.Reply.Short.{marks_reply_data}
use Rattle.pn_json.proofs.AppendedTexts.{has_value}
use Rattle.pn_protocol.proofs.reply.tablets.marks_reply.Goals as goal

pub returns : goal.returns
returns c =
    IfOk-weaker c.finish_line.result _ _ (λ text is. is (marks_reply_data c.args.marks.now) (has_value (marks_reply_data c.args.marks.now) _ _ c.in_ok-writer.ensures c.in_ok-write_marks_object.ensures)) c.finish_line.ensures
