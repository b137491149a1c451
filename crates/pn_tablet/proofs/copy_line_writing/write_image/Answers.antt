-- The line of an image.
use Rattle.std.proofs.lemmas.Result.{IfOk-weaker}
use Rattle.pn_record.specs.declared.records.Image.{Image}
use Rattle.pn_record.specs.Writing.{image_data}
use Rattle.pn_tablet.proofs.CopyWritten.{line_from, image_written}
use Rattle.pn_tablet.proofs.copy_line_writing.write_image.Goals as goal

pub returns : goal.returns
returns c =
    let image : Image = record { key = c.args.key.now; version = c.args.version; content = c.args.content.now } in
    IfOk-weaker c.end_line.result _ _ (λ text line. image_written c.args.text.items text.items image c.in_ok-put_image.ensures.limits
    (line_from c.args.text.items text.items (image_data image) c.new-line.ensures.before c.new-line.ensures.tokens c.in_ok-put_image.ensures.value line)) c.end_line.ensures
