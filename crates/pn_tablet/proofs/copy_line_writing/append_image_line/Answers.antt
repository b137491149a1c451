-- The image and a newline.
use Rattle.std.proofs.Common.{arith}
use Rattle.serde_json.specs.Written.{compact_text}
use Rattle.pn_json.proofs.AppendedTexts.{appended_both}
use Rattle.pn_record.specs.Writing.{image_data}
use Rattle.pn_tablet.proofs.CopyMade.{with_newline}
use Rattle.pn_tablet.proofs.copy_line_writing.append_image_line.Goals as goal

pub returns-clause-added : goal.returns-clause-added
returns-clause-added c = appended_both c.append_image.ensures.added c.append_text.ensures

pub returns-clause-short : goal.returns-clause-short
returns-clause-short c =
    omega (arith, with_newline (compact_text (image_data (record { key = c.args.key.now; version = c.args.version; content = c.args.content.now }))) 52000 c.append_image.ensures.short)
