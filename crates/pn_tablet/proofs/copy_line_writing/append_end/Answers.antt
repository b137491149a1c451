-- The count between braces, and a newline.
use Rattle.std.proofs.Common.{◌^◌, ◌<◌, arith}
use Rattle.serde_json.specs.Written.{compact_text}
use Rattle.pn_json.proofs.AppendedTexts.{appended_as, appended_both}
use Rattle.pn_tablet.specs.CopyTexts.{end_data}
use Rattle.pn_tablet.proofs.CopyLineTexts.{short_end}
use Rattle.pn_tablet.proofs.CopyMade.{end_made, with_newline}
use Rattle.pn_tablet.proofs.copy_line_writing.append_end.Goals as goal

pub returns-clause-added : goal.returns-clause-added
returns-clause-added c =
    appended_both (appended_as (end_made c.args.count) (appended_both c.append_text.ensures (appended_both c.append_number.ensures c.append_text-2.ensures))) c.append_text-3.ensures

pub returns-clause-short : goal.returns-clause-short
returns-clause-short c =
    let small : c.args.count < 2 ^ 64 = omega (arith, c.ranges.count.fits) in
    omega (arith, with_newline (compact_text (end_data c.args.count)) 4000 (short_end c.args.count small))
