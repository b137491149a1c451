-- The line says a mark or an image.
use Rattle.std.proofs.Common.{◌≡◌, Ok, false, rules}
use Rattle.pn_tablet.specs.CopyReading.{says_end, line_at}
use Rattle.pn_tablet.specs.declared.fault.CopyTextFault.TheVariants.{Truncated}
use Rattle.pn_tablet.proofs.CopyChunkLaws.{line_said}
use Rattle.pn_tablet.proofs.copy_chunks.read_mark_or_image.Goals as goal

pub returns-else-is_end_line : goal.returns-else-is_end_line
returns-else-is_end_line c =
    let said : line_at c.args.form Truncated c.args.line.now ≡ Ok c.in-Ok.said = search rules in
    let other : says_end c.in-Ok.said ≡ false = search rules in
    line_said c.args.form Truncated c.args.line.now c.in-Ok.said said other
