-- The lines of the contents so far were written.
use Rattle.std.proofs.Common.{map, take}
use Rattle.pn_record.specs.Limits.{ContentValue}
use Rattle.pn_tablet.specs.CopyWriting.{WritesLines}
use Rattle.pn_tablet.specs.declared.copy_line.CopyLine.TheVariants.{Record}
use Rattle.pn_tablet.proofs.copy_reading.write_cell.Given as goal

abbrev pub invariant-loop-content : goal.invariant-loop-content
invariant-loop-content l = WritesLines l.initial.text.items l.text.items (map (λ (shown : ContentValue). Record (record { key = l.key; version = l.cell.0; content = shown })) (take l.content-index l.contents))
