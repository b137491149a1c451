-- What counting the lines of a copy comes to.
use Rattle.std.specs.Prelude.{◌≡◌, ◌≤◌, ◌<◌, ℕ, ◌+◌, ◌^◌, length, Result, Ok, Err}
use Rattle.pn_join.specs.declared.memory.NoMemory.{NoMemory}
use Rattle.pn_tablet.specs.Copies.{TabletCopyValue}
use Rattle.pn_tablet.specs.CopyWriting.{CopyCountValue, lines_of_copy, copy_text}
use Rattle.pn_tablet.specs.declared.copy_count.CopyStep.{CopyStep}
use Rattle.pn_tablet.specs.declared.copy_count.CopyStep.TheVariants.{Done, Next}
use Rattle.pn_tablet.specs.declared.copy_count.LineCount.{LineCount}

-- this number of further records were counted, or all; then the text begins
abbrev pub CountsOn : ℕ → CopyCountValue → Result CopyStep NoMemory → Type 0
CountsOn records count (Ok (Done text)) = (text.copy ≡ count.copy) × (text.left ≡ copy_text count.copy) × (length count.copy.cells ≤ count.index + records)
CountsOn records count (Ok (Next more)) = (more.copy ≡ count.copy) × (more.index ≡ count.index + records) × (more.index < length count.copy.cells)
CountsOn records count (Err fault) = 2 ^ 64 ≤ lines_of_copy count.copy

-- what counting comes to where this much is counted
abbrev pub CountsTo : TabletCopyValue → LineCount → Result CopyStep NoMemory → Type 0
CountsTo copy counted (Ok (Done text)) = (text.copy ≡ copy) × (text.left ≡ copy_text copy) × (length copy.cells ≤ counted.records)
CountsTo copy counted (Ok (Next more)) = (more.copy ≡ copy) × (more.index ≡ counted.records) × (counted.records < length copy.cells)
CountsTo copy counted (Err fault) = 2 ^ 64 ≤ lines_of_copy copy
