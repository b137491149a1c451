-- The records that were counted, and what that comes to.
use Rattle.std.proofs.Common.{◌≡◌, ◌≤◌, ◌+◌, length, ap, ◌∙◌, subst}
use Rattle.std.specs.Prelude.{min, Err}
use Rattle.pn_record.specs.Cells.{spell}
use Rattle.pn_tablet.specs.Copies.{TabletCopyValue}
use Rattle.pn_tablet.specs.CopyCounts.{CountsOn}
use Rattle.pn_tablet.specs.CopyWriting.{CopyCountValue}
use Rattle.pn_tablet.proofs.CopyCounted.{counts_on, many_lines}
use Rattle.pn_tablet.proofs.copy_count.CopyCount.go_on.Goals as goal

pub returns-in-Ok : goal.returns-in-Ok
returns-in-Ok c =
    let inside : CopyCountValue = record { copy = c.self.inside.copy; index = c.self.inside.counted.records } in
    let some = c.in-Ok.ensures.ok.1 ∙ ap (λ (of : TabletCopyValue). min (c.self.inside.counted.records + c.args.records) (length of.cells)) c.copy.view_is in
    subst (λ (count : CopyCountValue). CountsOn c.args.records count c.step_of.result) c.self.view_is (counts_on c.args.records inside c.in-Ok.counted c.step_of.result some c.step_of.ensures)

pub returns-in-Err : goal.returns-in-Err
returns-in-Err c =
    let inside : CopyCountValue = record { copy = c.self.inside.copy; index = c.self.inside.counted.records } in
    let many = subst (λ (of : TabletCopyValue). 18446744073709551616 ≤ length (spell of.cells)) c.copy.view_is c.in-Err.ensures.err in
    subst (λ (count : CopyCountValue). CountsOn c.args.records count (Err c.in-Err.fault)) c.self.view_is (many_lines inside.copy 18446744073709551616 many)
