-- All are counted, and the text begins.
use Rattle.std.proofs.Common.{arith, ◌≤◌, length, ap}
use Rattle.pn_tablet.specs.Copies.{TabletCopyValue}
use Rattle.pn_tablet.specs.CopyWriting.{CopyTextValue}
use Rattle.pn_tablet.proofs.CopyCounted.{counted_all}
use Rattle.pn_tablet.proofs.copy_count.step_of.Goals as goal

pub new-text-requires-clause-form : goal.new-text-requires-clause-form
new-text-requires-clause-form c =
    let over : length c.args.copy.cells ≤ c.args.counted.records = omega (arith, c.len.ensures.count, ap (λ (copy : TabletCopyValue). length copy.cells) c.copy.view_is) in
    (counted_all c.args.copy.cells c.args.counted c.requires over).1

pub new-text-requires-clause-weight : goal.new-text-requires-clause-weight
new-text-requires-clause-weight c =
    let over : length c.args.copy.cells ≤ c.args.counted.records = omega (arith, c.len.ensures.count, ap (λ (copy : TabletCopyValue). length copy.cells) c.copy.view_is) in
    (counted_all c.args.copy.cells c.args.counted c.requires over).2

pub returns-in-Ok : goal.returns-in-Ok
returns-in-Ok c =
    let over : length c.args.copy.cells ≤ c.args.counted.records = omega (arith, c.len.ensures.count, ap (λ (copy : TabletCopyValue). length copy.cells) c.copy.view_is) in
    (ap (λ (text : CopyTextValue). text.copy) c.new-text.ensures, ap (λ (text : CopyTextValue). text.left) c.new-text.ensures, over)
