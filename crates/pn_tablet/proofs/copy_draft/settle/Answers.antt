-- The last image is added to the cells.
use Rattle.std.proofs.Common.{OnOk, ◌≡◌, sym, subst, Option}
use Rattle.pn_record.specs.declared.records.Image.{Image}
use Rattle.pn_tablet.specs.Copies.{with_last}
use Rattle.pn_tablet.proofs.Keeping.{taken}
use Rattle.pn_tablet.proofs.copy_draft.settle.Goals as goal

pub returns-in-Some : goal.returns-in-Some
returns-in-Some c =
    subst (λ (last : Option Image). OnOk c.add_image.result (c.add_image.new.records ≡ with_last c.args.cells.now last)) (sym c.in-Some.is)
    (taken c.add_image.result c.args.cells.now c.add_image.new.records c.in-Some.image c.requires c.add_image.ensures.ok c.add_image.ensures.rising)
