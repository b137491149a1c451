-- The cell of the image joins what is at its key.
use Rattle.std.proofs.Common.{[], ◌∷◌, sym, subst}
use Rattle.std.proofs.lemmas.Result.{on_ok_weaker}
use Rattle.pn_record.specs.Sets.{CellValue}
use Rattle.pn_record.specs.Cells.{Holds}
use Rattle.pn_record.proofs.CellMaps.{Holds-joined, Holds-one}
use Rattle.pn_record.proofs.records.add_image.Goals as goal

pub returns-clause-ok : goal.returns-clause-ok
returns-clause-ok c =
    let image = c.args.image in
    let entry = (image.key, c.in_ok-cell.cell) ∷ [] in
    let one : Holds entry (image ∷ []) = subst (λ (cell : CellValue). Holds ((image.key, cell) ∷ []) (image ∷ [])) (sym c.in_ok-cell.ensures.0) (Holds-one image) in
    on_ok_weaker c.join_entry.result (λ is. λ taken held. Holds-joined c.args.records.now entry c.join_entry.new.self is taken (image ∷ []) held one) c.join_entry.ensures.ok
