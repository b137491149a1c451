-- Both pages are cut from the same rows.
use Rattle.std.proofs.Common.{Ok, sym, ap, ◌∙◌}
use Rattle.pn_record.specs.Cells.{Entries}
use Rattle.pn_scan.specs.Shown.{shown_rows}
use Rattle.pn_scan.specs.Pages.{first_page}
use Rattle.pn_scan.proofs.WalkLaws.{page_of_cells}
use Rattle.pn_scan.proofs.laws.a_page_depends_on_the_cells_alone.Goals as goal

pub returns : goal.returns
returns c = λ bounds others looks more query none none_too same.
    page_of_cells bounds query looks none
    ∙ ap (λ (cells : Entries). Ok (first_page query (shown_rows query cells))) same
    ∙ sym (page_of_cells others query more none_too)
