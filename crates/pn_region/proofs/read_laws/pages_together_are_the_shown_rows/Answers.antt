-- The cells of all tablets rise, and each continuation asks for the rows after its page.
use Rattle.pn_region.proofs.ReadLaws.{pages_walked, pages_end, pages_of_cells}
use Rattle.pn_region.proofs.read_laws.pages_together_are_the_shown_rows.Goals as goal

pub returns-clause-walked : goal.returns-clause-walked
returns-clause-walked c = λ region query pages is some are none. pages_walked region is query pages some are none

pub returns-clause-ends : goal.returns-clause-ends
returns-clause-ends c = λ region query is serve some. pages_end region is query serve some

pub returns-clause-same_cells : goal.returns-clause-same_cells
returns-clause-same_cells c = pages_of_cells
