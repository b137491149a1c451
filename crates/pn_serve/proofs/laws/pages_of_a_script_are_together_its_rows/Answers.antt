-- Each page is the first of the rows that its continuation still asks for.
use Rattle.std.specs.Prelude.{◌≡◌, Some}
use Rattle.pn_region.specs.Regions.{all_cells}
use Rattle.pn_serve.proofs.PageScripts.{Stays, told_had, together, stays}
use Rattle.pn_serve.proofs.laws.pages_of_a_script_are_together_its_rows.Goals as goal

pub returns-clause-same_cells : goal.returns-clause-same_cells
returns-clause-same_cells c = λ told more query pages cells shows none. together cells query pages (told_had (λ region. all_cells region ≡ cells) told more query pages shows) none

pub returns-clause-stayed : goal.returns-clause-stayed
returns-clause-stayed c = λ told more query pages key cell shows none. stays key cell (Some query) pages (told_had (Stays key cell) told more query pages shows) none
