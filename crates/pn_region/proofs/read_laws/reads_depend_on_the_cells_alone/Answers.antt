-- Each tablet is read in its present state, and has the cells of all tablets at its keys.
use Rattle.pn_region.proofs.ReadLaws.{read_of_all, get_of_all, page_of_all}
use Rattle.pn_region.proofs.read_laws.reads_depend_on_the_cells_alone.Goals as goal

pub returns-clause-read : goal.returns-clause-read
returns-clause-read c = λ region key wanted is serve. read_of_all region is serve key wanted

pub returns-clause-get : goal.returns-clause-get
returns-clause-get c = λ region keys is serve. get_of_all region is serve keys

pub returns-clause-page : goal.returns-clause-page
returns-clause-page c = λ region query is serve. page_of_all region is serve query
