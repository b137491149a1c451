-- Every tablet is there.
use Rattle.pn_region.proofs.ReadLaws.{no_read_entry, no_get_entry, no_page_entry}
use Rattle.pn_region.proofs.read_laws.no_entry_is_refused.Goals as goal

pub returns-clause-read : goal.returns-clause-read
returns-clause-read c = no_read_entry

pub returns-clause-get : goal.returns-clause-get
returns-clause-get c = no_get_entry

pub returns-clause-page : goal.returns-clause-page
returns-clause-page c = no_page_entry
