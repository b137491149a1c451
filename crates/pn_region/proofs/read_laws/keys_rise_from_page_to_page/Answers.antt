-- Each page is the first of rows that rise.
use Rattle.pn_join.proofs.Rising.{sorted_from_Rising}
use Rattle.pn_scan.specs.Views.{rows_of}
use Rattle.pn_region.proofs.Common.{bytes_cmp}
use Rattle.pn_region.proofs.ReadLaws.{answered_rise}
use Rattle.pn_region.proofs.read_laws.keys_rise_from_page_to_page.Goals as goal

pub returns : goal.returns
returns c = record {
  rise = λ query pages some are. sorted_from_Rising bytes_cmp (rows_of pages) (answered_rise query pages some are).0;
  after = λ query pages some are. (answered_rise query pages some are).1;
}
