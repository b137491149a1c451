-- The rows of a page rise, and its continuation excludes the last of them.
use Rattle.std.proofs.Common.{Some}
use Rattle.pn_join.proofs.Rising.{sorted_from_Rising}
use Rattle.pn_record.specs.Sets.{bytes_cmp}
use Rattle.pn_scan.specs.Views.{rows_of}
use Rattle.pn_scan.proofs.WalkLaws.{pages_rise}
use Rattle.pn_scan.proofs.laws.keys_rise_from_page_to_page.Goals as goal

pub returns : goal.returns
returns c = record {
  rise = λ bounds query pages lawful some are. sorted_from_Rising bytes_cmp (rows_of pages) (pages_rise bounds lawful (Some query) pages some are).0;
  after = λ bounds query pages lawful some are. (pages_rise bounds lawful (Some query) pages some are).1;
}
