-- Each continuation asks for the rows after its page, which are fewer each time.
use Rattle.pn_join.proofs.Rising.{Rising-from_sorted}
use Rattle.pn_record.specs.Sets.{bytes_cmp}
use Rattle.pn_scan.proofs.WalkLaws.{walked, walk_ends}
use Rattle.pn_scan.proofs.laws.pages_together_are_the_shown_rows.Goals as goal

pub returns : goal.returns
returns c = record {
  walked = λ bounds looks query pages some sorted are. walked looks (Rising-from_sorted bytes_cmp _ sorted) bounds query pages some are;
  ends = λ bounds looks query some sorted none. walk_ends bounds looks (Rising-from_sorted bytes_cmp _ sorted) none query some;
}
